use Rattle.tw_ordered.specs.Buckets.{together}
use Rattle.tw_queue.proofs.Fars.{appended}
use Rattle.tw_queue.proofs.far.FarEvents.append_to.Goals as goal

pub returns : goal.returns
returns c =
    appended c.append_all.result c.append_all.new.events.items c.args.events.now.items (together c.self.inside.buckets) c.args.self.now c.self.view_is c.append_all.ensures
