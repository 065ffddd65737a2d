use Rattle.tw_shard.proofs.Steps.{undone}
use Rattle.tw_shard.proofs.shard.Shard.undo_last.Goals as goal

pub returns-clause-ok : goal.returns-clause-ok
returns-clause-ok c = λ stop.
    undone c.args.self.now c.args.router c.may_undo.ensures.whole c.in_default.ensures.own stop c.step_back.new.self c.in_ok-step_back.ensures.ok (c.in_default.ensures.told stop)
