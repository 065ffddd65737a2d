use Rattle.tw_process.proofs.Lawful.{lawful}
use Rattle.tw_process.proofs.laws.model_is_lawful.Goals as goal

pub returns-clause-lawful : goal.returns-clause-lawful
returns-clause-lawful g c =
    lawful g.M.Event.Timed.parts g.M.Event.Ord.cmp (g.M.ProcessModel.behaviour c.args.model.now) g.met.M.Event.Ord.total g.met.M.Event.Timed.exact
    g.met.M.Event.Timed.timely c.keeps_laws.ensures.behaved
