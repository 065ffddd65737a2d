use Rattle.std.proofs.Common.{slice_get, ap, sym}
use Rattle.tw_engine.proofs.Turns.{committed_none}
use Rattle.tw_process.specs.Behaviour.{simulation_of}
use Rattle.tw_engine.proofs.committed.Committed.new.Goals as goal

pub invariant_of-result : goal.invariant_of-result
invariant_of-result g c =
    let m = simulation_of g.M.Event.Timed.parts g.M.Event.Ord.cmp (g.M.ProcessModel.behaviour c.args.model.now) in
    ap (λ l. slice_get l 0) (sym (committed_none m c.model_is_lawful.ensures.lawful c.args.number c.new.result.items c.new.ensures.items))

pub returns : goal.returns
returns g c =
    let m = simulation_of g.M.Event.Timed.parts g.M.Event.Ord.cmp (g.M.ProcessModel.behaviour c.args.model.now) in
    ap (λ l. record { model = c.args.model.now; number = c.args.number; past = l }) (committed_none m c.model_is_lawful.ensures.lawful c.args.number c.new.result.items c.new.ensures.items)
