use Rattle.std.proofs.Common.{◌≡◌, true, IfSome, subst, arith}
use Rattle.tw_engine.proofs.Machine.{nil}
use Rattle.tw_engine.proofs.Openings.{own_inserted}
use Rattle.tw_engine.proofs.Undoing.{undone_as_told}
use Rattle.tw_process.specs.Behaviour.{simulation_of}
use Rattle.tw_engine.proofs.steps.undo_newest.Goals as goal

pub returns-clause-own : goal.returns-clause-own
returns-clause-own g c =
    let m = simulation_of g.M.Event.Timed.parts g.M.Event.Ord.cmp (g.M.ProcessModel.behaviour c.args.past.now.model) in
    let told = subst (λ o. IfSome o (λ e. (m.dst e ≡ c.args.past.now.number) × (m.suits e ≡ true))) c.unwrap-event.ensures c.newest_ahead.ensures.own in
    own_inserted m c.args.past.now.number c.unwrap-event.result c.args.pending.now c.insert.new.self c.in_ok-insert.ensures.ok told.0 told.1 c.requires.own

pub returns-clause-same : goal.returns-clause-same
returns-clause-same g c = c.undo_last.ensures.same

pub returns-clause-ok : goal.returns-clause-ok
returns-clause-ok g c = λ kept bound.
    let m = simulation_of g.M.Event.Timed.parts g.M.Event.Ord.cmp (g.M.ProcessModel.behaviour c.args.past.now.model) in
    undone_as_told m c.args.past.now c.undo_last.new.self c.args.pending.now c.insert.new.self kept c.args.flight.now.items c.reserve.new.self.items c.put_out.new.flight.items bound
    c.newest_ahead.result c.unwrap-event.result c.args.sends.now.items c.undo_last.new.sends.items c.deref.result.now c.undo_last.ensures.undone c.undo_last.ensures.same c.unwrap-event.ensures
    c.newest_ahead.ensures.value c.in_ok-insert.ensures.ok (nil c.args.sends.now.items (omega (arith, c.args.sends.now.ok.0))) c.deref.ensures.value c.put_out.ensures c.reserve.ensures.items
