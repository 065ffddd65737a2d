use Rattle.std.proofs.Common.{ap, refl, sym, ◌∙◌}
use Rattle.tw_engine.specs.Process.{process_core}
use Rattle.tw_engine.specs.declared.reach.Reach.TheVariants.{From}
use Rattle.tw_engine.proofs.Comings.{antimessage_vanished, came_back, from_late, on_err, then_keeps, then_vanishes}
use Rattle.tw_process.specs.Behaviour.{simulation_of}
use Rattle.tw_engine.proofs.logical.LogicalProcess.withdraw.Goals as goal

pub returns-then-take_pending-clause-ok : goal.returns-then-take_pending-clause-ok
returns-then-take_pending-clause-ok g c = λ stop.
    antimessage_vanished (simulation_of g.M.Event.Timed.parts g.M.Event.Ord.cmp (g.M.ProcessModel.behaviour c.args.self.now.model)) c.args.self.now c.args.event c.requires.own stop c.take_pending.new.self
    (sym c.if-take_pending.true ∙ c.take_pending.ensures.value) c.take_pending.ensures.without

pub returns-then-not-has_handled-clause-ok : goal.returns-then-not-has_handled-clause-ok
returns-then-not-has_handled-clause-ok g c =
    let sim = λ (model : g.row.M.Denot). simulation_of g.M.Event.Timed.parts g.M.Event.Ord.cmp (g.M.ProcessModel.behaviour model) in
    let o = c.args.self.now in
    then_keeps sim o c.take_pending.new.self c.add_kept.new.self c.add_kept.new.self c.args.event c.if-take_pending.ensures.none c.requires.own
    c.keeps_laws.ensures.lawful c.requires.late c.keeps_laws.ensures.early (sym c.if-take_pending.false ∙ c.take_pending.ensures.value) (sym c.if-not-has_handled.true ∙ c.has_handled.ensures)
    c.in_ok-add_kept.ensures.ok

pub returns-in_err-undo_all-clause-err : goal.returns-in_err-undo_all-clause-err
returns-in_err-undo_all-clause-err g c = λ stop.
    let sim = λ (model : g.row.M.Denot). simulation_of g.M.Event.Timed.parts g.M.Event.Ord.cmp (g.M.ProcessModel.behaviour model) in
    let o = c.args.self.now in
    on_err c.from_residual-in_err-undo_all.result
    (came_back sim o c.take_pending.new.self c.undo_all.new.self c.undo_all.new.self c.args.event c.if-take_pending.ensures.none c.requires.own (From c.args.event)
    (λ x h. from_late (sim o.model) c.args.event x h) refl c.undo_all.ensures.undone stop)

pub returns-clause-ok : goal.returns-clause-ok
returns-clause-ok g c =
    let sim = λ (model : g.row.M.Denot). simulation_of g.M.Event.Timed.parts g.M.Event.Ord.cmp (g.M.ProcessModel.behaviour model) in
    then_vanishes sim c.args.self.now c.take_pending.new.self c.undo_all.new.self c.take_pending-2.new.self c.args.event c.if-take_pending.ensures.none c.requires.own c.undo_all.ensures.same
    (sym c.if-take_pending.false ∙ c.take_pending.ensures.value) (sym c.if-not-has_handled.false ∙ c.has_handled.ensures) c.in_ok-undo_all.ensures.ok c.take_pending-2.ensures.without

pub returns-in_err-add_kept-clause-err : goal.returns-in_err-add_kept-clause-err
returns-in_err-add_kept-clause-err g c = λ stop.
    on_err c.from_residual.result (0, ap (process_core stop) (c.in_err-add_kept.ensures.err ∙ c.if-take_pending.ensures.none))
