use Rattle.std.proofs.Common.{refl, sym, ◌∙◌}
use Rattle.tw_engine.specs.declared.reach.Reach.TheVariants.{Later}
use Rattle.tw_engine.proofs.Comings.{came_back, message_vanished, on_err, then_waits}
use Rattle.tw_process.specs.Behaviour.{simulation_of}
use Rattle.tw_sim.proofs.Rising.{not_back}
use Rattle.tw_engine.proofs.logical.LogicalProcess.arrive.Goals as goal

pub returns-then-take_kept-clause-ok : goal.returns-then-take_kept-clause-ok
returns-then-take_kept-clause-ok g c = λ stop.
    message_vanished (simulation_of g.M.Event.Timed.parts g.M.Event.Ord.cmp (g.M.ProcessModel.behaviour c.args.self.now.model)) c.args.self.now c.args.event c.requires.own stop c.take_kept.new.self
    (sym c.if-take_kept.true ∙ c.take_kept.ensures.value) c.take_kept.ensures.without

pub returns-in_err-undo_all-clause-err : goal.returns-in_err-undo_all-clause-err
returns-in_err-undo_all-clause-err g c = λ stop.
    let sim = λ (model : g.row.M.Denot). simulation_of g.M.Event.Timed.parts g.M.Event.Ord.cmp (g.M.ProcessModel.behaviour model) in
    let o = c.args.self.now in
    on_err c.from_residual.result
    (came_back sim o c.take_kept.new.self c.undo_all.new.self c.undo_all.new.self c.args.event c.if-take_kept.ensures.none c.requires.own (Later c.args.event)
    (λ x h. not_back (sim o.model) c.keeps_laws.ensures.lawful c.args.event x h) refl c.undo_all.ensures.undone stop)

pub returns-in_err-add_pending-clause-err : goal.returns-in_err-add_pending-clause-err
returns-in_err-add_pending-clause-err g c = λ stop.
    let sim = λ (model : g.row.M.Denot). simulation_of g.M.Event.Timed.parts g.M.Event.Ord.cmp (g.M.ProcessModel.behaviour model) in
    let o = c.args.self.now in
    on_err c.from_residual-in_err-add_pending.result
    (came_back sim o c.take_kept.new.self c.undo_all.new.self c.add_pending.new.self c.args.event c.if-take_kept.ensures.none c.requires.own (Later c.args.event)
    (λ x h. not_back (sim o.model) c.keeps_laws.ensures.lawful c.args.event x h) c.in_err-add_pending.ensures.err c.undo_all.ensures.undone stop)

pub returns-clause-ok : goal.returns-clause-ok
returns-clause-ok g c =
    let sim = λ (model : g.row.M.Denot). simulation_of g.M.Event.Timed.parts g.M.Event.Ord.cmp (g.M.ProcessModel.behaviour model) in
    then_waits sim c.args.self.now c.take_kept.new.self c.undo_all.new.self c.add_pending.new.self c.args.event c.if-take_kept.ensures.none c.requires.own c.undo_all.ensures.same
    (sym c.if-take_kept.false ∙ c.take_kept.ensures.value) c.in_ok-undo_all.ensures.ok c.in_ok-add_pending.ensures.ok
