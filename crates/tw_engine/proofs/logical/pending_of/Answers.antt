use Rattle.std.proofs.Common.{◌+◌, true, ap, drop, refl, sym, subst, ◌∙◌, ◌≡◌}
use Rattle.tw_engine.proofs.Openings.{AreSuited, next, opening_suited, step}
use Rattle.tw_process.specs.Behaviour.{simulation_of}
use Rattle.tw_sim.specs.Seq.{insert_all}
use Rattle.tw_sim.specs.Simulation.{only}
use Rattle.tw_engine.proofs.logical.pending_of.Goals as goal

pub loop-event-init : goal.loop-event-init
loop-event-init g c =
    let m = simulation_of g.M.Event.Timed.parts g.M.Event.Ord.cmp (g.M.ProcessModel.behaviour c.args.model.now) in
    rw c.new-pending.ensures (record { rest = refl; own = tt; suited = subst (λ events. AreSuited m events) (sym (c.deref-event-items.ensures.value ∙ c.in_ok-openings.ensures)) (opening_suited m c.model_is_lawful.ensures.lawful) })

pub put_own-requires-clause-suits : goal.put_own-requires-clause-suits
put_own-requires-clause-suits g c =
    let m = simulation_of g.M.Event.Timed.parts g.M.Event.Ord.cmp (g.M.ProcessModel.behaviour c.args.model.now) in
    (step (λ e. m.suits e ≡ true) c.deref-event-items.result.now c.loop-event.event-index c.event-item.result c.loop-event-test.true c.event-item.is c.loop-event.invariant.suited).1

pub loop-event-preserved : goal.loop-event-preserved
loop-event-preserved g c =
    let m = simulation_of g.M.Event.Timed.parts g.M.Event.Ord.cmp (g.M.ProcessModel.behaviour c.args.model.now) in
    let xs = c.deref-event-items.result.now in
    let i = c.loop-event.event-index in
    let x = c.event-item.result in
    let at = step (λ e. m.suits e ≡ true) xs i x c.loop-event-test.true c.event-item.is c.loop-event.invariant.suited in
    record {
      rest = ap (insert_all m (only m c.args.number (drop (i + 1) xs))) c.in_ok-put_own.ensures.pending
          ∙ sym (next m c.args.number x (drop (i + 1) xs) c.loop-event.pending)
          ∙ ap (λ ys. insert_all m (only m c.args.number ys) c.loop-event.pending) (sym at.0)
          ∙ c.loop-event.invariant.rest;
      own = c.in_ok-put_own.ensures.own;
      suited = at.2;
    }
