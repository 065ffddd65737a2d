use Rattle.std.proofs.Common.{◌∙◌, ap, sym, arith, get_or, length, take}
use Rattle.tw_event.specs.declared.event.Body.TheVariants.{Start}
use Rattle.tw_event.specs.declared.event.Event.{Event}
use Rattle.tw_seq.proofs.Handled.{length-routers}
use Rattle.tw_elimination.proofs.Scripts.{home_at, one_handled, receiver_net}
use Rattle.tw_elimination.proofs.standing.handle_all.Goals as goal

unfoldable none : Event
none = record { time = 0; dst = 0; src = 0; seq = 0; body = Start }

pub handle_at-requires-clause-within : goal.handle_at-requires-clause-within
unfolding none
handle_at-requires-clause-within c =
    let home = home_at c.args.case.now c.args.events.now c.loop-event.event-index none c.requires.homes c.loop-event-test.true in
    let long = ap length c.loop-event.invariant ∙ length-routers c.args.case.now (take c.loop-event.event-index c.args.events.now) in
    omega arith

pub handle_at-requires-clause-net : goal.handle_at-requires-clause-net
unfolding none
handle_at-requires-clause-net c =
    receiver_net c.args.case.now (take c.loop-event.event-index c.args.events.now) c.loop-event.routers (get_or c.args.events.now c.loop-event.event-index none) c.loop-event.invariant
    (home_at c.args.case.now c.args.events.now c.loop-event.event-index none c.requires.homes c.loop-event-test.true) ∙ sym c.instance-instance.ensures.value

pub loop-event-preserved : goal.loop-event-preserved
unfolding none
loop-event-preserved c =
    one_handled c.args.case.now c.args.events.now c.loop-event.event-index none c.loop-event.routers c.handle_at.new.routers c.loop-event-test.true
    (home_at c.args.case.now c.args.events.now c.loop-event.event-index none c.requires.homes c.loop-event-test.true) c.loop-event.invariant c.in_ok-handle_at.ensures
