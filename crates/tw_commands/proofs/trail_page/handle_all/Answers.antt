use Rattle.std.proofs.Common.{Err, ap}
use Rattle.std.proofs.lemmas.Bool.{both_ways}
use Rattle.tw_commands.proofs.Undoing.{not_full_now}
use Rattle.tw_event.specs.declared.event.Body.TheVariants.{Start}
use Rattle.tw_event.specs.declared.event.Event.{Event}
use Rattle.tw_commands.proofs.trail_page.handle_all.Goals as goal

pub unreachable-requires : goal.unreachable-requires
unreachable-requires c =
    let from = c.args.trail.now.opening in
    let d : Event = record { time = 0; dst = 0; src = 0; seq = 0; body = Start } in
    let full = c.in-Err-Fault.ensures.full.0 (ap Err c.in-Err-Fault.field-0-is) in
    let not_full = not_full_now c.loop-event.trail from c.args.events.now c.loop-event.event-index d c.loop-event.invariant c.loop-event-test.true c.requires.counted in
    both_ways _ not_full full
