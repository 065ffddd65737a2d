use Rattle.std.proofs.Common.{◌≡◌, take}
use Rattle.tw_commands.proofs.trail_page.handle_all.Given as goal

-- the events before are handled
abbrev pub invariant-loop-event : goal.invariant-loop-event
invariant-loop-event l = l.trail ≡ record l.initial.trail { events = take l.event-index l.events }
