use Rattle.std.proofs.Common.{length, ap, ◌∙◌, arith}
use Rattle.tw_event.specs.Order.{event_before, event_same}
use Rattle.tw_ordered.proofs.Events.{event_law}
use Rattle.tw_ordered.proofs.Ordered.{all-take_out, length-take_out, take_out_none}
use Rattle.tw_ordered.proofs.Spares.{left_spare, length_left, less_table, missing, times_whole}
use Rattle.tw_queue.proofs.by_router.take_from.Goals as goal

pub returns-then-remove-clause-found : goal.returns-then-remove-clause-found
returns-then-remove-clause-found c = grind (arith, times_whole)

pub returns-then-remove-clause-events : goal.returns-then-remove-clause-events
returns-then-remove-clause-events c = grind (arith, less_table)

pub returns-then-remove-clause-len : goal.returns-then-remove-clause-len
returns-then-remove-clause-len c = grind (arith, length-take_out, event_law)

pub returns-clause-found : goal.returns-clause-found
returns-clause-found c = grind (arith, missing, times_whole)

pub returns-clause-events : goal.returns-clause-events
returns-clause-events c = grind (arith, missing, take_out_none, event_law, left_spare)

pub returns-clause-len : goal.returns-clause-len
returns-clause-len c =
    let e = c.args.event.now in
    let z = missing e c.args.table.now.events c.remove.result c.if-remove.false c.remove.ensures.found.1 in
    let same = ap (λ xs. length xs) (c.remove.ensures.events ∙ take_out_none event_before event_same event_law e c.args.table.now.events z) in
    let h = length_left e c.args.spare.now.items c.remove_from.new.events.items c.remove_from.result c.remove_from.ensures.found c.remove_from.ensures.items in
    omega arith

pub returns-clause-homes : goal.returns-clause-homes
returns-clause-homes c h = grind (arith, all-take_out)

pub returns-clause-room : goal.returns-clause-room
returns-clause-room c =
    let h = length_left c.args.event.now c.args.spare.now.items c.remove_from.new.events.items c.remove_from.result c.remove_from.ensures.found c.remove_from.ensures.items in
    let k = c.remove_from.ensures.capacity in
    omega (arith, c.args.spare.now.ok.0, c.remove_from.new.events.ok.0)
