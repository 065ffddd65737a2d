use Rattle.std.proofs.Common.{refl, ◌∙◌, arith}
use Rattle.tw_event.specs.Order.{event_before, event_same}
use Rattle.tw_ordered.proofs.Events.{event_law}
use Rattle.tw_ordered.proofs.Ordered.{take_out_none}
use Rattle.tw_ordered.proofs.Spares.{left_spare, length_left, less_table, missing, times_whole}
use Rattle.tw_held.proofs.held.take_from.Goals as goal

pub returns-then-remove-clause-found : goal.returns-then-remove-clause-found
returns-then-remove-clause-found c =
    let n = times_whole c.args.event.now c.args.spare.now.items c.args.table.now in
    let h = c.remove.ensures.found.0 c.if-remove.true in
    (λ u. omega arith, λ l. refl)

pub returns-then-remove-clause-events : goal.returns-then-remove-clause-events
returns-then-remove-clause-events c =
    let r = c.remove.ensures in
    less_table c.args.event.now c.args.spare.now.items c.args.table.now c.args.spare.now.items c.remove.new.self c.requires r.rising (r.found.0 c.if-remove.true) refl r.events

pub returns-clause-found : goal.returns-clause-found
returns-clause-found c =
    let e = c.args.event.now in
    let z = missing e c.args.table.now c.remove.result c.if-remove.false c.remove.ensures.found.1 in
    let n = times_whole e c.args.spare.now.items c.args.table.now in
    let f = c.remove_from.ensures.found in
    (λ u. let h = f.0 u in omega arith, λ l. f.1 (omega arith))

pub returns-clause-events : goal.returns-clause-events
returns-clause-events c =
    let e = c.args.event.now in
    let r = c.remove.ensures in
    let z = missing e c.args.table.now c.remove.result c.if-remove.false r.found.1 in
    let same = r.events ∙ take_out_none event_before event_same event_law e c.args.table.now z in
    left_spare e c.args.spare.now.items c.args.table.now c.remove_from.new.events.items c.remove.new.self c.requires r.rising z c.remove_from.ensures.items same

pub returns-clause-room : goal.returns-clause-room
returns-clause-room c =
    let h = length_left c.args.event.now c.args.spare.now.items c.remove_from.new.events.items c.remove_from.result c.remove_from.ensures.found c.remove_from.ensures.items in
    let k = c.remove_from.ensures.capacity in
    omega (arith, c.args.spare.now.ok.0, c.remove_from.new.events.ok.0)
