use Rattle.std.proofs.Common.{◌≡◌, ◌∷◌, length, rules, sym, ◌∙◌, arith, subst, vec_len}
use Rattle.std.specs.List.{AllByRecursion}
use Rattle.std.specs.Vec.Iter.{into_iter_items, into_iter_len}
use Rattle.tw_table.proofs.Joins.{IsJoined, all_halted, all_joined, all_seen, joins_first, joins_next}
use Rattle.tw_table.proofs.Views.{merges}
use Rattle.tw_table.specs.Seats.{IsSeatOf}
use Rattle.tw_table.proofs.calls.join_all.Goals as goal

pub loop-seat-init : goal.loop-seat-init
loop-seat-init c =
    let seats = c.args.seats in
    let left = c.next.new.self in
    let step = c.in-Some.ensures in
    let all : length seats.items ≡ vec_len seats = search rules in
    let long = c.into_iter-seats.ensures.len in
    let less = step.cases.1 in
    subst (λ it. IsJoined c.args.table.now seats.items c.in-Some.first.pass (into_iter_items it) (into_iter_len it)) (sym c.into_iter-seat-iterator.ensures.into_iter_gives)
    (joins_first c.args.table.now seats.items c.in-Some.first (into_iter_items left) (into_iter_len left) (sym c.into_iter-seats.ensures.rest ∙ step.items) (omega arith) c.requires.seats)

pub absorb-requires-clause-queue : goal.absorb-requires-clause-queue
absorb-requires-clause-queue c =
    let joined = c.loop-seat.invariant in
    let each : AllByRecursion (IsSeatOf c.args.table.now) (c.in-Some-seat.seat ∷ into_iter_items c.next-in-loop-seat.new.self)
    = subst (AllByRecursion (IsSeatOf c.args.table.now)) c.in-Some-seat.ensures.steps.0 joined.seats in
    (joined.queue, each.0.pass)

pub absorb-requires-clause-rule : goal.absorb-requires-clause-rule
absorb-requires-clause-rule c =
    let joined = c.loop-seat.invariant in
    merges _ _ _ _ joined.begun joined.some c.in-Some-seat.seat.waits.empty

pub loop-seat-preserved : goal.loop-seat-preserved
loop-seat-preserved c =
    let step = c.in-Some-seat.ensures.steps in
    joins_next c.args.table.now c.args.seats.items c.loop-seat.pass c.absorb.new.pass c.in-Some-seat.seat (into_iter_items c.loop-seat.seat-iterator)
    (into_iter_items c.next-in-loop-seat.new.self) (into_iter_len c.loop-seat.seat-iterator) (into_iter_len c.next-in-loop-seat.new.self) step.0 step.1 c.loop-seat.invariant
    c.absorb.ensures.queue c.absorb.ensures.rule

pub returns-clause-queue : goal.returns-clause-queue
returns-clause-queue c = c.loop-seat.invariant.queue

pub returns-clause-workers : goal.returns-clause-workers
returns-clause-workers c = c.loop-seat.invariant.workers

pub returns-clause-begun : goal.returns-clause-begun
returns-clause-begun c = c.loop-seat.invariant.begun

pub returns-clause-empty : goal.returns-clause-empty
returns-clause-empty c = c.loop-seat.invariant.empty

pub returns-clause-shares : goal.returns-clause-shares
returns-clause-shares c =
    let left = into_iter_items c.loop-seat.seat-iterator in
    all_joined c.args.table.now c.args.seats.items c.loop-seat.pass left
    (subst (IsJoined c.args.table.now c.args.seats.items c.loop-seat.pass left) c.in-None.ensures.steps.0 c.loop-seat.invariant)

pub returns-clause-stop : goal.returns-clause-stop
returns-clause-stop c = c.loop-seat.invariant.stop

pub returns-clause-seen : goal.returns-clause-seen
returns-clause-seen c =
    let left = into_iter_items c.loop-seat.seat-iterator in
    all_seen c.args.table.now c.args.seats.items c.loop-seat.pass left
    (subst (IsJoined c.args.table.now c.args.seats.items c.loop-seat.pass left) c.in-None.ensures.steps.0 c.loop-seat.invariant)

pub returns-clause-halted : goal.returns-clause-halted
returns-clause-halted c =
    let left = into_iter_items c.loop-seat.seat-iterator in
    all_halted c.args.table.now c.args.seats.items c.loop-seat.pass left
    (subst (IsJoined c.args.table.now c.args.seats.items c.loop-seat.pass left) c.in-None.ensures.steps.0 c.loop-seat.invariant)
