use Rattle.std.proofs.Common.{ℕ, arith, ◌<◌, ◌∙◌, [], ap, get_or, length}
use Rattle.tw_exchange.specs.Rows.{items}
use Rattle.tw_exchange.proofs.Behind.{room_up_to}
use Rattle.tw_exchange.proofs.Refusals.{on_err}
use Rattle.tw_exchange.proofs.Rooms.{items_at, items_same}
use Rattle.tw_exchange.proofs.joining.make_room_behind.Goals as goal

pub loop-worker-preserved : goal.loop-worker-preserved
loop-worker-preserved g c =
    let step = c.loop-worker in
    let lists = c.args.lists.now in
    let list = c.index-lists-worker.result in
    record {
      same = items_same step.mail step.worker c.make_room_for.new.mail c.index-mail-worker.result c.in_ok-make_room_for.ensures.same ∙ step.invariant.same;
      room = room_up_to step.mail (items lists) step.worker c.make_room_for.new.mail step.invariant.room (λ some.
          let room = c.in_ok-make_room_for.ensures.room some in
          let same = ap length (items_at lists step.worker list (omega arith)) in
          let there = ap (λ v. length v.items) c.index-lists-worker.is in
          let full = list.ok.0 in
          let counted = c.len.ensures in
          omega arith);
    }

pub returns-in_err-make_room_for-clause-same : goal.returns-in_err-make_room_for-clause-same
returns-in_err-make_room_for-clause-same g c =
    items_same c.loop-worker.mail c.loop-worker.worker c.make_room_for.new.mail c.index-mail-worker.result c.in_err-make_room_for.ensures.same ∙ c.loop-worker.invariant.same

pub returns-in_err-make_room_for-clause-wanted : goal.returns-in_err-make_room_for-clause-wanted
returns-in_err-make_room_for-clause-wanted g c =
    let lists = c.args.lists.now in
    let list = c.index-lists-worker.result in
    let w = c.loop-worker.worker in
    let same = ap length (items_at lists w list (omega arith)) in
    let there = ap (λ v. length v.items) c.index-lists-worker.is in
    let full = list.ok.0 in
    let counted = c.len.ensures in
    let wanted = c.in_err-make_room_for.ensures.wanted in
    let some : 0 < length (get_or (items lists) w []) = omega arith in
    on_err ((k : ℕ) × (0 < length (get_or (items lists) k []))) c.from_residual.result (w, some)
