use Rattle.std.proofs.Common.{◌≡◌, ℕ, true, is_some, length, refl, ap, sym, ◌∙◌, subst, arith}
use Rattle.std.specs.Prelude.{IfSome}
use Rattle.tw_parallel.proofs.Removing.{all_retained, may_leave}
use Rattle.tw_parallel.proofs.Shares.{long_shares}
use Rattle.tw_parallel.specs.Inside.{sim_of_parts}
use Rattle.tw_parallel.specs.Removal.{IsRoomFor}
use Rattle.tw_parallel.specs.Settled.{HasNoRecords, IsSettled}
use Rattle.tw_seq.specs.Run.{Run, complete_run}
use Rattle.tw_seq.specs.Traced.{lists_of, logs_after}
use Rattle.tw_parallel.proofs.into_run.move_out.Goals as goal

pub take_out-routers-requires-clause-case : goal.take_out-routers-requires-clause-case
take_out-routers-requires-clause-case c = c.into_parts-exchange.ensures.sim.ruled.is_case

pub take_out-routers-requires-clause-none : goal.take_out-routers-requires-clause-none
take_out-routers-requires-clause-none c = (subst (λ t. IsRoomFor t c.args.room) (sym c.into_parts-exchange.ensures.run) c.requires.room).removal

pub take_out-routers-requires-clause-homes : goal.take_out-routers-requires-clause-homes
take_out-routers-requires-clause-homes c = λ r known.
    let parts = c.into_parts-exchange.result in
    let s = sim_of_parts parts in
    let same = c.into_parts-exchange.ensures.run in
    (may_leave s c.into_parts-exchange.ensures.sim (subst IsSettled (sym same) c.requires.settled) (subst HasNoRecords (sym same) c.requires.records) parts.shards.items parts.hands.items refl
    c.into_parts-exchange.ensures.hands (is_some c.args.room.removal.logs) (subst (λ t. IsRoomFor t c.args.room) (sym same) c.requires.room).retains.0 r known).0

pub take_out-routers-requires-clause-workers : goal.take_out-routers-requires-clause-workers
take_out-routers-requires-clause-workers c =
    let parts = c.into_parts-exchange.result in
    let count = c.into_parts-exchange.ensures.sim.ruled.count in
    sym (long_shares parts.shards.items parts.hands.items c.into_parts-exchange.ensures.hands) ∙ count

pub take_out-routers-requires-clause-each : goal.take_out-routers-requires-clause-each
take_out-routers-requires-clause-each c = λ r known.
    let parts = c.into_parts-exchange.result in
    let s = sim_of_parts parts in
    let same = c.into_parts-exchange.ensures.run in
    (may_leave s c.into_parts-exchange.ensures.sim (subst IsSettled (sym same) c.requires.settled) (subst HasNoRecords (sym same) c.requires.records) parts.shards.items parts.hands.items refl
    c.into_parts-exchange.ensures.hands (is_some c.args.room.removal.logs) (subst (λ t. IsRoomFor t c.args.room) (sym same) c.requires.room).retains.0 r known).1

pub resume-requires-clause-logs : goal.resume-requires-clause-logs
resume-requires-clause-logs c =
    let parts = c.into_parts-exchange.result in
    let case = parts.case.now in
    let left = c.take_out-routers.ensures.left in
    let thread = c.resume-thread.ensures.value ∙ ap (complete_run case) c.stop-stop.ensures.value in
    subst (λ (r : Run). IfSome c.take_out-routers.result.logs (λ logs. lists_of logs.items ≡ logs_after r.case r.events)) (sym thread)
    (all_retained (logs_after case (complete_run case parts.exchange.stop).events) c.take_out-routers.result.logs left.logs)
