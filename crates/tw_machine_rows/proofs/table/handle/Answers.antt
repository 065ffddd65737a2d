use Rattle.std.proofs.Common.{sym, subst}
use Rattle.tw_machine_rows.proofs.Sittings.{ready_handled}
use Rattle.tw_machine_rows.specs.Sitting.{IsReadyToTake}
use Rattle.tw_table.specs.Shares.{share}
use Rattle.tw_machine_rows.proofs.table.handle.Goals as goal

pub returns-in-Ok : goal.returns-in-Ok
returns-in-Ok c = λ t s h is.
    ready_handled t s (share c.args.shard.now h) c.handle_next.new.self c.args.router is c.handle_next.ensures.same c.in-Ok.ensures.ok

pub returns-in-Ok-handle_next : goal.returns-in-Ok-handle_next
returns-in-Ok-handle_next c = λ t s h is.
    let old = c.handle_next.new.self in
    ready_handled t s (share old h) c.handle_next-2.new.self c.args.router (subst (λ x. IsReadyToTake t s (share x h)) (sym c.in-Err.ensures.err) is) c.handle_next-2.ensures.same
    c.in-Ok-handle_next.ensures.ok
