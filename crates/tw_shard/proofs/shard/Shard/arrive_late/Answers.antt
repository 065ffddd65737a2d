use Rattle.tw_shard.proofs.Comings.{message_came}
use Rattle.tw_shard.proofs.RollBack.{on_err, rolled_from, rolled_to}
use Rattle.tw_shard.proofs.shard.Shard.arrive_late.Goals as goal

pub returns-in_err-roll_back-clause-err : goal.returns-in_err-roll_back-clause-err
returns-in_err-roll_back-clause-err c =
    on_err c.from_residual.result (rolled_from c.take_kept.new.self c.args.self.now c.roll_back.new.self c.args.event.now
    (c.take_kept.ensures.none c.if-take_kept.false) c.roll_back.ensures.undone)

pub returns-in_err-add_pending-clause-err : goal.returns-in_err-add_pending-clause-err
returns-in_err-add_pending-clause-err c =
    on_err c.from_residual-in_err-add_pending.result (rolled_to c.args.self.now c.roll_back.new.self c.add_pending.new.self c.args.event.now c.in_err-add_pending.ensures.err
    (rolled_from c.take_kept.new.self c.args.self.now c.roll_back.new.self c.args.event.now (c.take_kept.ensures.none c.if-take_kept.false) c.roll_back.ensures.undone))

pub returns-clause-ok : goal.returns-clause-ok
returns-clause-ok c =
    message_came c.args.self.now c.take_kept.new.self c.roll_back.new.self c.add_pending.new.self c.args.event.now
    (c.take_kept.ensures.none c.if-take_kept.false) (λ some. cc (c.take_kept.ensures.value.1 some, c.if-take_kept.false))
    c.in_ok-roll_back.ensures.ok c.in_ok-add_pending.ensures.ok
