use Rattle.tw_shard.proofs.Comings.{message_last}
use Rattle.tw_shard.proofs.RollBack.{on_err, rolled_none}
use Rattle.tw_shard.proofs.shard.Shard.arrive.Goals as goal

-- where it comes last
pub returns-in_err-add_pending-clause-err : goal.returns-in_err-add_pending-clause-err
returns-in_err-add_pending-clause-err c =
    on_err c.from_residual.result (rolled_none c.args.self.now c.add_pending.new.self c.args.event.now c.in_err-add_pending.ensures.err)

pub returns-then-comes_last-clause-ok : goal.returns-then-comes_last-clause-ok
returns-then-comes_last-clause-ok c =
    message_last c.args.self.now c.add_pending.new.self c.args.event.now c.comes_last.ensures.whole.case c.requires.own
    c.if-comes_last.ensures.kept c.if-comes_last.ensures.last c.in_ok-add_pending.ensures.ok
