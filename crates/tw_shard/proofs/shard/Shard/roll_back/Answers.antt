use Rattle.std.proofs.Common.{ap, sym, ◌∙◌, subst}
use Rattle.tw_shard.specs.Shard.{IsSameShare, shard_core}
use Rattle.tw_shard.proofs.RollBack.{fewer_left, rolled_so_far, rolling_done, rolling_more, rolling_none}
use Rattle.tw_shard.proofs.shard.Shard.roll_back.Goals as goal

pub loop-reach-init : goal.loop-reach-init
loop-reach-init c = rolling_none c.args.reach c.args.event.now c.args.self.now c.requires.own

pub must_undo-requires : goal.must_undo-requires
must_undo-requires c = record { own = c.loop-reach.invariant.own }

pub step_back-requires-clause-own : goal.step_back-requires-clause-own
step_back-requires-clause-own c = c.loop-reach.invariant.own

pub loop-reach-smaller : goal.loop-reach-smaller
loop-reach-smaller c =
    fewer_left c.loop-reach.self c.step_back.new.self c.args.event.now.dst c.must_undo.ensures.whole c.loop-reach.invariant.own c.in_ok-step_back.ensures.ok

pub loop-reach-preserved : goal.loop-reach-preserved
loop-reach-preserved c =
    rolling_more c.args.reach c.args.event.now c.args.self.now c.loop-reach.self c.step_back.new.self c.must_undo.ensures.whole c.loop-reach.invariant
    (sym c.must_undo.ensures.value ∙ c.loop-reach-test.true) c.in_ok-step_back.ensures.ok

pub returns-in_err-step_back-clause-undone : goal.returns-in_err-step_back-clause-undone
returns-in_err-step_back-clause-undone c =
    rolled_so_far c.args.reach c.args.event.now c.args.self.now c.loop-reach.self c.step_back.new.self c.loop-reach.invariant c.in_err-step_back.ensures.err

pub returns-in_err-step_back-clause-kept : goal.returns-in_err-step_back-clause-kept
returns-in_err-step_back-clause-kept c = ap (λ s. s.kept) c.in_err-step_back.ensures.err ∙ c.loop-reach.invariant.kept

pub returns-in_err-step_back-clause-same : goal.returns-in_err-step_back-clause-same
returns-in_err-step_back-clause-same c =
    subst (IsSameShare c.args.self.now) (sym c.in_err-step_back.ensures.err) c.loop-reach.invariant.share

pub returns-clause-ok : goal.returns-clause-ok
returns-clause-ok c = λ stop.
    ap (shard_core stop) c.count_rollback.ensures
    ∙ rolling_done c.args.reach c.args.event.now c.args.self.now c.loop-reach.self c.must_undo.ensures.whole c.loop-reach.invariant c.requires.own c.requires.late
    (sym c.must_undo.ensures.value ∙ c.loop-reach-test.false) c.must_undo.ensures.past stop

pub returns-clause-undone : goal.returns-clause-undone
returns-clause-undone c =
    rolled_so_far c.args.reach c.args.event.now c.args.self.now c.loop-reach.self c.count_rollback.new.self c.loop-reach.invariant c.count_rollback.ensures

pub returns-clause-kept : goal.returns-clause-kept
returns-clause-kept c = ap (λ s. s.kept) c.count_rollback.ensures ∙ c.loop-reach.invariant.kept

pub returns-clause-same : goal.returns-clause-same
returns-clause-same c = subst (IsSameShare c.args.self.now) (sym c.count_rollback.ensures) c.loop-reach.invariant.share
