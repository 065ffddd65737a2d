use Rattle.std.proofs.Common.{◌≡◌, ◌<◌, true, false, Ok, ap, sym, ◌∙◌, subst}
use Rattle.tw_model.specs.Case.{simulation}
use Rattle.tw_shard.specs.Commit.{not_before}
use Rattle.tw_shard.specs.Shard.{FollowsRun, Shard, owns, shard_core, timeline}
use Rattle.tw_sim.specs.Simulation.{IsFalling, below}
use Rattle.tw_shard.proofs.Commits.{ahead_committed, goes, past_committed}
use Rattle.tw_shard.proofs.shard.Shard.commit.Goals as goal

pub returns-clause-ok : goal.returns-clause-ok
returns-clause-ok c = λ stop.
    let mine = sym c.owns.ensures.value ∙ c.if-not-owns.false in
    goes c.args.self.now c.args.router c.owns.ensures.whole mine c.in_ok-commit_own.ensures.early stop ∙ ap (λ s. Ok (shard_core stop s)) (sym c.in_ok-commit_own.ensures.ok)

pub returns-clause-past : goal.returns-clause-past
returns-clause-past c =
    let s = c.args.self.now in
    let r = c.args.router in
    let mine = sym c.owns.ensures.value ∙ c.if-not-owns.false in
    subst (λ (t : Shard). IsFalling (simulation s.terms.case) ((shard_core 0 s).history r) → (timeline t r).past ≡ below (simulation s.terms.case) s.bound ((shard_core 0 s).history r))
    (sym c.in_ok-commit_own.ensures.ok)
    (past_committed s r c.owns.ensures.whole mine c.in_ok-commit_own.ensures.past)

pub returns-clause-ahead : goal.returns-clause-ahead
returns-clause-ahead c =
    let s = c.args.self.now in
    let r = c.args.router in
    let mine = sym c.owns.ensures.value ∙ c.if-not-owns.false in
    subst (λ (t : Shard). IsFalling (simulation s.terms.case) ((shard_core 0 s).history r) → (timeline t r).ahead ≡ not_before s.bound ((shard_core 0 s).history r))
    (sym c.in_ok-commit_own.ensures.ok)
    (ahead_committed s r c.owns.ensures.whole mine c.in_ok-commit_own.ensures.ahead)

pub commit_own-requires-clause-run : goal.commit_own-requires-clause-run
commit_own-requires-clause-run c =
    let mine = sym c.owns.ensures.value ∙ c.if-not-owns.false in
    let s = c.args.self.now in
    let run : s.terms.retains ≡ false → owns s c.args.router ≡ true → c.args.router < s.terms.case.net.nodes → FollowsRun s c.args.router = c.requires.run in
    λ lets. run lets mine (c.owns.ensures.whole.routers c.args.router mine).known
