use Rattle.std.proofs.Common.{◌≡◌, ℕ, ◌<◌, ◌≤◌, List, false, refl, ap, sym, ◌∙◌, subst, true, set, get_or, arith}
use Rattle.std.specs.List.{AllByRecursion}
use Rattle.tw_model.specs.Case.{simulation}
use Rattle.tw_shard.specs.Commit.{committed_at, committed_to, not_before}
use Rattle.tw_shard.proofs.Commits.{kept_history, runs_until}
use Rattle.tw_shard.specs.declared.shard.Shard.TheInside.{Inside}
use Rattle.tw_shard.specs.Inside.{shard_of}
use Rattle.tw_shard.specs.Shard.{Shard, no_timeline, owns, place, timeline}
use Rattle.tw_shard.specs.Timeline.{IsRunUntil, Timeline, history}
use Rattle.tw_shard.proofs.Fields.{changed_shard, other_items, read_here}
use Rattle.tw_sim.specs.Simulation.{IsFalling, below}
use Rattle.tw_shard.proofs.shard.Shard.commit_own.Goals as goal

-- what is told of the timeline that is read is told of the router's
told : (a : Inside) (x : Shard) (r k : ℕ) (lines : List Timeline) → shard_of a ≡ x → k ≡ place x r → lines ≡ a.timelines.items
    → (P : ℕ → Timeline → Type 0) → P a.bound (get_or lines k no_timeline) → P x.bound (timeline x r)
told a x r k lines is at all P h = subst (λ (s : Shard). P s.bound (timeline x r)) is (subst (P a.bound) (read_here a x r k lines is at all) h)

pub commit_at-requires-clause-run : goal.commit_at-requires-clause-run
commit_at-requires-clause-run c = λ lets_go.
    let a = c.self.inside in
    let x = c.args.self.now in
    let r = c.args.router in
    let mine = c.requires.own in
    let whole = c.place-place.ensures.whole in
    let here = read_here a x r c.place-place.result c.deref_mut.result.now c.self.view_is c.place-place.ensures.value c.deref_mut.ensures.value in
    let retains : x.terms.retains ≡ false = sym (whole.routers r mine).retains ∙ (ap (λ (t : Timeline). t.retains) (sym here) ∙ lets_go) in
    subst (IsRunUntil a.bound) (sym here) (subst (λ (s : Shard). IsRunUntil s.bound (timeline x r)) (sym c.self.view_is) (runs_until x r whole mine (c.requires.run retains)))

pub invariant_of-self-2 : goal.invariant_of-self-2
invariant_of-self-2 c =
    let a = c.self.inside in
    let s = shard_of a in
    let r = c.args.router in
    let mine : owns s r ≡ true = subst (λ s. owns s r ≡ true) (sym c.self.view_is) c.requires.own in
    let own = c.self.invariant.whole.routers r mine in
    let at : c.place-place.result ≡ place s r = c.place-place.ensures.value ∙ ap (λ s. place s r) (sym c.self.view_is) in
    let there : get_or c.deref_mut.result.now c.place-place.result no_timeline ≡ timeline s r = λ i. get_or (c.deref_mut.ensures.value i) (at i) no_timeline in
    changed_shard a _ r (committed_to a.bound (timeline s r)) c.self.invariant mine (record {
      terms = refl;
      roster = refl;
      timelines =
          other_items a.timelines.len c.commit_at.new.timelines _ (c.commit_at.auto.timelines ∙ c.deref_mut.ensures.len)
          ∙ (c.in_ok-commit_at.ensures.ok ∙ λ i. set (c.deref_mut.ensures.value i) (at i) (committed_to a.bound (there i)));
      kept = refl;
      bound = refl;
      pending_routers = refl;
      kept_routers = refl;
      held_routers = refl;
    }) own.net own.node (omega arith) own.case own.retains c.self.invariant.whole.pending c.self.invariant.whole.held (omega arith) (subst (AllByRecursion (λ x. x.time ≤ a.latest)) (sym (kept_history a.bound (timeline s r))) (c.self.invariant.latest r mine))

pub returns-clause-ok : goal.returns-clause-ok
returns-clause-ok c =
    let a = c.self.inside in
    let s = shard_of a in
    let r = c.args.router in
    let at : c.place-place.result ≡ place s r = c.place-place.ensures.value ∙ ap (λ s. place s r) (sym c.self.view_is) in
    let there : get_or c.deref_mut.result.now c.place-place.result no_timeline ≡ timeline s r = λ i. get_or (c.deref_mut.ensures.value i) (at i) no_timeline in
    let timelines =
    other_items a.timelines.len c.commit_at.new.timelines _ (c.commit_at.auto.timelines ∙ c.deref_mut.ensures.len)
    ∙ (c.in_ok-commit_at.ensures.ok ∙ λ i. set (c.deref_mut.ensures.value i) (at i) (committed_to a.bound (there i))) in
    (λ i. record {
      terms = s.terms;
      routers = a.roster.routers;
      timelines = timelines i;
      pending = a.pending.events;
      kept = a.kept.events;
      outgoing = a.outgoing.items;
      held = a.held.events;
      bound = a.bound;
    })
    ∙ ap (λ s. committed_at s r) c.self.view_is

pub returns-clause-past : goal.returns-clause-past
returns-clause-past c =
    told c.self.inside c.args.self.now c.args.router c.place-place.result c.deref_mut.result.now c.self.view_is c.place-place.ensures.value c.deref_mut.ensures.value
    (λ bound t. IsFalling (simulation t.case) (history t) → (committed_to bound t).past ≡ below (simulation t.case) bound (history t)) c.in_ok-commit_at.ensures.past

pub returns-clause-ahead : goal.returns-clause-ahead
returns-clause-ahead c =
    told c.self.inside c.args.self.now c.args.router c.place-place.result c.deref_mut.result.now c.self.view_is c.place-place.ensures.value c.deref_mut.ensures.value
    (λ bound t. IsFalling (simulation t.case) (history t) → (committed_to bound t).ahead ≡ not_before bound (history t)) c.in_ok-commit_at.ensures.ahead

pub returns-clause-early : goal.returns-clause-early
returns-clause-early c =
    told c.self.inside c.args.self.now c.args.router c.place-place.result c.deref_mut.result.now c.self.view_is c.place-place.ensures.value c.deref_mut.ensures.value
    (λ bound t. AllByRecursion (λ e. e.time < t.done) t.past) c.in_ok-commit_at.ensures.early
