use Rattle.std.proofs.Common.{◌≡◌, ◌<◌, ◌≤◌, ◌++◌, nat_lt, reverse, take, ap, sym, ◌∙◌, subst}
use Rattle.std.specs.List.{AllByRecursion, prefix_len}
use Rattle.tw_model.specs.Case.{IsCase, simulation}
use Rattle.tw_shard.specs.Commit.{committed_to, not_before}
use Rattle.tw_shard.specs.Past.{Past, own_run}
use Rattle.tw_shard.specs.Timeline.{AreNoted, IsRunUntil, IsTimeline, Timeline, events_of, history, known, last_change_at, noted_change, timeline_of}
use Rattle.tw_shard.proofs.Commits.{change_committed, gone_events, left_events, noted_left, past_early, same_history}
use Rattle.tw_shard.proofs.LettingGo.{all_committed, all_stay}
use Rattle.tw_shard.proofs.Rings.{noted_both}
use Rattle.tw_sim.specs.Simulation.{IsFalling, below}
use Rattle.tw_shard.proofs.timeline.Timeline.commit.Goals as goal

pub add-requires : goal.add-requires
add-requires c = λ lets_go.
    let a = c.self.inside in
    let bound = c.args.bound in
    let n = c.first_before-count.result in
    let first = c.first_before-count.ensures.value in
    let later : a.past.done ≤ bound = subst (λ (t : Timeline). t.done ≤ bound) (sym c.self.view_is) c.requires.done in
    let run : IsRunUntil bound (timeline_of a) = subst (IsRunUntil bound) (sym c.self.view_is) (c.requires.run (ap (λ (t : Timeline). t.retains) (sym c.self.view_is) ∙ lets_go)) in
    ap (λ steps. events_of (reverse steps) ++ a.past.events) c.first.ensures
    ∙ (sym (all_committed a.past.case c.self.invariant.is_case bound a.past.done n a.past.events a.ahead later first c.self.invariant.past run.falling)
    ∙ (run.run ∙ ap (λ v. own_run a.past.case v bound) (sym c.self.invariant.node)))

pub invariant_of-self : goal.invariant_of-self
invariant_of-self c =
    let a = c.self.inside in
    subst (λ (p : Past). IsTimeline (record { router = a.router; past = p; ahead = a.ahead; room = a.room; past_change = a.past_change })) (sym c.in_err-add.ensures.err) c.self.invariant

-- how many events become committed
first_now : (c : goal.After-self-1) → c.first_before-count.result ≡ prefix_len (λ d. nat_lt d.event.time c.args.bound) c.self.inside.ahead
first_now c = c.first_before-count.ensures.value

-- the latest commit was not beyond the bound
later : (c : goal.After-self-1) → c.self.inside.past.done ≤ c.args.bound
later c = subst (λ (t : Timeline). t.done ≤ c.args.bound) (sym c.self.view_is) c.requires.done

-- the committed events afterwards
past_now : (c : goal.After-self-1) → c.add.new.self ≡ record c.self.inside.past { events = events_of (reverse (take c.first_before-count.result c.self.inside.ahead)) ++ c.self.inside.past.events; done = c.args.bound }
past_now c =
    let a = c.self.inside in
    c.in_ok-add.ensures.ok
    ∙ ap (λ steps. record a.past { events = events_of (reverse steps) ++ a.past.events; done = c.args.bound }) c.first.ensures

pub invariant_of-self-2 : goal.invariant_of-self-2
invariant_of-self-2 c =
    let a = c.self.inside in
    let net = a.router.net in
    let node = a.router.node in
    let bound = c.args.bound in
    let n = c.first_before-count.result in
    let items = a.ahead in
    let is = c.self.invariant in
    let past = past_now c in
    let ahead = c.drop_first.ensures in
    record {
      state = is.state ∙ ap (known net node) (sym (same_history n a.past.events items) ∙ sym (λ i. events_of (reverse (ahead i)) ++ (past i).events));
      noted =
          subst (λ (p : Past). AreNoted net node p.events (reverse c.drop_first.new.self)) (sym past)
          (subst (λ l. AreNoted net node (events_of (reverse (take n items)) ++ a.past.events) (reverse l)) (sym ahead) (noted_left net node n a.past.events items is.noted));
      past = subst (λ (p : Past). AllByRecursion (λ e. e.time < p.done) p.events) (sym past) (past_early a.past.done bound n a.past.events items (later c) (first_now c) is.past);
      change =
          c.last_change_of-change.ensures
          ∙ (ap (λ t. noted_change t c.first.result.1.now) c.last_change_of-older.ensures
          ∙ (noted_both a.past_change c.first.result.0.now c.first.result.1.now
          ∙ (ap (noted_change a.past_change) c.first.ensures
          ∙ (change_committed net node n a.past.events items a.past_change is.noted is.change ∙ ap (λ (p : Past). last_change_at net node p.events) (sym past)))));
      node = ap (λ (p : Past). p.node) past ∙ is.node;
      is_case = subst (λ (p : Past). IsCase p.case) (sym past) is.is_case;
    }

pub returns-clause-ok : goal.returns-clause-ok
returns-clause-ok c =
    let a = c.self.inside in
    let n = c.first_before-count.result in
    let items = a.ahead in
    let bound = c.args.bound in
    let past = past_now c in
    let left = ap (λ l. events_of (reverse l)) c.drop_first.ensures ∙ sym (left_events bound n items (first_now c)) in
    let gone = ap (λ (p : Past). p.events) past ∙ ap (λ l. l ++ a.past.events) (sym (gone_events bound n items (first_now c))) in
    (λ i. record { net = a.router.net; node = a.router.node; ahead = left i; past = gone i; done = (past i).done; room = a.room; case = (past i).case; retains = (past i).retains })
    ∙ ap (committed_to bound) c.self.view_is

pub returns-clause-past : goal.returns-clause-past
returns-clause-past c =
    subst (λ (t : Timeline). IsFalling (simulation t.case) (history t) → c.add.new.self.events ≡ below (simulation t.case) c.args.bound (history t)) c.self.view_is
    (λ falling.
    let a = c.self.inside in
    let is = c.self.invariant in
    ap (λ (p : Past). p.events) (past_now c)
    ∙ sym (all_committed a.past.case is.is_case c.args.bound a.past.done c.first_before-count.result a.past.events a.ahead (later c) (first_now c) is.past falling))

pub returns-clause-ahead : goal.returns-clause-ahead
returns-clause-ahead c =
    subst (λ (t : Timeline). IsFalling (simulation t.case) (history t) → events_of (reverse c.drop_first.new.self) ≡ not_before c.args.bound (history t)) c.self.view_is
    (λ falling.
    let a = c.self.inside in
    let is = c.self.invariant in
    ap (λ l. events_of (reverse l)) c.drop_first.ensures
    ∙ sym (all_stay a.past.case is.is_case c.args.bound a.past.done c.first_before-count.result a.past.events a.ahead (later c) (first_now c) is.past falling))
