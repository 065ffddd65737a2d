-- A shard as it begins.
use Rattle.std.proofs.Common.{◌≡◌, ℕ, ◌<◌, ◌==◌, ◌&&◌, Bool, true, false, nat_lt, List, [], ◌∷◌, ap, sym, ◌∙◌, refl, subst, inl, inr, arith, if◌then◌else◌}
use Rattle.std.proofs.Common.{filter, length, map}
use Rattle.std.specs.List.{AllByRecursion, range_with_len}
use Rattle.std.proofs.Math.Path.{fun_ext}
use Rattle.std.proofs.lemmas.Bool.{cases_Bool, lt-ltb}
use Rattle.tw_core.proofs.Sums.{all_map}
use Rattle.tw_core.specs.declared.limits.TheConstants.{OPENING_ROOM}
use Rattle.tw_event.specs.declared.event.Event.{Event}
use Rattle.tw_event.specs.Order.{event_before, event_same}
use Rattle.tw_shard.proofs.Laid.{IsLaid, laid, latest_laid, whole_laid}
use Rattle.tw_model.specs.Case.{Case, IsCase, opening_events, simulation}
use Rattle.tw_model.specs.Effect.{suits}
use Rattle.tw_model.proofs.Lawful.{lawful}
use Rattle.tw_model.proofs.Within.{suits_within}
use Rattle.tw_ordered.proofs.Ordered.{all-filter}
use Rattle.tw_shard.specs.Inside.{HasHandledTo}
use Rattle.tw_shard.specs.Roster.{StandOnce, StandsInList, has}
use Rattle.tw_shard.specs.Shard.{IsOpeningBy, IsSoundShard, Shard, opening_core_by, owns, shard_core, timeline}
use Rattle.tw_shard.proofs.OwnRouters.{has_own}
use Rattle.tw_shard.specs.Timeline.{Timeline, history, opening_timeline}
use Rattle.tw_sim.specs.Ordered.{insert, insert_all}
use Rattle.tw_sim.proofs.Counts.{is_order}
use Rattle.tw_sim.proofs.Ordered.{all-insert, all_counted}

-- each opening event suits its receiver
opening_suits : (case : Case) → IsCase case → AllByRecursion (λ e. suits case.net e.dst e ≡ true) (opening_events case.scenes)
opening_suits case is =
    let m = simulation case in
    let law = lawful case is in
    all_counted m.before m.same (is_order m law) (λ e. suits case.net e.dst e ≡ true) (opening_events case.scenes) law.suit_opening

-- so that it is for a router of the case
pub opening_home : (case : Case) (routers : ℕ) (events : List Event) → IsCase case → events ≡ opening_events case.scenes → routers ≡ case.net.nodes
    → AllByRecursion (λ e. e.dst < routers) events
opening_home case routers events is are count =
    subst (λ n. AllByRecursion (λ e. e.dst < n) events) (sym count) (subst (AllByRecursion (λ e. e.dst < case.net.nodes)) (sym are)
    (all_map (λ e. suits case.net e.dst e ≡ true) (λ e. e.dst < case.net.nodes) (λ e h. suits_within case.net e.dst e is.net h) (opening_events case.scenes) (opening_suits case is)))

pub all_inserted : (P : Event → Type 0) (events pending : List Event) → AllByRecursion P events → AllByRecursion P pending
    → AllByRecursion P (insert_all event_before events pending)
all_inserted P [] pending new old = old
all_inserted P (e ∷ events) pending new old = all_inserted P events (insert event_before e pending) new.1 (all-insert event_before P e pending new.0 old)

-- events of the same routers are the same
pub same_filter : (p q : ℕ → Bool) (events : List Event) → AllByRecursion (λ e. p e.dst ≡ q e.dst) events → filter (λ e. p e.dst) events ≡ filter (λ e. q e.dst) events
same_filter p q [] all = refl
same_filter p q (e ∷ events) all =
    let more = same_filter p q events all.1 in
    elim (cases_Bool (q e.dst)) [
      | inl there ↦ (let here : p e.dst ≡ true = all.0 ∙ there in rw (here, there) (ap (λ es. e ∷ es) more))
      | inr other ↦ (let none : p e.dst ≡ false = all.0 ∙ other in rw (none, other) more)
    ]

-- a list of the routers of one worker has these
pub owned_by : (rs : List ℕ) (who : ℕ → ℕ) (k nodes : ℕ) → rs ≡ filter (λ r. who r == k) (range_with_len 0 nodes) → (r : ℕ) → has rs r ≡ (nat_lt r nodes && (who r == k))
owned_by rs who k nodes order r = ap (λ rs. has rs r) order ∙ has_own (λ r. who r == k) nodes r

-- a shard with its routers as they begin, the opening events for them, and nothing else
pub record IsBegun (s : Shard) : Type 0 where
  pub case : IsCase s.terms.case
  pub worker : s.terms.worker < s.terms.workers
  pub known : (k r : ℕ) → StandsInList s.routers k r → r < s.terms.case.net.nodes
  pub apart : StandOnce s.routers
  pub timelines : s.timelines ≡ map (opening_timeline s.terms.case s.terms.retains) s.routers
  pub pending : s.pending ≡ insert_all event_before (filter (λ e. owns s e.dst) (opening_events s.terms.case.scenes)) []
  pub kept : s.kept ≡ []
  pub outgoing : s.outgoing ≡ []
  pub held : s.held ≡ []
  pub bound : s.bound ≡ 0

module _ (s : Shard) (is : IsBegun s) where
  laid_begun : IsLaid (opening_timeline s.terms.case s.terms.retains) s
  laid_begun = record {
    case = is.case;
    worker = is.worker;
    known = is.known;
    apart = is.apart;
    timelines = is.timelines;
    lines = λ r. record { net = refl; node = refl; done = omega arith; case = refl; retains = refl };
    pending =
        let P = λ (e : Event). suits s.terms.case.net e.dst e ≡ true in
        let own = λ (e : Event). owns s e.dst in
        subst (AllByRecursion P) (sym is.pending)
        (all_inserted P (filter own (opening_events s.terms.case.scenes)) [] (all-filter event_before event_same P own (opening_events s.terms.case.scenes) (opening_suits s.terms.case is.case)) tt);
    held = is.held;
  }

  -- each of its routers is as it begins
  pub opened : (r : ℕ) → owns s r ≡ true → timeline s r ≡ opening_timeline s.terms.case s.terms.retains r
  opened r mine = laid (opening_timeline s.terms.case s.terms.retains) s laid_begun r mine

  -- what is read of each router is what is there where there is none
  read_opened : {A : Type 0} (read : Timeline → A) (none : A) → ((r : ℕ) → read (opening_timeline s.terms.case s.terms.retains r) ≡ none)
      → ◌≡◌ {A = ℕ → A} (λ r. if owns s r then read (timeline s r) else none) (λ r. none)
  read_opened read none same =
      fun_ext (λ r. elim (cases_Bool (owns s r)) [
        | inl mine ↦ rw mine (ap read (opened r mine) ∙ same r)
        | inr other ↦ rw other refl
      ])

  pub whole_begun : IsSoundShard s
  whole_begun = whole_laid (opening_timeline s.terms.case s.terms.retains) s laid_begun

  -- and none has handled anything
  pub latest_begun : HasHandledTo 0 s
  latest_begun = latest_laid (opening_timeline s.terms.case s.terms.retains) s laid_begun 0 (λ r. tt)

  -- the routers are the worker's
  own_by : (who : ℕ → ℕ) → s.routers ≡ filter (λ r. who r == s.terms.worker) (range_with_len 0 s.terms.case.net.nodes)
      → (r : ℕ) → owns s r ≡ (nat_lt r s.terms.case.net.nodes && (who r == s.terms.worker))
  own_by who order r = owned_by s.routers who s.terms.worker s.terms.case.net.nodes order r

  -- as a machine of its own routers it begins
  core_begun : (who : ℕ → ℕ) → s.routers ≡ filter (λ r. who r == s.terms.worker) (range_with_len 0 s.terms.case.net.nodes)
      → (stop : ℕ) → shard_core stop s ≡ opening_core_by s.terms.case who s.terms.worker s.terms.cancel stop
  core_begun who order stop =
      let histories = read_opened history [] (λ r. refl) in
      let dones = read_opened (λ (t : Timeline). t.done) 0 (λ r. refl) in
      let pasts = read_opened (λ (t : Timeline). length t.past) 0 (λ r. refl) in
      let rooms = read_opened (λ (t : Timeline). t.room) OPENING_ROOM (λ r. refl) in
      let own = same_filter (λ r. owns s r) (λ r. who r == s.terms.worker) (opening_events s.terms.case.scenes)
      (all_map (λ e. suits s.terms.case.net e.dst e ≡ true) (λ e. owns s e.dst ≡ (who e.dst == s.terms.worker))
      (λ e h. let within = suits_within s.terms.case.net e.dst e is.case.net h in
      own_by who order e.dst ∙ ap (λ b. b && (who e.dst == s.terms.worker)) (lt-ltb e.dst s.terms.case.net.nodes within))
      (opening_events s.terms.case.scenes) (opening_suits s.terms.case is.case)) in
      let waits = is.pending ∙ ap (λ es. insert_all event_before es []) own in
      λ i. record {
        history = histories i;
        pending = waits i;
        kept = is.kept i;
        flight = is.outgoing i;
        held = is.held i;
        done = dones i;
        past = pasts i;
        room = rooms i;
        bound = is.bound i;
        stop = stop;
        cancel = s.terms.cancel;
      }

  pub opening : (who : ℕ → ℕ) → s.routers ≡ filter (λ r. who r == s.terms.worker) (range_with_len 0 s.terms.case.net.nodes)
      → IsOpeningBy s.terms.case who s.terms.worker s.terms.workers s.terms.retains s.terms.cancel s
  opening who order = record {
    core_is = core_begun who order;
    owns_are = own_by who order;
    order = order;
    routers = opened;
    terms = refl;
  }
