-- Whatever the delays, a run keeps to the paths that elimination leaves; where it leaves no choice, the run comes to rest.
use Rattle.std.proofs.Common.{◌≡◌, ℕ, suc, zero, ◌+◌, ◌<◌, ◌≤◌, ◌==◌, true, false, ◌&&◌, List, [], ◌∷◌, ◌++◌, refl, ap, sym, ◌∙◌, subst, inl, inr, arith, nat_lt, if◌then◌else◌}
use Rattle.std.proofs.lemmas.Bool.{cases_Bool, and_from, and_parts, false≢true, eq-eqb, ltb-true, ltb-false}
use Rattle.tw_event.specs.declared.event.Body.{Body}
use Rattle.tw_event.specs.declared.event.Body.TheVariants.{Start, Fail, Restore, Swap, Forbid, Allow, Update}
use Rattle.tw_event.specs.declared.event.Event.{Event}
use Rattle.tw_event.specs.declared.event.PathNo.{PathNo}
use Rattle.tw_event.proofs.Order.{before_time, same_is, same_self}
use Rattle.tw_model.specs.Net.{Net, empty_path}
use Rattle.tw_model.specs.State.{State, has_peer, hop, row, slot}
use Rattle.tw_model.specs.Effect.{body_suits, acts, effect}
use Rattle.tw_model.specs.Case.{Case, IsCase, opening_events, simulation}
use Rattle.tw_model.specs.Quiet.{IsQuiet, is_reached, stable_path}
use Rattle.tw_sim.specs.Simulation.{only, sent, state, times}
use Rattle.tw_sim.specs.Seq.{at, log, rest}
use Rattle.tw_sim.proofs.Members.{In, in_append, in_right, in_times, times_in}
use Rattle.tw_sim.proofs.Unique.{sent_by_source}
use Rattle.tw_sim.proofs.Closed.{rest_late, running_seq}
use Rattle.tw_model.proofs.Lawful.{lawful, numbered}
use Rattle.tw_model.proofs.LinkHeard.{Falls, row_state, rows_full, state_home}
use Rattle.tw_model.proofs.LinkLast.{IsHistory, newest}
use Rattle.tw_model.proofs.LinkTold.{Tell, told, untold}
use Rattle.tw_model.proofs.Nets.{has_peer_back, has_peer_of}
use Rattle.tw_model.proofs.Suits.{own_state, to_effect}
use Rattle.tw_model.proofs.Within.{suits_within}
use Rattle.tw_model.proofs.Settled.{best_along, start}
use Rattle.tw_model.proofs.Quiet.{asked, best_stable, from_history, history, is_history, sent_update}
use Rattle.tw_policy.specs.Elimination.{IsAtMost, MayUse, after_rounds}
use Rattle.tw_policy.specs.Left.{left_after, remaining}
use Rattle.tw_policy.proofs.Left.{stable_remains}
use Rattle.tw_policy.proofs.Lists.{found_in}
use Rattle.tw_policy.specs.Standing.{standing}
use Rattle.tw_policy.proofs.Stand.{HasWholeScript, is_scripted, stable_stand}
use Rattle.tw_policy.proofs.Standing.{stands}
use Rattle.tw_policy.proofs.Late as late
use Rattle.tw_policy.proofs.Late.{Since, from_since, since_all, since_earlier, since_older}

pub after_start : (begin most n : ℕ) → begin ≤ after_rounds begin most n
after_start begin most zero = omega arith
after_start begin most (suc n) = let more = after_start begin most n in omega arith

quiet_acts : (net : Net) (v : ℕ) (s : State) (e : Event) (b : Body) → is_scripted b ≡ false → (acts net v s e b).state.rib ≡ s.rib → (acts net v s e b).sends ≡ []
quiet_acts net v s e (Update q n) h same = grind arith
quiet_acts net v s e Start h same = absurd (false≢true (sym h))
quiet_acts net v s e (Fail w) h same = absurd (false≢true (sym h))
quiet_acts net v s e (Restore w) h same = absurd (false≢true (sym h))
quiet_acts net v s e (Swap i j) h same = absurd (false≢true (sym h))
quiet_acts net v s e (Forbid k) h same = absurd (false≢true (sym h))
quiet_acts net v s e (Allow k) h same = absurd (false≢true (sym h))

-- an event and what is older than it lack nothing from before it
since_falls : (all : List Event) → Falls all → (f : Event) (g : List Event) → Since 0 (f ∷ g) all → Since f.time (f ∷ g) all
since_falls all falls f g since = record { newer = since.newer; parts = since.parts; late = no_earlier since.newer (subst Falls since.parts falls) } where
  no_earlier : (newer : List Event) → Falls (newer ++ f ∷ g) → (e : Event) → In e newer → f.time ≤ e.time
  no_earlier (x ∷ newer) down e (inl same) = subst (λ z. f.time ≤ z.time) (sym same) (before_time f x (down.0 f (in_right f newer (f ∷ g) (inl refl))))
  no_earlier (x ∷ newer) down e (inr k) = no_earlier newer down.1 e k
  no_earlier [] down e k = absurd k

module _ (net : Net) (states : ℕ → State) where
  -- a rule of what a router may use after so many rounds, which allows at least what elimination leaves
  pub record IsKept (Keeps : ℕ → ℕ → PathNo → Type 0) : Type 0 where
    pub first : (v : ℕ) (ribs : ℕ → PathNo) → Keeps 0 v (stable_path net ribs v (states v))
    pub more : (n v : ℕ) (ribs : ℕ → PathNo) → ((w : ℕ) → Keeps n w (ribs w)) → Keeps (suc n) v (stable_path net ribs v (states v))

  -- one path that so many rounds leave
  unfoldable pub some_path : ℕ → ℕ → PathNo
  some_path zero v = stable_path net (λ w. empty_path) v (states v)
  some_path (suc n) v = stable_path net (some_path n) v (states v)

  pub some_kept : (Keeps : ℕ → ℕ → PathNo → Type 0) → IsKept Keeps → (n v : ℕ) → Keeps n v (some_path n v)
  unfolding some_path
  some_kept Keeps kept zero v = kept.first v (λ w. empty_path)
  some_kept Keeps kept (suc n) v = kept.more n v (some_path n) (some_kept Keeps kept n)

  -- elimination as it is defined
  pub eliminates : IsKept (MayUse net states)
  eliminates = record { first = λ v ribs. tt; more = λ n v ribs may. (ribs, may, refl) }

  -- the lists of so many rounds
  abbrev pub IsLeftAfterRounds : ℕ → ℕ → PathNo → Type 0
  IsLeftAfterRounds n v q = In q (left_after net states n v)

  pub lists : IsKept IsLeftAfterRounds
  lists = record {
    first = λ v ribs. elim (cases_Bool (v == 0)) [
      | inl b ↦ rw b (inl refl)
      | inr b ↦ rw b (found_in (is_reached net ribs v (states v)) empty_path (states v).order)
    ];
    more = λ n v ribs listed. elim (cases_Bool (v == 0)) [
      | inl b ↦ rw b (inl refl)
      | inr b ↦ (
          let there : In (stable_path net ribs v (states v)) (remaining net states (left_after net states n) v [] (states v).order)
          = stable_remains net states (left_after net states n) ribs listed v b in
          let here : left_after net states (suc n) v ≡ remaining net states (left_after net states n) v [] (states v).order = rw b refl in
          subst (In (stable_path net ribs v (states v))) (sym here) there)
    ];
  }

module _ (case : Case) (is : IsCase case) (begin : ℕ) (scripted : (e : Event) → In e (opening_events case.scenes) → e.time < begin) where
  module _ (t : ℕ) (ready : begin ≤ t) where
    -- a late part of a history has all of the script
    pub is_whole : (v s : ℕ) (h : List Event) → begin ≤ s → Since s h (history case is t v) → HasWholeScript case is v h
    is_whole v s h after since =
        let opened = late.has_opened case is begin t scripted ready v s h after since in
        record {
          falls = opened.falls;
          home = opened.home;
          opened = opened.opened;
          scripted = λ e i b. elim (asked case is t e (from_history case is t v e (from_since s h (history case is t v) since e i)).1) [
            | inl o ↦ o
            | inr k ↦ (
                let u = (sent_update case is e.src (history case is t e.src) (is_history case is t e.src).home e k).1 in
                absurd (false≢true (subst (λ c. is_scripted c ≡ true) u.2 b)))
          ];
        }

    -- what a router uses, late in its history, is its best path by what it heard and how it stands
    pub best_then : (v s : ℕ) (h : List Event) → begin ≤ s → Since s h (history case is t v) → (ribs : ℕ → PathNo)
        → ((w : ℕ) → has_peer case.net v w ≡ true → (row (state (simulation case) v h) (slot case.net v w)).up ≡ true
        → (row (state (simulation case) v h) (slot case.net v w)).heard ≡ ribs w)
        → (state (simulation case) v h).rib ≡ stable_path case.net ribs v (standing case v)
    best_then v s h after since ribs heard =
        let whole = is_whole v s h after since in
        let s_now = state (simulation case) v h in
        best_along case v h (late.older_part case is begin t scripted ready v s h since)
        (λ z. whole.opened start (inl refl) (sym z))
        ∙ (best_stable case.net v s_now ribs (rows_full case v h whole.home) heard
        ∙ stable_stand case.net v ribs s_now (standing case v) (stands case is v h whole))

    module _ (most : ℕ) (longest : IsAtMost case.net most) (Keeps : ℕ → ℕ → PathNo → Type 0) (kept : IsKept case.net (standing case) Keeps) where
      module _ (n : ℕ) (more : (w : ℕ) (g : List Event) → Since (after_rounds begin most n) g (history case is t w) → Keeps n w (state (simulation case) w g).rib)
          (v : ℕ) (h : List Event) (soon : after_rounds begin most (suc n) ≤ t) (since : Since (after_rounds begin most (suc n)) h (history case is t v)) where
        abbrev now : State
        now = state (simulation case) v h

        -- what v heard of its neighbours over links that are up, and of others any path that is left
        abbrev ribs : ℕ → PathNo
        ribs w = if has_peer case.net v w && (row now (slot case.net v w)).up then (row now (slot case.net v w)).heard else some_path case.net (standing case) n w

        heard : (w : ℕ) → has_peer case.net v w ≡ true → (row now (slot case.net v w)).up ≡ true → (row now (slot case.net v w)).heard ≡ ribs w
        heard w there up = rw (there, up) refl

        may_heard : (w : ℕ) → has_peer case.net v w ≡ true → (row now (slot case.net v w)).up ≡ true → Keeps n w (row now (slot case.net v w)).heard
        may_heard w there up =
            let after = after_start begin most n in
            let takes = longest w v (has_peer_back case.net is.net v w there) in
            let delay = (hop case.net w (slot case.net w v)).delay in
            let whole = is_whole v (after_rounds begin most (suc n)) h (after_start begin most (suc n)) since in
            let same = row_state case v w there h whole.home in
            let used = late.heard_late case is begin t scripted ready v w there (after_rounds begin most n) after (omega arith) h
            (since_earlier (after_rounds begin most n + delay) (after_rounds begin most (suc n)) h (history case is t v) (omega arith) since)
            (sym (ap (λ r. r.up) same) ∙ up) in
            subst (Keeps n w) (used.rib ∙ sym (ap (λ r. r.heard) same)) (more w used.h used.since)

        may : (w : ℕ) → Keeps n w (ribs w)
        may w = grind (arith, cases_Bool, and_parts, may_heard, some_kept)

        may_step : Keeps (suc n) v now.rib
        may_step = subst (Keeps (suc n) v) (sym (best_then v (after_rounds begin most (suc n)) h (after_start begin most (suc n)) since ribs heard)) (kept.more n v ribs may)

      -- from so many longest delays after the last scripted event on, a router uses what so many rounds leave
      pub may_late : (n v : ℕ) (h : List Event) → after_rounds begin most n ≤ t → Since (after_rounds begin most n) h (history case is t v)
          → Keeps n v (state (simulation case) v h).rib
      may_late zero v h soon since =
          let ribs = λ (w : ℕ). (row (state (simulation case) v h) (slot case.net v w)).heard in
          subst (Keeps 0 v) (sym (best_then v begin h (omega arith) since ribs (λ w there up. refl))) (kept.first v ribs)
      may_late (suc n) v h soon since = may_step n (λ w g part. may_late n w g (omega arith) part) v h soon since

      -- what a router uses then is left
      pub may_now : (n v : ℕ) → after_rounds begin most n ≤ t → Keeps n v (at (simulation case) t v).rib
      may_now n v soon = may_late n v (history case is t v) soon (since_all (after_rounds begin most n) (history case is t v))

      -- so many rounds leave each router one path
      abbrev IsAlone : ℕ → Type 0
      IsAlone n = (v : ℕ) → v < case.net.nodes → (p q : PathNo) → Keeps n v p → Keeps n v q → p ≡ q

      -- and where that is one path, it is this one
      pub rests_there : (n : ℕ) → IsAlone n → after_rounds begin most n ≤ t → (v : ℕ) → v < case.net.nodes
          → (q : PathNo) → Keeps n v q → (at (simulation case) t v).rib ≡ q
      rests_there n solved soon v here q may = solved v here (at (simulation case) t v).rib q (may_now n v soon) may

      module _ (n : ℕ) (solved : IsAlone n) (over : after_rounds begin most (suc n) ≤ t) where
        -- what an event sent that is pending at t is late
        sender_late : (w : ℕ) (f : Event) (g : List Event) → IsHistory case.net w (f ∷ g) → (x : Event) → In x ((simulation case).sends (state (simulation case) w g) f) → t ≤ x.time
            → after_rounds begin most n ≤ f.time
        sender_late w f g his x i pending =
            let home = his.home f (inl refl) in
            let sends : In x (effect case.net w (state (simulation case) w g) f).sends
            = subst (λ r. In x (effect case.net r (state (simulation case) w g) f).sends) home i in
            let to = to_effect case.net w (state (simulation case) w g) f (his.suit f (inl refl)) (own_state case w g (λ y k. his.home y (inr k))) x sends in
            let there : has_peer case.net w x.dst ≡ true = subst (λ r. has_peer case.net w r ≡ true) (sym to.hop.2) (has_peer_of case.net w to.hop.0 to.hop.1) in
            let takes = longest w x.dst there in
            let time = sent_time there (newest case is w x.dst there f g his) in
            omega arith where
              sent_time : (there : has_peer case.net w x.dst ≡ true)
                  → Tell case.net w x.dst there f.time (state (simulation case) w g) (state (simulation case) w (f ∷ g)) ((simulation case).sends (state (simulation case) w g) f)
                  → x.time ≡ f.time + (hop case.net w (slot case.net w x.dst)).delay
              sent_time there (told u k tells only) = ap (λ z. z.time) (only x i refl) ∙ tells.time
              sent_time there (untold none kept) = absurd (none x i refl)

        -- an event after which its router uses what it used before sends nothing
        silent_then : (w : ℕ) (f : Event) (g : List Event) → Since (after_rounds begin most n) (f ∷ g) (history case is t w) → after_rounds begin most n ≤ f.time
            → (effect case.net w (state (simulation case) w g) f).sends ≡ []
        silent_then w f g since after_it =
            let his = late.older_part case is begin t scripted ready w (after_rounds begin most n) (f ∷ g) since in
            let whole = is_whole w (after_rounds begin most n) (f ∷ g) (after_start begin most n) since in
            let home = his.home f (inl refl) in
            let here : w < case.net.nodes
            = suits_within case.net w f is.net (and_from (f.dst == w) (body_suits case.net w f f.body) (eq-eqb f.dst w home) (his.suit f (inl refl))) in
            let before = may_late n w g (omega arith) (since_older (after_rounds begin most n) f g (history case is t w) after_it since) in
            let afterwards = may_late n w (f ∷ g) (omega arith) since in
            let same = solved w here (state (simulation case) w (f ∷ g)).rib (state (simulation case) w g).rib afterwards before in
            let unscripted : is_scripted f.body ≡ false = elim (cases_Bool (is_scripted f.body)) [
              | inr b ↦ b
              | inl b ↦ (let early = scripted f (whole.scripted f (inl refl) b) in let after = after_start begin most n in absurd (omega arith))
            ] in
            quiet_acts case.net w (state (simulation case) w g) f f.body unscripted (sym (ap (λ s. s.rib) (state_home case w f g home)) ∙ same)

        none_sent : (w : ℕ) (h : List Event) → Since 0 h (history case is t w) → (x : Event) → In x (sent (simulation case) w h) → t ≤ x.time → ⊥
        none_sent w [] since x i pending = i
        none_sent w (f ∷ g) since x i pending =
            elim (in_append x ((simulation case).sends (state (simulation case) w g) f) (sent (simulation case) w g) i) [
              | inr k ↦ none_sent w g (since_older 0 f g (history case is t w) (omega arith) since) x k pending
              | inl k ↦ (
                  let his = late.older_part case is begin t scripted ready w 0 (f ∷ g) since in
                  let after_it = sender_late w f g his x k pending in
                  let newer = since_falls (history case is t w) (is_history case is t w).falls f g since in
                  let part = since_earlier (after_rounds begin most n) f.time (f ∷ g) (history case is t w) after_it newer in
                  let none = silent_then w f g part after_it in
                  subst (In x) none (subst (λ r. In x (effect case.net r (state (simulation case) w g) f).sends) (his.home f (inl refl)) k))
            ]

        none_pending : (x : Event) → 0 < times (simulation case) x (rest (simulation case) t) → ⊥
        none_pending x counted =
            let pending = rest_late (simulation case) (lawful case is) (numbered case is) t x counted in
            let balance = (running_seq (simulation case) (lawful case is) (numbered case is) t).balance x in
            let source = sent_by_source (simulation case) (lawful case is) (log (simulation case) t) x in
            elim (cases_Bool (nat_lt 0 (times (simulation case) x (opening_events case.scenes)))) [
              | inl b ↦ (
                  let early = scripted x (in_times (simulation case) same_is x (opening_events case.scenes) (ltb-true 0 (times (simulation case) x (opening_events case.scenes)) b)) in
                  omega arith)
              | inr b ↦ (
                  let none = ltb-false 0 (times (simulation case) x (opening_events case.scenes)) b in
                  none_sent x.src (history case is t x.src) (since_all 0 (history case is t x.src)) x
                  (in_times (simulation case) same_is x (sent (simulation case) x.src (history case is t x.src)) (omega arith)) pending)
            ]

        -- one longest delay later nothing is pending
        pub rests : IsQuiet case t
        rests = nothing_there (rest (simulation case) t) (λ x i. none_pending x (times_in (simulation case) same_self x (rest (simulation case) t) i)) where
          nothing_there : (xs : List Event) → ((x : Event) → In x xs → ⊥) → xs ≡ []
          nothing_there [] none = refl
          nothing_there (x ∷ xs) none = absurd (none x (inl refl))
