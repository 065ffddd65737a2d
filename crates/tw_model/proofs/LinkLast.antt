-- Along a router's history: its newest update to a neighbour has the path and the session that the router has now.
use Rattle.std.proofs.Common.{◌≡◌, ℕ, ◌+◌, ◌<◌, ◌≤◌, true, List, [], ◌∷◌, length, refl, ap, sym, ◌∙◌, subst, ◌⊎◌, inl, inr, arith}
use Rattle.std.specs.Ordering.{nat_cmp}
use Rattle.std.specs.declared.cmp.Ordering.TheVariants.{Equal}
use Rattle.std.proofs.lemmas.Bool.{false≢true, both_ways, eq-eqb, ltb-true, le-ltb}
use Rattle.tw_event.specs.declared.event.Body.TheVariants.{Update}
use Rattle.tw_event.specs.declared.event.Event.{Event}
use Rattle.tw_event.specs.declared.event.PathNo.{PathNo}
use Rattle.tw_event.specs.Order.{event_before}
use Rattle.tw_event.proofs.Order.{before_time}
use Rattle.tw_model.specs.declared.state.Row.{Row}
use Rattle.tw_model.specs.Net.{Net, empty_path, hops_of}
use Rattle.tw_model.specs.State.{State, has_peer, hop, row, slot}
use Rattle.tw_model.specs.Effect.{body_suits, effect}
use Rattle.tw_sim.specs.Simulation.{sent, state}
use Rattle.tw_model.specs.Case.{Case, IsCase, simulation}
use Rattle.tw_sim.proofs.Members.{In, in_append, in_left, in_right}
use Rattle.tw_model.proofs.Nets.{hop_in_hops, neighbour}
use Rattle.tw_model.proofs.Sends.{tells_effect}
use Rattle.tw_model.proofs.LinkHeard.{Change, Falls, LinkState, agree_along, change_along, link_along, row_along, row_state, rows_full, since_soon, taken, raised, lowered, nothing}
use Rattle.tw_model.proofs.LinkTold.{IsTold, Tell, tell_effect, told, untold}

pub same_cmp : (m n : ℕ) → m ≡ n → nat_cmp m n ≡ Equal
same_cmp m n e = rw (le-ltb m n (omega arith), eq-eqb m n e) refl

-- of two updates from one router to another the earlier sent comes first, unless it arrives later
before_update : (x y : Event) (q p : PathNo) (n m : ℕ) → x.body ≡ Update q n → y.body ≡ Update p m → x.time ≤ y.time → x.dst ≡ y.dst → x.src ≡ y.src → x.seq < y.seq
    → event_before x y ≡ true
before_update x y q p n m xb yb time dst src seq = grind arith

-- the events of one router, newest first, each suits it
pub record IsHistory (net : Net) (a : ℕ) (h : List Event) : Type 0 where
  pub home : (e : Event) → In e h → e.dst ≡ a
  pub suit : (e : Event) → In e h → body_suits net a e e.body ≡ true
  pub falls : Falls h

pub older_history : (net : Net) (a : ℕ) (e : Event) (h : List Event) → IsHistory net a (e ∷ h) → IsHistory net a h
older_history net a e h is = record { home = λ x k. is.home x (inr k); suit = λ x k. is.suit x (inr k); falls = is.falls.1 }

module _ (case : Case) (is : IsCase case) (a b : ℕ) (there : has_peer case.net a b ≡ true) where
  abbrev pub delay : ℕ
  delay = (hop case.net a (slot case.net a b)).delay

  delay_least : 1 ≤ delay
  delay_least =
      (neighbour case.net is.net a (hop case.net a (slot case.net a b)) (hop_in_hops case.net a (slot case.net a b) (ltb-true (slot case.net a b) (length (hops_of case.net a)) there))).least

  -- what the newest event told b
  pub newest : (e : Event) (h : List Event) → IsHistory case.net a (e ∷ h)
      → Tell case.net a b there e.time (state (simulation case) a h) (state (simulation case) a (e ∷ h)) ((simulation case).sends (state (simulation case) a h) e)
  newest e h his =
      subst (λ r. Tell case.net a b there e.time (state (simulation case) a h) (effect case.net r (state (simulation case) a h) e).state (effect case.net r (state (simulation case) a h) e).sends)
      (sym (his.home e (inl refl)))
      (tell_effect case.net a b there (state (simulation case) a h) e (rows_full case a h (λ x k. his.home x (inr k))) (his.suit e (inl refl)))

  -- an update that was sent to b in a history of events up to time t
  pub record WasSent (t : ℕ) (h : List Event) (x : Event) : Type 0 where
    pub src : x.src ≡ a
    pub time : x.time ≤ t + delay
    pub seq : x.seq < (state (simulation case) a h).counters.sent
    pub path : PathNo
    pub session : ℕ
    pub body : x.body ≡ Update path session

  was_told : (t : ℕ) (e : Event) (h : List Event) → IsHistory case.net a (e ∷ h) → e.time ≤ t → (before after : State) (sends : List Event)
      → Tell case.net a b there e.time before after sends → (x : Event) → In x sends → x.dst ≡ b
      → (x.src ≡ a) × (x.time ≤ t + delay) × ((q : PathNo) × (n : ℕ) × (x.body ≡ Update q n))
  was_told t e h his soon before after sends (told u i is only) x k d = grind arith
  was_told t e h his soon before after sends (untold none kept) x k d = absurd (none x k d)

  pub was_sent : (t : ℕ) (h : List Event) → IsHistory case.net a h → ((e : Event) → In e h → e.time ≤ t) → (x : Event) → In x (sent (simulation case) a h) → x.dst ≡ b → WasSent t h x
  was_sent t [] his soon x i d = absurd i
  was_sent t (e ∷ h) his soon x i d =
      let tells = tells_effect case is.net e.dst (state (simulation case) a h) e in
      elim (in_append x ((simulation case).sends (state (simulation case) a h) e) (sent (simulation case) a h) i) [
        | inl k ↦ (
            let w = was_told t e h his (soon e (inl refl)) _ _ _ (newest e h his) x k d in
            let s = tells.sent x k in
            record { src = w.0; time = w.1; seq = s.most; path = w.2.0; session = w.2.1; body = w.2.2 })
        | inr k ↦ (
            let w = was_sent t h (older_history case.net a e h his) (λ y j. soon y (inr j)) x k d in
            let old = w.seq in
            let rising = tells.rising in
            record { src = w.src; time = w.time; seq = omega arith; path = w.path; session = w.session; body = w.body })
      ]

  -- the newest update to b has what a uses now, or there is none and a has no path
  pub data IsLast (h : List Event) (rib : PathNo) (l : LinkState) : Type 0 where
    last : (u : Event) → In u (sent (simulation case) a h) → u.dst ≡ b → u.body ≡ Update rib l.session → l.since < u.time
        → ((x : Event) → In x (sent (simulation case) a h) → x.dst ≡ b → (x ≡ u) ⊎ (event_before x u ≡ true)) → IsLast h rib l
    mute : ((x : Event) → In x (sent (simulation case) a h) → x.dst ≡ b → ⊥) → rib ≡ empty_path → IsLast h rib l

  all_soon : (e : Event) (h : List Event) → Falls (e ∷ h) → (x : Event) → In x (e ∷ h) → x.time ≤ e.time
  all_soon e h f x (inl same) = let k : x.time ≡ e.time = ap (λ z. z.time) same in omega arith
  all_soon e h f x (inr i) = before_time x e (f.0 x i)

  -- where the link stays up with nothing told, it is as it was
  link_kept : (e : Event) (h : List Event) (r : Row) (l : LinkState) (r2 : Row) (l2 : LinkState) → Change b e r l r2 l2 → r.up ≡ true → r2.up ≡ true → l2 ≡ l
  link_kept e h r l r2 l2 (taken q s c u) up up2 = refl
  link_kept e h r l r2 l2 (raised c d) up up2 = absurd (both_ways r.up d up)
  link_kept e h r l r2 l2 (lowered c u) up up2 = absurd (false≢true up2)
  link_kept e h r l r2 l2 (nothing none) up up2 = refl

  last_new : (e : Event) (h : List Event) → IsHistory case.net a (e ∷ h) → (u : Event) → In u ((simulation case).sends (state (simulation case) a h) e)
      → IsTold case.net a b there e.time (state (simulation case) a h) (state (simulation case) a (e ∷ h)) u
      → ((y : Event) → In y ((simulation case).sends (state (simulation case) a h) e) → y.dst ≡ b → y ≡ u)
      → IsLast (e ∷ h) (state (simulation case) a (e ∷ h)).rib (link_along b (e ∷ h))
  last_new e h his u i tells only =
      let rows = row_state case a b there (e ∷ h) his.home in
      let session : (row (state (simulation case) a (e ∷ h)) (slot case.net a b)).session ≡ (link_along b (e ∷ h)).session
      = ap (λ r. r.session) rows ∙ sym (agree_along b (e ∷ h)).session in
      let since = since_soon b e.time (e ∷ h) (all_soon e h his.falls) in
      let time = tells.time in
      let least = delay_least in
      let body : u.body ≡ Update (state (simulation case) a (e ∷ h)).rib (link_along b (e ∷ h)).session
      = tells.body ∙ ap (Update (state (simulation case) a (e ∷ h)).rib) session in
      last u (in_left u ((simulation case).sends (state (simulation case) a h) e) (sent (simulation case) a h) i) tells.dst body (omega arith)
      (λ x k d. elim (in_append x ((simulation case).sends (state (simulation case) a h) e) (sent (simulation case) a h) k) [
        | inl j ↦ inl (only x j d)
        | inr j ↦ (
            let w = was_sent e.time h (older_history case.net a e h his) (λ y m. all_soon e h his.falls y (inr m)) x j d in
            let arrives = w.time in
            let old = w.seq in
            let new = tells.seq in
            inr (before_update x u w.path _ w.session _ w.body body (omega arith) (d ∙ sym tells.dst) (w.src ∙ sym tells.src) (omega arith)))
      ])

  last_kept : (e : Event) (h : List Event) → ((y : Event) → In y ((simulation case).sends (state (simulation case) a h) e) → y.dst ≡ b → ⊥)
      → (rib rib2 : PathNo) (l l2 : LinkState) → rib2 ≡ rib → l2 ≡ l → IsLast h rib l → IsLast (e ∷ h) rib2 l2
  last_kept e h none rib rib2 l l2 same kept (last u i d body since top) =
      last u (in_right u ((simulation case).sends (state (simulation case) a h) e) (sent (simulation case) a h) i) d
      (subst (λ k. u.body ≡ Update rib2 k.session) (sym kept) (subst (λ q. u.body ≡ Update q l.session) (sym same) body))
      (subst (λ k. k.since < u.time) (sym kept) since)
      (λ x k e2. elim (in_append x ((simulation case).sends (state (simulation case) a h) e) (sent (simulation case) a h) k) [
        | inl j ↦ absurd (none x j e2)
        | inr j ↦ top x j e2
      ])
  last_kept e h none rib rib2 l l2 same kept (mute never empty) =
      mute
      (λ x k e2. elim (in_append x ((simulation case).sends (state (simulation case) a h) e) (sent (simulation case) a h) k) [
        | inl j ↦ none x j e2
        | inr j ↦ never x j e2
      ])
      (same ∙ empty)

  last_step : (e : Event) (h : List Event) → IsHistory case.net a (e ∷ h) → (row_along b (e ∷ h)).up ≡ true
      → Tell case.net a b there e.time (state (simulation case) a h) (state (simulation case) a (e ∷ h)) ((simulation case).sends (state (simulation case) a h) e)
      → ((row_along b h).up ≡ true → IsLast h (state (simulation case) a h).rib (link_along b h)) → IsLast (e ∷ h) (state (simulation case) a (e ∷ h)).rib (link_along b (e ∷ h))
  last_step e h his up (told u i is_told only) old = last_new e h his u i is_told only
  last_step e h his up (untold none kept) old =
      let now = row_state case a b there (e ∷ h) his.home in
      let then = row_state case a b there h (λ x k. his.home x (inr k)) in
      let k = kept (ap (λ r. r.up) now ∙ up) in
      let was_up : (row_along b h).up ≡ true = sym (ap (λ r. r.up) then) ∙ k.1 in
      last_kept e h none (state (simulation case) a h).rib (state (simulation case) a (e ∷ h)).rib (link_along b h) (link_along b (e ∷ h)) k.0
      (link_kept e h (row_along b h) (link_along b h) (row_along b (e ∷ h)) (link_along b (e ∷ h)) (change_along b e h) was_up up) (old was_up)

  pub last_along : (h : List Event) → IsHistory case.net a h → (row_along b h).up ≡ true → IsLast h (state (simulation case) a h).rib (link_along b h)
  last_along [] his up = mute (λ x i d. i) refl
  last_along (e ∷ h) his up = last_step e h his up (newest e h his) (λ u. last_along h (older_history case.net a e h his) u)
