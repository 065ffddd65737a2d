-- When a run is over, every router has the best path that its neighbours' present paths allow.
use Rattle.std.proofs.Common.{◌≡◌, ℕ, ◌+◌, ◌<◌, ◌==◌, Bool, true, not, ◌&&◌, ◌||◌, List, [], ◌∷◌, length, refl, ap, sym, ◌∙◌, subst, ◌⊎◌, inl, inr, arith, nat_lt, if◌then◌else◌}
use Rattle.std.specs.List.{list_any, zip}
use Rattle.std.specs.Option.{unwrap_or}
use Rattle.std.proofs.lemmas.Bool.{cases_Bool, false≢true, and_parts, eqb-true, eq-eqb, ltb-true, ltb-false}
use Rattle.tw_event.specs.declared.event.Body.{Body}
use Rattle.tw_event.specs.declared.event.Body.TheVariants.{Update}
use Rattle.tw_event.specs.declared.event.Event.{Event}
use Rattle.tw_event.specs.declared.event.PathNo.{PathNo}
use Rattle.tw_event.proofs.Order.{same_is, same_self}
use Rattle.tw_model.specs.declared.net.Hop.{Hop}
use Rattle.tw_model.specs.declared.state.Row.{Row}
use Rattle.tw_model.specs.Net.{Net, empty_path, hops_of, origin_path}
use Rattle.tw_model.specs.State.{State, bars, best, has_peer, is_choice, offers, row, slot}
use Rattle.tw_model.specs.Effect.{body_suits}
use Rattle.tw_sim.specs.Simulation.{all_sent, only, sent, state, times}
use Rattle.tw_sim.specs.Seq.{at, begin, finished, log, rest, seq, weight}
use Rattle.tw_model.specs.Case.{Case, IsCase, opening_events, simulation}
use Rattle.tw_model.specs.Quiet.{IsQuiet, IsStable, is_reached, reaches, stable_path}
use Rattle.tw_sim.proofs.Members.{In, find_agree, in_append, in_filter, in_filtered, in_times, in_zip, times_in}
use Rattle.tw_model.proofs.Nets.{has_peer_back, has_peer_of, hops_rises}
use Rattle.tw_model.proofs.Sends.{tells_effect}
use Rattle.tw_model.proofs.Openings.{opening_no_update}
use Rattle.tw_sim.proofs.Rising.{AllSuit, suit-begin, suit-turns}
use Rattle.tw_sim.proofs.Unique.{falling-filter, sent_by_source, never_both}
use Rattle.tw_sim.proofs.Closed.{running_seq}
use Rattle.tw_model.proofs.Lawful.{lawful, numbered}
use Rattle.tw_model.proofs.LinkHeard.{IsFrom, IsHeard, LinkState, agree_along, heard_along, link_along, row_along, row_state, rows_full, silent, some}
use Rattle.tw_model.proofs.LinkTold.{zip_row}
use Rattle.tw_model.proofs.LinkLast.{IsHistory, IsLast, last, last_along, mute}
use Rattle.tw_model.proofs.Settled.{best_along, start}
use Rattle.tw_model.proofs.Agreed.{HasOpened, about, ends_agree, falls_from}

-- the events of a run suit the routers that handle them, handled and pending
pub suit_seq : (case : Case) (is : IsCase case) (t : ℕ) → AllSuit (simulation case) (seq (simulation case) t)
unfolding finished
suit_seq case is t =
    suit-turns (simulation case) (lawful case is) (weight (simulation case) t (begin (simulation case)).rest) t (begin (simulation case)) (suit-begin (simulation case) (lawful case is))

-- two tests of rows, with the neighbours beside them or without
pub any_zip : (hs : List Hop) (rs : List Row) (f : Row → Bool) (g : Hop × Row → Bool) → length rs ≡ length hs
    → ((p : Hop × Row) → In p (zip hs rs) → f p.1 ≡ g p) → list_any f rs ≡ list_any g (zip hs rs)
any_zip [] [] f g full h = refl
any_zip [] (r ∷ rs) f g full h = absurd (omega arith)
any_zip (x ∷ hs) [] f g full h = absurd (omega arith)
any_zip (x ∷ hs) (r ∷ rs) f g full h =
    let here : f r ≡ g (x, r) = h (x, r) (inl refl) in
    let more : list_any f rs ≡ list_any g (zip hs rs) = any_zip hs rs f g (omega arith) (λ p k. h p (inr k)) in
    ap (λ b. b || list_any f rs) here ∙ ap (λ b. g (x, r) || b) more

-- where what was heard over the links that are up are these paths, the best path is the best one that they allow
pub best_stable : (net : Net) (v : ℕ) (s : State) (ribs : ℕ → PathNo) → length s.rows ≡ length (hops_of net v)
    → ((w : ℕ) → has_peer net v w ≡ true → (row s (slot net v w)).up ≡ true → (row s (slot net v w)).heard ≡ ribs w) → best net v s ≡ stable_path net ribs v s
best_stable net v s ribs full heard_is =
    ap (λ o. if v == 0 then origin_path else unwrap_or o empty_path)
    (find_agree (is_choice net v s) (is_reached net ribs v s)
    (λ q. ap (λ b. not (bars net v s.barred q) && b) (any_zip (hops_of net v) s.rows (offers net v q) (reaches net v ribs q) full (offers_reaches q))) s.order) where
      offers_reaches : (q : PathNo) (p : Hop × Row) → In p (zip (hops_of net v) s.rows) → offers net v q p.1 ≡ reaches net v ribs q p
      offers_reaches q p i =
          let z = zip_row (hops_of net v) s.rows (hops_rises net v) p i in
          let there = has_peer_of net v p.0 (in_zip p (hops_of net v) s.rows i).0 in
          elim (cases_Bool p.1.up) [
            | inr b ↦ rw b refl
            | inl b ↦ grind arith
          ]

-- the path of an update
path_of : Body → PathNo
path_of (Update q n) = q
path_of b = empty_path

-- an update has one path
pub path_in : (b : Body) (q p : PathNo) (n k : ℕ) → b ≡ Update q n → b ≡ Update p k → q ≡ p
unfolding path_of
path_in b q p n k one two = grind arith

-- a router sends updates, from itself
pub sent_update : (case : Case) → IsCase case → (a : ℕ) (h : List Event) → ((e : Event) → In e h → e.dst ≡ a) → (x : Event) → In x (sent (simulation case) a h)
    → (x.src ≡ a) × ((q : PathNo) × (n : ℕ) × (x.body ≡ Update q n))
sent_update case is a [] home x i = absurd i
sent_update case is a (e ∷ h) home x i =
    elim (in_append x ((simulation case).sends (state (simulation case) a h) e) (sent (simulation case) a h) i) [
      | inl k ↦ (let s = (tells_effect case is.net e.dst (state (simulation case) a h) e).sent x k in (s.src ∙ home e (inl refl), s.body))
      | inr k ↦ sent_update case is a h (λ y j. home y (inr j)) x k
    ]

module _ (case : Case) (is : IsCase case) (t : ℕ) where
  -- what router r has handled of the events before t, the newest first
  abbrev pub history : ℕ → List Event
  history r = only (simulation case) r (log (simulation case) t)

  -- what was handled was an opening event or sent
  pub asked : (e : Event) → In e (log (simulation case) t) → In e (opening_events case.scenes) ⊎ In e (sent (simulation case) e.src (history e.src))
  asked e h =
      let k = times_in (simulation case) same_self e (log (simulation case) t) h in
      let balance = (running_seq (simulation case) (lawful case is) (numbered case is) t).balance e in
      let source = sent_by_source (simulation case) (lawful case is) (log (simulation case) t) e in
      elim (cases_Bool (nat_lt 0 (times (simulation case) e (opening_events case.scenes)))) [
        | inl b ↦ inl (in_times (simulation case) same_is e (opening_events case.scenes) (ltb-true 0 _ b))
        | inr b ↦ (
            let none = ltb-false 0 (times (simulation case) e (opening_events case.scenes)) b in
            inr (in_times (simulation case) same_is e (sent (simulation case) e.src (history e.src)) (omega arith)))
      ]

  pub in_history : (r : ℕ) (e : Event) → In e (log (simulation case) t) → e.dst ≡ r → In e (history r)
  in_history r e h d = in_filtered (λ x. x.dst == r) e (log (simulation case) t) (eq-eqb e.dst r d) h

  pub from_history : (r : ℕ) (e : Event) → In e (history r) → (e.dst ≡ r) × In e (log (simulation case) t)
  from_history r e h = let k = in_filter (λ x. x.dst == r) e (log (simulation case) t) h in (eqb-true e.dst r k.0, k.1)

  pub is_history : (r : ℕ) → IsHistory case.net r (history r)
  is_history r = record {
    home = λ e h. (from_history r e h).0;
    suit = λ e h. (
        let k = from_history r e h in
        let s = (suit_seq case is t).handled e (times_in (simulation case) same_self e (log (simulation case) t) k.1) in
        let suit : body_suits case.net e.dst e e.body ≡ true = (and_parts (e.dst == e.dst) (body_suits case.net e.dst e e.body) s).1 in
        subst (λ d. body_suits case.net d e e.body ≡ true) k.0 suit);
    falls = falls_from case is (history r)
        (falling-filter (simulation case) (lawful case is) (λ x. x.dst == r) (log (simulation case) t) (running_seq (simulation case) (lawful case is) (numbered case is) t).falling);
  }

  -- an update that was handled was sent by its source
  pub update_sent : (e : Event) (q : PathNo) (n : ℕ) → e.body ≡ Update q n → In e (log (simulation case) t) → In e (sent (simulation case) e.src (history e.src))
  update_sent e q n body h = elim (asked e h) [ inl o ↦ absurd (opening_no_update case is e o q n body) | inr s ↦ s ]

  -- an update that v handled was sent to it by w
  pub from_neighbour : (v w : ℕ) (x : Event) (q : PathNo) (n : ℕ) → In x (history v) → x.src ≡ w → x.body ≡ Update q n → In x (sent (simulation case) w (history w))
  from_neighbour v w x q n i src body =
      subst (λ r. In x (sent (simulation case) r (history r))) src (update_sent x q n body (from_history v x i).1)

  module _ (quiet : IsQuiet case t) where
    -- all that was asked for was handled
    handled : (e : Event) → 0 < times (simulation case) e (opening_events case.scenes) + times (simulation case) e (all_sent (simulation case) (log (simulation case) t))
        → In e (log (simulation case) t)
    handled e h =
        let balance = (running_seq (simulation case) (lawful case is) (numbered case is) t).balance e in
        let none : times (simulation case) e (rest (simulation case) t) ≡ 0 = ap (times (simulation case) e) quiet in
        in_times (simulation case) same_is e (log (simulation case) t) (omega arith)

    opening_handled : (e : Event) → In e (opening_events case.scenes) → In e (log (simulation case) t)
    opening_handled e h = handled e (let k = times_in (simulation case) same_self e (opening_events case.scenes) h in omega arith)

    sent_handled : (e : Event) → In e (sent (simulation case) e.src (history e.src)) → In e (log (simulation case) t)
    sent_handled e h =
        handled e
        (let k = times_in (simulation case) same_self e (sent (simulation case) e.src (history e.src)) h in
        let source = sent_by_source (simulation case) (lawful case is) (log (simulation case) t) e in
        omega arith)

    has_opened : (r : ℕ) → HasOpened case is r (history r)
    has_opened r = record {
      falls = (is_history r).falls;
      home = (is_history r).home;
      opened = λ e h d. in_history r e (opening_handled e h) d;
      links = λ e x h link. elim (asked e (from_history r e h).1) [
        | inl o ↦ o
        | inr s ↦ (
            let u = (sent_update case is e.src (history e.src) (is_history e.src).home e s).1 in
            absurd (false≢true (subst (λ b. about x b ≡ true) u.2 link)))
      ];
    }

    -- an update that w sent to v was handled by it
    to_neighbour : (v w : ℕ) (u : Event) → In u (sent (simulation case) w (history w)) → u.dst ≡ v → In u (history v)
    to_neighbour v w u j dst =
        let src = (sent_update case is w (history w) (is_history w).home u j).0 in
        in_history v u (sent_handled u (subst (λ r. In u (sent (simulation case) r (history r))) (sym src) j)) dst

    is_from : (w : ℕ) (u : Event) (rib : PathNo) (r : Row) (l m : LinkState) → l ≡ m → l.session ≡ r.session → u.src ≡ w → u.body ≡ Update rib m.session → m.since < u.time → IsFrom w r.session l.since u
    is_from w u rib r l m same session src told since = grind arith

    -- what v heard from w, over a link that both know alike, is what w uses
    heard_is : (v w : ℕ) → (back : has_peer case.net w v ≡ true) → (r : Row) (l m : LinkState) → l ≡ m → l.session ≡ r.session
        → IsHeard w (history v) r l → (rib : PathNo) → IsLast case is w v back (history w) rib m → r.heard ≡ rib
    heard_is v w back r l m same session (some x i src body top) rib (last u j dst told since newest) =
        let u_src = (sent_update case is w (history w) (is_history w).home u j).0 in
        let u_there = to_neighbour v w u j dst in
        let x_sent = from_neighbour v w x r.heard r.session i src body in
        let x_home = (from_history v x i).0 in
        elim (top u u_there (is_from w u rib r l m same session u_src told since)) [
          | inl e ↦ path_in x.body r.heard rib r.session m.session body (ap (λ z. z.body) (sym e) ∙ told)
          | inr k ↦ elim (newest x x_sent x_home) [
            | inl e ↦ path_in x.body r.heard rib r.session m.session body (ap (λ z. z.body) e ∙ told)
            | inr n ↦ absurd (never_both (simulation case) (lawful case is) x u n k)
          ]
        ]
    heard_is v w back r l m same session (silent never empty) rib (last u j dst told since newest) =
        let u_src = (sent_update case is w (history w) (is_history w).home u j).0 in
        absurd (never u (to_neighbour v w u j dst) (is_from w u rib r l m same session u_src told since))
    heard_is v w back r l m same session (some x i src body top) rib (mute none no_rib) =
        absurd (none x (from_neighbour v w x r.heard r.session i src body) (from_history v x i).0)
    heard_is v w back r l m same session (silent never empty) rib (mute none no_rib) = empty ∙ sym no_rib

    -- what a router heard over a link that is up is what its neighbour uses
    pub heard_quiet : (v w : ℕ) → has_peer case.net v w ≡ true → (row (at (simulation case) t v) (slot case.net v w)).up ≡ true
        → (row (at (simulation case) t v) (slot case.net v w)).heard ≡ (at (simulation case) t w).rib
    heard_quiet v w there up =
        let back = has_peer_back case.net is.net v w there in
        let here = row_state case v w there (history v) (is_history v).home in
        let row_up : (row_along w (history v)).up ≡ true = sym (ap (λ r. r.up) here) ∙ up in
        let same = ends_agree case is v w (history v) (history w) (has_opened v) (has_opened w) in
        let mine = agree_along w (history v) in
        let others = agree_along v (history w) in
        let other_up : (row_along v (history w)).up ≡ true = sym others.up ∙ (sym (ap (λ l. l.up) same) ∙ (mine.up ∙ row_up)) in
        ap (λ r. r.heard) here
        ∙ heard_is v w back (row_along w (history v)) (link_along w (history v)) (link_along v (history w)) same mine.session
        (heard_along w (history v) (is_history v).falls row_up) (at (simulation case) t w).rib (last_along case is w v back (history w) (is_history w) other_up)

    pub stable : IsStable case.net (at (simulation case) t)
    stable v below =
        let start_in : v ≡ 0 → In start (history v) = λ z. in_history v start (opening_handled start (inl refl)) (sym z) in
        best_along case v (history v) (is_history v) start_in
        ∙ best_stable case.net v (at (simulation case) t v) (λ w. (at (simulation case) t w).rib) (rows_full case v (history v) (is_history v).home) (heard_quiet v)
