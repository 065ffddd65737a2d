-- What is pending in the run of a case: for routers and from routers of the case, not before its time, and numbered below what its
-- sender has sent, which never falls.
use Rattle.std.proofs.Common.{◌≡◌, ℕ, suc, zero, ◌+◌, ◌<◌, ◌≤◌, ◌==◌, Bool, true, false, cond, ◌&&◌, List, [], ◌∷◌, filter, refl, ap, sym, subst, inl, inr, arith, nat_lt}
use Rattle.std.proofs.lemmas.Bool.{cases_Bool, and_parts, eqb-true, ltb-false, ltb-true}
use Rattle.tw_event.specs.declared.event.Body.{Body}
use Rattle.tw_event.specs.declared.event.Body.TheVariants.{Start, Fail, Restore, Swap, Forbid, Allow, Update}
use Rattle.tw_event.specs.declared.event.Event.{Event}
use Rattle.tw_event.specs.declared.event.PathNo.{PathNo}
use Rattle.tw_event.proofs.Order.{same_is, same_self}
use Rattle.tw_model.specs.Case.{Case, IsCase, opening_events, simulation}
use Rattle.tw_model.specs.Effect.{body_suits}
use Rattle.tw_model.specs.State.{State, has_peer, hop, opening, slot}
use Rattle.tw_model.proofs.Lawful.{lawful, numbered}
use Rattle.tw_model.proofs.Nets.{hop_in_hops, hop_slot, neighbour}
use Rattle.tw_model.proofs.Openings.{opening_no_update}
use Rattle.tw_model.proofs.Within.{suits_within}
use Rattle.tw_sim.specs.Simulation.{Simulation, IsNumbered, only, state, times}
use Rattle.tw_sim.specs.Seq.{World, at, begin, finished, log, rest, seq, turn, turns, weight}
use Rattle.tw_sim.proofs.Closed.{rest_late, running_seq, sent_number}
use Rattle.tw_sim.proofs.Members.{In, in_times, times_in}
use Rattle.tw_sim.proofs.Rising.{AllSuit, suit-begin, suit-turns}
use Rattle.tw_sim.proofs.Seq.{Ends, ends, finished_finished, over, soon, turn_over, turn_soon}
use Rattle.tw_sim.proofs.Unique.{sent_by_source}
use Rattle.tw_shape.specs.Shape.{is_update}
use Rattle.tw_shape.proofs.Alike.{IsUpdate}

-- an update's path and session
update_of : (b : Body) → is_update b ≡ true → (q : PathNo) × (n : ℕ) × (b ≡ Update q n)
update_of Start h = cc
update_of (Fail w) h = cc
update_of (Restore w) h = cc
update_of (Swap i j) h = cc
update_of (Forbid k) h = cc
update_of (Allow k) h = cc
update_of (Update q n) h = (q, n, refl)

filter-none : {X : Type 0} (p : X → Bool) (xs : List X) → ((x : X) → In x xs → p x ≡ false) → filter p xs ≡ []
filter-none p [] h = refl
filter-none p (x ∷ xs) h = rw (h x (inl refl)) (filter-none p xs (λ y k. h y (inr k)))

module _ {S E : Type 0} (m : Simulation S E) (count : IsNumbered m) where
  -- how many messages router r has sent after these events
  abbrev sent_by : ℕ → List E → ℕ
  sent_by r xs = m.number (state m r (only m r xs))

  rises_more : (r : ℕ) (x : E) (xs : List E) → sent_by r xs ≤ sent_by r (x ∷ xs)
  rises_more r x xs =
      elim (cases_Bool (m.dst x == r)) [
        | inl b ↦ subst (λ z. sent_by r xs ≤ m.number (state m r (cond z (x ∷ only m r xs) (only m r xs)))) (sym b) (count.rising (state m r (only m r xs)) x)
        | inr b ↦ subst (λ z. sent_by r xs ≤ m.number (state m r (cond z (x ∷ only m r xs) (only m r xs)))) (sym b) (omega arith)
      ]

  rises_turn : (t r : ℕ) (w : World E) → Ends m t w → sent_by r w.log ≤ sent_by r (turn m t w.log w.rest).log
  rises_turn t r w (over h) = rw (turn_over m t w h) (omega arith)
  rises_turn t r w (soon {log} {x} {rest} h) = rw (turn_soon m t log x rest h) (rises_more r x log)

  rises_turns : (n t r : ℕ) (w : World E) → sent_by r w.log ≤ sent_by r (turns m n t w).log
  rises_turns zero t r w = omega arith
  rises_turns (suc n) t r w =
      let one = rises_turn t r w (ends m t w) in
      let more = rises_turns n t r (turn m t w.log w.rest) in
      omega arith

  rises_finished : (t r : ℕ) (w : World E) → sent_by r w.log ≤ sent_by r (finished m t w).log
  unfolding finished
  rises_finished t r w = rises_turns (weight m t w.rest) t r w

module _ (case : Case) (is : IsCase case) where
  abbrev m : Simulation State Event
  m = simulation case

  -- every event of the run suits the router that handles it
  suit_seq : (t : ℕ) → AllSuit m (seq m t)
  unfolding finished
  suit_seq t = suit-turns m (lawful case is) (weight m t (begin m).rest) t (begin m) (suit-begin m (lawful case is))

  -- what is no router handles nothing
  pub idle : (t r : ℕ) → case.net.nodes ≤ r → at m t r ≡ opening case.net r
  idle t r out =
      ap (state m r) (filter-none (λ x. x.dst == r) (log m t) (λ e h.
      elim (cases_Bool (e.dst == r)) [
        | inr b ↦ b
        | inl b ↦ (
            let below = suits_within case.net e.dst e is.net ((suit_seq t).handled e (times_in m same_self e (log m t) h)) in
            let here = eqb-true e.dst r b in
            absurd (omega arith))
      ]))

  -- a router's count of messages sent never falls
  pub sent_rises : (t k r : ℕ) → (at m t r).counters.sent ≤ (at m (t + k) r).counters.sent
  sent_rises t k r =
      let whole = finished_finished m (lawful case is) t (t + k) (begin m) (omega arith) in
      subst (λ w. (at m t r).counters.sent ≤ (state m r (only m r w.log)).counters.sent) whole (rises_finished m (numbered case is) (t + k) r (seq m t))

  -- ---- what is pending

  -- what is pending is not before its time
  pub pending_late : (t : ℕ) (e : Event) → In e (rest m t) → t ≤ e.time
  pending_late t e h = rest_late m (lawful case is) (numbered case is) t e (times_in m same_self e (rest m t) h)

  -- a pending update was sent before
  pub pending_number : (t : ℕ) (e : Event) → In e (rest m t) → IsUpdate e → e.seq < (at m t e.src).counters.sent
  pending_number t e h u =
      let there = times_in m same_self e (rest m t) h in
      let balance = (running_seq m (lawful case is) (numbered case is) t).balance e in
      let source = sent_by_source m (lawful case is) (log m t) e in
      let body = update_of e.body u in
      elim (cases_Bool (nat_lt 0 (times m e (opening_events case.scenes)))) [
        | inl b ↦ absurd (opening_no_update case is e (in_times m same_is e (opening_events case.scenes) (ltb-true 0 _ b)) body.0 body.1 body.2)
        | inr b ↦ (
            let none = ltb-false 0 (times m e (opening_events case.scenes)) b in
            sent_number m (lawful case is) (numbered case is) e.src (only m e.src (log m t)) e (omega arith))
      ]

  own_sender : (e : Event) (b : Bool) → ((e.src == e.dst) && b) ≡ true → e.dst < case.net.nodes → e.src < case.net.nodes
  own_sender e b h below =
      let same = eqb-true e.src e.dst (and_parts (e.src == e.dst) b h).0 in
      omega arith

  sender : (e : Event) (b : Body) → body_suits case.net e.dst e b ≡ true → e.dst < case.net.nodes → e.src < case.net.nodes
  sender e Start h below = own_sender e _ h below
  sender e (Fail w) h below = own_sender e _ h below
  sender e (Restore w) h below = own_sender e _ h below
  sender e (Swap i j) h below = own_sender e _ h below
  sender e (Forbid k) h below = own_sender e _ h below
  sender e (Allow k) h below = own_sender e _ h below
  sender e (Update q n) h below =
      let there = (and_parts (has_peer case.net e.dst e.src) _ h).0 in
      let near = ltb-true (slot case.net e.dst e.src) _ there in
      let peer = hop_slot case.net e.dst e.src there in
      let beside = neighbour case.net is.net e.dst (hop case.net e.dst (slot case.net e.dst e.src)) (hop_in_hops case.net e.dst (slot case.net e.dst e.src) near) in
      subst (λ r. r < case.net.nodes) peer beside.there

  -- a pending event comes from a router of the case
  pub pending_sender : (t : ℕ) (e : Event) → In e (rest m t) → e.src < case.net.nodes
  pending_sender t e h =
      let suit = (suit_seq t).pending e (times_in m same_self e (rest m t) h) in
      sender e e.body (and_parts (e.dst == e.dst) _ suit).1 (suits_within case.net e.dst e is.net suit)
