-- Where nothing is handled for a while, the shape is the same one later; and what a shape is gathered from.
use Rattle.std.proofs.Common.{◌≡◌, ℕ, suc, zero, ◌+◌, ◌-◌, ◌<◌, ◌≤◌, List, [], ◌∷◌, map, get_or, slice_index, refl, ap, sym, ◌∙◌, inl, inr, arith}
use Rattle.std.specs.List.{range_with_len}
use Rattle.tw_event.specs.declared.event.Event.{Event}
use Rattle.tw_model.specs.Case.{Case, IsCase, simulation}
use Rattle.tw_model.specs.State.{State}
use Rattle.tw_model.proofs.Lawful.{lawful}
use Rattle.tw_sim.specs.Simulation.{Simulation, only, state}
use Rattle.tw_sim.specs.Seq.{World, at, begin, rest, seq}
use Rattle.tw_sim.proofs.Members.{In, in_from_all, in_mapped}
use Rattle.tw_sim.proofs.Seq.{IsOver, finished_finished, finished_over}
use Rattle.tw_shape.specs.Shape.{IsStill, Shape, bare, later, seen_from, shape, sooner}
use Rattle.tw_shape.proofs.Waiting.{pending_late, pending_sender}

module _ (case : Case) (is : IsCase case) where
  abbrev m : Simulation State Event
  m = simulation case

  abbrev sent_at : ℕ → ℕ → ℕ
  sent_at t r = (at m t r).counters.sent

  -- the first pending event is not before the end of the while
  still_over : (t d : ℕ) (xs : List Event) → ((e : Event) → In e xs → t ≤ e.time) → ((e : Event) → In e xs → d ≤ e.time - t) → IsOver m (t + d) xs
  still_over t d [] late still = tt
  still_over t d (x ∷ xs) late still = let a = late x (inl refl) in let b = still x (inl refl) in omega arith

  still_run : (t d : ℕ) → IsStill d (shape case t) → seq m (t + d) ≡ seq m t
  still_run t d still =
      let each : (e : Event) → In e (rest m t) → d ≤ e.time - t
      = λ e h. in_from_all (λ x. d ≤ x.time) (shape case t).pending still (seen_from t (sent_at t e.src) e) (in_mapped (λ x. seen_from t (sent_at t x.src) x) e (rest m t) h) in
      sym (finished_finished m (lawful case is) t (t + d) (begin m) (omega arith)) ∙ finished_over m (lawful case is) (t + d) (seq m t) (still_over t d (rest m t) (pending_late case is t) each)

  seen_later : (t d : ℕ) (n : ℕ → ℕ) (xs : List Event) → map (λ e. seen_from (t + d) (n e.src) e) xs ≡ map (sooner d) (map (λ e. seen_from t (n e.src) e) xs)
  seen_later t d n [] = refl
  seen_later t d n (x ∷ xs) =
      let time : x.time - (t + d) ≡ x.time - t - d = omega arith in
      rw time (ap (λ l. record (seen_from t (n x.src) x) { time = x.time - t - d } ∷ l) (seen_later t d n xs))

  -- the shape at a time, of what was handled and what is pending
  shape_in : ℕ → World Event → Shape
  shape_in t w = record {
    routers = map (λ r. bare (state m r (only m r w.log))) (range_with_len 0 case.net.nodes);
    pending = map (λ e. seen_from t (state m e.src (only m e.src w.log)).counters.sent e) w.rest;
  }

  -- where nothing pending is handled for so many ticks, the shape is the same one so many ticks later
  pub still_shape : (t d : ℕ) → IsStill d (shape case t) → shape case (t + d) ≡ later d (shape case t)
  unfolding shape_in
  still_shape t d still =
      ap (shape_in (t + d)) (still_run t d still)
      ∙ (λ i. record { routers = map (λ r. bare (at m t r)) (range_with_len 0 case.net.nodes); pending = seen_later t d (sent_at t) (rest m t) i })

  -- ---- gathering

  get_map : {X : Type 0} (f : X → ℕ) (g : ℕ → X) (a n k : ℕ) → k < n → get_or (map f (map g (range_with_len a n))) k 0 ≡ f (g (a + k))
  get_map f g a zero k l = absurd (omega arith)
  get_map f g a (suc n) zero l = ap (λ x. f (g x)) (let e : a ≡ a + 0 = omega arith in e)
  get_map f g a (suc n) (suc k) l = get_map f g (a + 1) n k (omega arith) ∙ ap (λ x. f (g x)) (let e : a + 1 + k ≡ a + suc k = omega arith in e)

  seen_same : (t : ℕ) (n k : ℕ → ℕ) (xs : List Event) → ((e : Event) → In e xs → n e.src ≡ k e.src) → map (λ e. seen_from t (n e.src) e) xs ≡ map (λ e. seen_from t (k e.src) e) xs
  seen_same t n k [] h = refl
  seen_same t n k (x ∷ xs) h = let head = ap (λ c. seen_from t c x) (h x (inl refl)) in let tail = seen_same t n k xs (λ e i. h e (inr i)) in cc

  -- the shape is what is gathered from the routers' states and the pending events
  pub gathered : (t : ℕ) → shape case t ≡ record {
    routers = map bare (map (at m t) (range_with_len 0 case.net.nodes));
    pending = map (λ e. seen_from t (slice_index (map (λ s. s.counters.sent) (map (at m t) (range_with_len 0 case.net.nodes))) e.src) e) (rest m t);
  }
  gathered t =
      let sent : ℕ → ℕ = λ r. slice_index (map (λ s. s.counters.sent) (map (at m t) (range_with_len 0 case.net.nodes))) r in
      let routers = map_map bare (at m t) (range_with_len 0 case.net.nodes) in
      let pending = seen_same t (sent_at t) sent (rest m t)
      (λ e h. sym (get_map (λ s. s.counters.sent) (at m t) 0 case.net.nodes e.src (pending_sender case is t e h) ∙ ap (sent_at t) (let k : 0 + e.src ≡ e.src = omega arith in k))) in
      λ i. record { routers = routers i; pending = pending i } where
        map_map : {X Y Z : Type 0} (f : Y → Z) (g : X → Y) (xs : List X) → map (λ x. f (g x)) xs ≡ map f (map g xs)
        map_map f g [] = refl
        map_map f g (x ∷ xs) = ap (λ l. f (g x) ∷ l) (map_map f g xs)
