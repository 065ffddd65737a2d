-- Closed histories are unique, and so are closed lists: by the events before each time in turn.
use Rattle.std.proofs.Common.{◌≡◌, ℕ, suc, zero, ◌<◌, ◌≤◌, ◌==◌, Bool, true, List, [], ◌∷◌, filter, refl, ap, sym, ◌∙◌, subst, inl, inr, arith, nat_lt}
use Rattle.std.proofs.lemmas.Bool.{cases_Bool, cases_lt, both_ways, eqb-true, eqb-false, eq-eqb, ltb-true, lt-ltb, le-ltb}
use Rattle.tw_sim.specs.Simulation.{Simulation, IsLawful, AreClosed, IsClosed, IsFalling, all_sent, below, one, only, sent, state, times}
use Rattle.tw_sim.proofs.Counts.{in_cons, in_filter, in_head, none, one_self, times-append, times-filter-yes}

module _ {S E : Type 0} (m : Simulation S E) (law : IsLawful m) where
  -- of two events one is handled before the other at most
  pub never_both : (x y : E) → m.before x y ≡ true → m.before y x ≡ true → ⊥
  never_both x y h k = both_ways (m.before x x) (law.not_self x) (law.trans x y x h k)

  -- what stands behind the newest of a falling list is another event
  pub not_again : (x : E) (xs : List E) → IsFalling m (x ∷ xs) → 0 < times m x xs → ⊥
  not_again x xs f h = both_ways (m.before x x) (law.not_self x) (f.0 x h)

  -- two falling lists with the same events are the same
  pub same_falling : (xs ys : List E) → IsFalling m xs → IsFalling m ys
      → ((e : E) → 0 < times m e xs → 0 < times m e ys) → ((e : E) → 0 < times m e ys → 0 < times m e xs) → xs ≡ ys
  same_falling [] [] f g to back = refl
  same_falling [] (y ∷ ys) f g to back = absurd (let h = back y (in_head m law y ys) in omega arith)
  same_falling (x ∷ xs) [] f g to back = absurd (let h = to x (in_head m law x xs) in omega arith)
  same_falling (x ∷ xs) (y ∷ ys) f g to back =
      let same : x ≡ y = elim (in_cons m law x y ys (to x (in_head m law x xs))) [
        | inl e ↦ e
        | inr h ↦ elim (in_cons m law y x xs (back y (in_head m law y ys))) [
          | inl e ↦ sym e
          | inr k ↦ absurd (never_both x y (g.0 x h) (f.0 y k))
        ]
      ] in
      let tails : xs ≡ ys = same_falling xs ys f.1 g.1
      (λ e h. elim (in_cons m law e y ys (to e (let k = one_self m law e in omega arith))) [
        | inl is ↦ absurd (not_again x xs f (subst (λ z. 0 < times m z xs) (is ∙ sym same) h))
        | inr k ↦ k
      ])
      (λ e h. elim (in_cons m law e x xs (back e (let k = one_self m law e in omega arith))) [
        | inl is ↦ absurd (not_again y ys g (subst (λ z. 0 < times m z ys) (is ∙ same) h))
        | inr k ↦ k
      ]) in
      cc

  -- what passes a test in a falling list is falling
  pub falling-filter : (p : E → Bool) (xs : List E) → IsFalling m xs → IsFalling m (filter p xs)
  falling-filter p [] f = tt
  falling-filter p (x ∷ xs) f =
      elim (cases_Bool (p x)) [
        | inl b ↦ rw b ((λ e h. f.0 e (in_filter m law p e xs h).1), falling-filter p xs f.1)
        | inr b ↦ rw b (falling-filter p xs f.1)
      ]

  -- where all are before n
  pub all_below : (n : ℕ) (xs : List E) → ((e : E) → 0 < times m e xs → m.time e < n) → below m n xs ≡ xs
  all_below n [] h = refl
  all_below n (x ∷ xs) h =
      let k = lt-ltb (m.time x) n (h x (in_head m law x xs)) in
      rw k (ap (λ l. x ∷ l) (all_below n xs (λ e i. h e (omega arith))))

  -- an event up to time n was sent by events before n
  pub sent_before : (r n : ℕ) (xs : List E) → IsFalling m xs → (e : E) → m.time e ≤ n → times m e (sent m r xs) ≡ times m e (sent m r (below m n xs))
  sent_before r n [] f e h = refl
  sent_before r n (x ∷ xs) f e h =
      let more = sent_before r n xs f.1 e h in
      elim (cases_lt (m.time x) n) [
        | inl l ↦ (
            let whole = all_below n (x ∷ xs) (λ y k. elim (in_cons m law y x xs k) [
              | inl is ↦ subst (λ z. m.time z < n) (sym is) l
              | inr i ↦ (let no_later = law.timely y x (f.0 y i) in omega arith)
            ]) in
            ap (λ l. times m e (sent m r l)) (sym whole))
        | inr l ↦ (
            let out = le-ltb (m.time x) n l in
            let both = times-append m e (m.sends (state m r xs) x) (sent m r xs) in
            let never = none (times m e (m.sends (state m r xs) x)) (λ k. let later = law.later (state m r xs) x e k in absurd (omega arith)) in
            rw out (omega arith))
      ]

  below_none : (xs : List E) → below m 0 xs ≡ []
  below_none [] = refl
  below_none (x ∷ xs) = rw (le-ltb (m.time x) 0 (omega arith)) (below_none xs)

  module _ (t : ℕ) where
    over : (n : ℕ) (one two : ℕ → List E) → AreClosed m t one → AreClosed m t two → ((r : ℕ) → below m n (one r) ≡ below m n (two r)) → n < t
        → (r : ℕ) (e : E) → 0 < times m e (below m (suc n) (one r)) → 0 < times m e (below m (suc n) (two r))
    over n one two first second same l r e h =
        let k = in_filter m law (λ x. nat_lt (m.time x) (suc n)) e (one r) h in
        let soon = ltb-true (m.time e) (suc n) k.0 in
        let home = first.home r e k.1 in
        let here : 0 < times m e (one (m.dst e)) = subst (λ q. 0 < times m e (one q)) (sym home) k.1 in
        let asked_one = first.sent_in e here in
        let cut_one = sent_before (m.src e) n (one (m.src e)) (first.falling (m.src e)) e (omega arith) in
        let cut_two = sent_before (m.src e) n (two (m.src e)) (second.falling (m.src e)) e (omega arith) in
        let equal : times m e (sent m (m.src e) (below m n (one (m.src e)))) ≡ times m e (sent m (m.src e) (below m n (two (m.src e))))
        = ap (λ l. times m e (sent m (m.src e) l)) (same (m.src e)) in
        let there = second.all_in e (omega arith) (omega arith) in
        let there_home : 0 < times m e (two r) = subst (λ q. 0 < times m e (two q)) home there in
        let kept = times-filter-yes m law (λ x. nat_lt (m.time x) (suc n)) e (two r) k.0 in
        omega arith

    same_below : (one two : ℕ → List E) → AreClosed m t one → AreClosed m t two → (n : ℕ) → n ≤ t → (r : ℕ) → below m n (one r) ≡ below m n (two r)
    same_below one two first second zero l r = below_none (one r) ∙ sym (below_none (two r))
    same_below one two first second (suc n) l r =
        let before = λ (q : ℕ). same_below one two first second n (omega arith) q in
        same_falling (below m (suc n) (one r)) (below m (suc n) (two r))
        (falling-filter (λ x. nat_lt (m.time x) (suc n)) (one r) (first.falling r)) (falling-filter (λ x. nat_lt (m.time x) (suc n)) (two r) (second.falling r))
        (over n one two first second before (omega arith) r)
        (over n two one second first (λ q. sym (before q)) (omega arith) r)

  -- two families of histories that are closed below t are the same
  pub same_histories : (t : ℕ) (one two : ℕ → List E) → AreClosed m t one → AreClosed m t two → (r : ℕ) → one r ≡ two r
  same_histories t one two first second r =
      sym (all_below t (one r) (first.soon r)) ∙ (same_below t one two first second t (omega arith) r ∙ all_below t (two r) (second.soon r))

  -- ---- lists

  -- in a list, an event was sent by its source alone
  pub sent_by_source : (xs : List E) (e : E) → times m e (all_sent m xs) ≡ times m e (sent m (m.src e) (only m (m.src e) xs))
  sent_by_source [] e = refl
  sent_by_source (f ∷ older) e =
      let more = sent_by_source older e in
      let all = times-append m e (m.sends (state m (m.dst f) (only m (m.dst f) older)) f) (all_sent m older) in
      elim (cases_Bool (m.dst f == m.src e)) [
        | inl b ↦ rw b (
            let here = times-append m e (m.sends (state m (m.src e) (only m (m.src e) older)) f) (sent m (m.src e) (only m (m.src e) older)) in
            let same : times m e (m.sends (state m (m.dst f) (only m (m.dst f) older)) f) ≡ times m e (m.sends (state m (m.src e) (only m (m.src e) older)) f)
            = ap (λ r. times m e (m.sends (state m r (only m r older)) f)) (eqb-true (m.dst f) (m.src e) b) in
            omega arith)
        | inr b ↦ rw b (
            let never = none (times m e (m.sends (state m (m.dst f) (only m (m.dst f) older)) f))
            (λ k. eqb-false (m.dst f) (m.src e) b (sym (law.sender (state m (m.dst f) (only m (m.dst f) older)) f e k))) in
            omega arith)
      ]

  -- an event stands as often among those for its router
  pub in_only : (e : E) (xs : List E) → times m e (only m (m.dst e) xs) ≡ times m e xs
  in_only e xs = times-filter-yes m law (λ x. m.dst x == m.dst e) e xs (eq-eqb (m.dst e) (m.dst e) refl)

  -- the histories of a closed list are closed
  pub list_closed : (t : ℕ) (events : List E) → IsClosed m t events → AreClosed m t (λ r. only m r events)
  list_closed t events closed = record {
    falling = λ r. falling-filter (λ x. m.dst x == r) events closed.falling;
    home = λ r e h. eqb-true (m.dst e) r (in_filter m law (λ x. m.dst x == r) e events h).0;
    soon = λ r e h. ((closed.exact e).0 (in_filter m law (λ x. m.dst x == r) e events h).1).0;
    sent_in = λ e h. (
        let k = in_only e events in
        let s = sent_by_source events e in
        let a = ((closed.exact e).0 (omega arith)).1 in
        omega arith);
    all_in = λ e soon h. (
        let k = in_only e events in
        let s = sent_by_source events e in
        let a = (closed.exact e).1 (soon, omega arith) in
        omega arith);
  }

  -- two lists that are closed below t are the same
  pub same_lists : (t : ℕ) (xs ys : List E) → IsClosed m t xs → IsClosed m t ys → xs ≡ ys
  same_lists t xs ys first second =
      let histories = same_histories t (λ r. only m r xs) (λ r. only m r ys) (list_closed t xs first) (list_closed t ys second) in
      same_falling xs ys first.falling second.falling
      (λ e h. (
      let a = in_only e xs in
      let b = in_only e ys in
      let same : times m e (only m (m.dst e) xs) ≡ times m e (only m (m.dst e) ys) = ap (λ l. times m e l) (histories (m.dst e)) in
      omega arith))
      (λ e h. (
      let a = in_only e xs in
      let b = in_only e ys in
      let same : times m e (only m (m.dst e) xs) ≡ times m e (only m (m.dst e) ys) = ap (λ l. times m e l) (histories (m.dst e)) in
      omega arith))
