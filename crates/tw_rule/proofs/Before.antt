-- What a place has handled before a time before which nothing is loose stays.
use Rattle.std.proofs.Common.{◌≡◌, ℕ, suc, zero, ◌<◌, ◌≤◌, List, [], ◌∷◌, refl, ap, sym, ◌∙◌, subst, arith, nat_lt}
use Rattle.std.proofs.lemmas.Bool.{le-ltb, ltb-true}
use Rattle.tw_core.specs.Good.{IsGoodPart}
use Rattle.tw_core.specs.Machine.{times_handled, times_loose}
use Rattle.tw_core.specs.Parts.{SameSurplus}
use Rattle.tw_rule.specs.Place.{IsPlace, NoneLooseBefore, Place, PreservesPlace, whole}
use Rattle.tw_sim.proofs.Counts.{in_filter, none, times-filter-yes}
use Rattle.tw_sim.proofs.Unique.{falling-filter, same_falling, sent_before}
use Rattle.tw_sim.specs.Simulation.{IsLawful, Simulation, below, sent, times}

module _ {S E : Type 0} (m : Simulation S E) (law : IsLawful m) (stop t : ℕ) where
  -- what one place has handled up to n, another has that has the same surplus, where they agree before n
  over : (n : ℕ) (p q : Place E) → IsGoodPart m 0 (whole stop p) → IsGoodPart m 0 (whole stop q) → NoneLooseBefore m t p → NoneLooseBefore m t q → SameSurplus m (whole 0 p) (whole 0 q)
      → ((r : ℕ) → below m n (p.history r) ≡ below m n (q.history r)) → n < t
      → (r : ℕ) (e : E) → 0 < times m e (below m (suc n) (p.history r)) → 0 < times m e (below m (suc n) (q.history r))
  over n p q first second from_p from_q surplus same l r e h =
      let k = in_filter m law (λ x. nat_lt (m.time x) (suc n)) e (p.history r) h in
      let soon = ltb-true (m.time e) (suc n) k.0 in
      let home = first.home r e k.1 in
      let here : 0 < times_handled m (whole 0 p) e = subst (λ i. 0 < times m e (p.history i)) (sym home) k.1 in
      let none_p = none (times_loose m (whole 0 p) e) (λ is. let late = from_p e is in absurd (omega arith)) in
      let none_q = none (times_loose m (whole 0 q) e) (λ is. let late = from_q e is in absurd (omega arith)) in
      let cut_p = sent_before m law (m.src e) n (p.history (m.src e)) (first.falling (m.src e)) e (omega arith) in
      let cut_q = sent_before m law (m.src e) n (q.history (m.src e)) (second.falling (m.src e)) e (omega arith) in
      let equal : times m e (sent m (m.src e) (below m n (p.history (m.src e)))) ≡ times m e (sent m (m.src e) (below m n (q.history (m.src e))))
      = ap (λ xs. times m e (sent m (m.src e) xs)) (same (m.src e)) in
      let balance = surplus e in
      let there : 0 < times_handled m (whole 0 q) e = omega arith in
      let there_home : 0 < times m e (q.history r) = subst (λ i. 0 < times m e (q.history i)) home there in
      let kept = times-filter-yes m law (λ x. nat_lt (m.time x) (suc n)) e (q.history r) k.0 in
      omega arith

  -- nothing is before the first tick
  none_before : (xs : List E) → below m 0 xs ≡ []
  none_before [] = refl
  none_before (x ∷ xs) = rw (le-ltb (m.time x) 0 (omega arith)) (none_before xs)

  pub same_before : (p q : Place E) → IsGoodPart m 0 (whole stop p) → IsGoodPart m 0 (whole stop q) → NoneLooseBefore m t p → NoneLooseBefore m t q → SameSurplus m (whole 0 p) (whole 0 q)
      → (n : ℕ) → n ≤ t → (r : ℕ) → below m n (p.history r) ≡ below m n (q.history r)
  same_before p q first second from_p from_q surplus zero l r = none_before (p.history r) ∙ sym (none_before (q.history r))
  same_before p q first second from_p from_q surplus (suc n) l r =
      let before = λ (i : ℕ). same_before p q first second from_p from_q surplus n (omega arith) i in
      let back : SameSurplus m (whole 0 q) (whole 0 p) = λ e. sym (surplus e) in
      same_falling m law (below m (suc n) (p.history r)) (below m (suc n) (q.history r))
      (falling-filter m law (λ x. nat_lt (m.time x) (suc n)) (p.history r) (first.falling r))
      (falling-filter m law (λ x. nat_lt (m.time x) (suc n)) (q.history r) (second.falling r))
      (over n p q first second from_p from_q surplus before (omega arith) r)
      (over n q p second first from_q from_p back (λ i. sym (before i)) (omega arith) r)

  -- so what calls keep of a place leaves it
  pub kept_before : (p q : Place E) → IsPlace m stop p → NoneLooseBefore m t p → PreservesPlace m stop p q → (r : ℕ) → below m t (q.history r) ≡ below m t (p.history r)
  kept_before p q place from keeps r = sym (same_before p q place.good keeps.place.good from (keeps.late t from) keeps.surplus t (omega arith) r)
