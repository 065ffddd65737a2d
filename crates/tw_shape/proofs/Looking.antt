-- The checkpoint of a gap that shows a given shape, by when the next event is handled.
use Rattle.std.proofs.Common.{◌≡◌, ℕ, suc, zero, ◌+◌, ◌-◌, ◌*◌, ◌/◌, ◌%◌, ◌<◌, ◌≤◌, ◌==◌, Bool, true, false, cond, ◌&&◌, not, [], length, map, Option, Some, None, refl, ap, sym, ◌∙◌, subst, inl, inr, arith, nat_le}
use Rattle.std.specs.List.{find, list_all, range_with_len}
use Rattle.std.specs.Option.{option_map}
use Rattle.std.proofs.Math.Nat.{le_of_mul-le-mul_right, mul-div_cancel, mul-le-mul_right, mul-mod_left}
use Rattle.std.proofs.lemmas.Bool.{and_parts, cases_Bool, cases_eq, false_from_ne_true, both_ways}
use Rattle.std.proofs.lemmas.List.{length-map}
use Rattle.std.proofs.lemmas.List.Folds.{list_all-map}
use Rattle.tw_sim.proofs.Members.{all_from_in, in_from_all, in_map, in_mapped}
use Rattle.tw_shape.specs.declared.watch.Gap.{Gap}
use Rattle.tw_shape.specs.Shape.{IsStill, Shape, can_repeat, is_update, later, sooner}
use Rattle.tw_shape.specs.Same.{same_shape}
use Rattle.tw_shape.specs.Verdict.{Checkpoint, is_again}
use Rattle.tw_shape.specs.Watch.{IsGap, after_first, gap_checkpoints}
use Rattle.tw_shape.proofs.Sameness.{shape_decides}

-- ---- the first that passes, of a range

module _ {X : Type 0} (p : X → Bool) (f : ℕ → X) where
  pub find_none : (a n : ℕ) → ((m : ℕ) → a ≤ m → m < a + n → p (f m) ≡ false) → find p (map f (range_with_len a n)) ≡ None
  find_none a zero h = refl
  find_none a (suc n) h = rw (h a (omega arith) (omega arith)) (find_none (a + 1) n (λ m l u. h m (omega arith) (omega arith)))

  pub find_only : (a n k : ℕ) → a ≤ k → k < a + n → ((m : ℕ) → a ≤ m → m < a + n → p (f m) ≡ true → m ≡ k) → find p (map f (range_with_len a n)) ≡ cond (p (f k)) (Some (f k)) None
  find_only a zero k l u only = absurd (omega arith)
  find_only a (suc n) k l u only =
      elim (cases_eq a k) [
        | inl is ↦ subst (λ z. find p (map f (range_with_len a (suc n))) ≡ cond (p (f z)) (Some (f z)) None) is (elim (cases_Bool (p (f a))) [
          | inl b ↦ rw b refl
          | inr b ↦ rw b (find_none (a + 1) n (λ m low up. false_from_ne_true (p (f m)) (λ t. let same = only m (omega arith) (omega arith) t in absurd (omega arith))))
        ])
        | inr not_k ↦
            let fails : p (f a) ≡ false = false_from_ne_true (p (f a)) (λ t. not_k (only a (omega arith) (omega arith) t)) in
            rw fails (find_only (a + 1) n k (omega arith) (omega arith) (λ m low up t. only m (omega arith) (omega arith) t))
      ]

-- ---- when the next event is handled

pub same_factor : (n a b : ℕ) → 0 < n → a * n ≡ b * n → a ≡ b
same_factor n a b some h =
    let one : a * n ≤ b * n = omega arith in
    let two : b * n ≤ a * n = omega arith in
    let up = le_of_mul-le-mul_right one some in
    let down = le_of_mul-le-mul_right two some in
    omega arith

-- what is pending is handled in so many ticks, and not earlier
pub record IsDue (s : Shape) (d : ℕ) : Type 0 where
  pub still : IsStill d s
  pub longest : (k : ℕ) → IsStill k s → k ≤ d

still_later : (t k : ℕ) (s : Shape) → IsStill (t + k) s → IsStill k (later t s)
still_later t k s still =
    all_from_in (λ e. k ≤ e.time) (map (sooner t) s.pending) (λ e h.
    let r = in_map (sooner t) e s.pending h in
    let time : e.time ≡ r.0.time - t = ap (λ x. x.time) r.1 in
    let far : t + k ≤ r.0.time = in_from_all (λ x. t + k ≤ x.time) s.pending still r.0 r.2 in
    omega arith)

still_back : (t k : ℕ) (s : Shape) → IsStill t s → IsStill k (later t s) → IsStill (t + k) s
still_back t k s now still =
    all_from_in (λ e. t + k ≤ e.time) s.pending (λ e h.
    let close : k ≤ e.time - t = in_from_all (λ x. k ≤ x.time) (map (sooner t) s.pending) still (sooner t e) (in_mapped (sooner t) e s.pending h) in
    let far : t ≤ e.time = in_from_all (λ x. t ≤ x.time) s.pending now e h in
    omega arith)

-- shapes that are the same then have as long to go
same_due : (s w : Shape) (t u d e : ℕ) → IsDue s d → IsDue w e → t ≤ d → u ≤ e → later t s ≡ later u w → t + (e - u) ≡ d
same_due s w t u d e a b tl ul h =
    let left : IsStill (e - u) (later u w) = still_later u (e - u) w (subst (λ k. IsStill k w) (omega arith) b.still) in
    let one : t + (e - u) ≤ d = a.longest (t + (e - u)) (still_back t (e - u) s (less t d s tl a.still) (subst (IsStill (e - u)) (sym h) left)) in
    let right : IsStill (d - t) (later t s) = still_later t (d - t) s (subst (λ k. IsStill k s) (omega arith) a.still) in
    let two : u + (d - t) ≤ e = b.longest (u + (d - t)) (still_back u (d - t) w (less u e w ul b.still) (subst (IsStill (d - t)) h right)) in
    omega arith where
      less : (x y : ℕ) (z : Shape) → x ≤ y → IsStill y z → IsStill x z
      less x y z le still = λ k v l. let h = still k v l in omega arith

-- whether a shape can repeat does not change while nothing is handled
pub can_repeat-later : (t : ℕ) (s : Shape) → can_repeat (later t s) ≡ can_repeat s
can_repeat-later t s =
    ap (λ n. not (n == 0) && list_all (λ e. is_update e.body) (map (sooner t) s.pending)) (length-map s.pending (sooner t))
    ∙ ap (λ b. not (length s.pending == 0) && b) (list_all-map (λ e. is_update e.body) (sooner t) s.pending)

pub no_repeat : (s : Shape) → s.pending ≡ [] → can_repeat s ≡ false
no_repeat s none = ap (λ l. not (length l == 0) && list_all (λ e. is_update e.body) l) none

module _ (every : ℕ) (some : 0 < every) (old new : Gap) (d : ℕ) (a : IsGap every old) (b : IsGap every new) (within : d ≤ (new.count - 1) * every) where
  abbrev again : ℕ → Bool
  again m = is_again every (after_first new d) (after_first old (m * every))

  abbrev found : Option Checkpoint
  found = find (is_again every (after_first new d)) (gap_checkpoints every old)

  again_same : (m : ℕ) → again m ≡ true → later (m * every) old.shape ≡ later d new.shape
  again_same m h =
      (shape_decides (later (m * every) old.shape) (later d new.shape)).0
      (and_parts (nat_le (new.time + d) (old.time + m * every + 64 * every)) (same_shape (later (m * every) old.shape) (later d new.shape)) h).1

  -- a shape with nothing pending is not one that can repeat
  pub found_empty : old.shape.pending ≡ [] → can_repeat new.shape ≡ true → found ≡ None
  found_empty none can =
      find_none (is_again every (after_first new d)) (λ k. after_first old (k * every)) 0 old.count (λ m l u.
      false_from_ne_true (again m) (λ h.
      let old_can = can_repeat-later (m * every) old.shape ∙ no_repeat old.shape none in
      let new_can = can_repeat-later d new.shape ∙ can in
      let same = ap can_repeat (again_same m h) in
      both_ways (can_repeat (later d new.shape)) (sym same ∙ old_can) new_can))

  module _ (od nd : ℕ) (od_is : IsDue old.shape od) (nd_is : IsDue new.shape nd) where
    abbrev left : ℕ
    left = nd - d

    new_left : d ≤ nd
    new_left = let k = nd_is.longest ((new.count - 1) * every) b.still in omega arith

    old_left : (m : ℕ) → m < old.count → m * every ≤ od
    old_left m l =
        let k = od_is.longest ((old.count - 1) * every) a.still in
        let le : m ≤ old.count - 1 = omega arith in
        let far = mul-le-mul_right every le in
        omega arith

    again_at : (m : ℕ) → m < old.count → again m ≡ true → m * every + left ≡ od
    again_at m l h = same_due old.shape new.shape (m * every) d od nd od_is nd_is (old_left m l) new_left (again_same m h)

    -- no checkpoint of the gap has as long to go
    pub found_none : ((m : ℕ) → m < old.count → m * every + left ≡ od → ⊥) → found ≡ None
    found_none none =
        find_none (is_again every (after_first new d)) (λ k. after_first old (k * every)) 0 old.count
        (λ m l u. false_from_ne_true (again m) (λ h. none m (omega arith) (again_at m (omega arith) h)))

    -- the one that has as long to go
    pub found_one : (k : ℕ) → k < old.count → k * every + left ≡ od → found ≡ cond (again k) (Some (after_first old (k * every))) None
    found_one k within_count is =
        find_only (is_again every (after_first new d)) (λ m. after_first old (m * every)) 0 old.count k (omega arith) (omega arith)
        (λ m l u h. let same = again_at m (omega arith) h in let times : m * every ≡ k * every = omega arith in same_factor every m k some times)

    abbrev time_found : Option ℕ
    time_found = option_map (λ c. c.time) found

    whole : (since : ℕ) → since % every ≡ 0 → since / every * every ≡ since
    whole since h = omega arith

    pub no_time : left ≤ od → ((m : ℕ) → m < old.count → m * every ≡ od - left → ⊥) → None ≡ time_found
    no_time le none = ap (option_map (λ c. c.time)) (sym (found_none (λ m l h. none m l (omega arith))))

    -- where the time that has to pass is no number of checkpoints, or the gap has too few
    pub no_time_between : left ≤ od → (since : ℕ) → since ≡ od - left → (since % every ≡ 0 → ⊥) → None ≡ time_found
    no_time_between le since is part = no_time le (λ m l h. part (ap (λ k. k % every) (is ∙ sym h) ∙ mul-mod_left m every))

    pub no_time_past : left ≤ od → (since : ℕ) → since ≡ od - left → old.count ≤ since / every → None ≡ time_found
    no_time_past le since is past =
        no_time le (λ m l h.
        let same : since / every ≡ m = ap (λ k. k / every) (is ∙ sym h) ∙ mul-div_cancel m some in
        omega arith)

    -- else it is the one checkpoint that has as long to go, where it shows the shape and is near
    pub one_time : left ≤ od → (since : ℕ) → since ≡ od - left → since % every ≡ 0 → since / every < old.count
        → (near same : Bool) → near ≡ nat_le (new.time + d) (old.time + since + 64 * every) → same ≡ same_shape (later since old.shape) (later d new.shape)
        → cond (near && same) (Some (old.time + since)) None ≡ time_found
    one_time le since is part short near same n s =
        let k = since / every in
        let times : k * every ≡ since = whole since part in
        let one = found_one k short (omega arith) in
        let test : again k ≡ (near && same) = ap (λ t. nat_le (new.time + d) (old.time + t + 64 * every) && same_shape (later t old.shape) (later d new.shape)) times
        ∙ (λ i. sym n i && sym s i) in
        let all : found ≡ cond (near && same) (Some (after_first old since)) None = one ∙ ap (λ b. cond b (Some (after_first old (k * every))) None) test
        ∙ ap (λ t. cond (near && same) (Some (after_first old t)) None) times in
        sym (ap (option_map (λ c. c.time)) all ∙ out (near && same)) where
          out : (b : Bool) → option_map (λ c. c.time) (cond b (Some (after_first old since)) None) ≡ cond b (Some (old.time + since)) None
          out true = refl
          out false = refl
