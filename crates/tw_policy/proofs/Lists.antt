-- Tests of lists that agree on what stands there.
use Rattle.std.proofs.Common.{arith, ◌≡◌, Bool, true, false, List, [], ◌∷◌, ◌++◌, ℕ, Some, None, ◌||◌, refl, ap, sym, ◌∙◌, subst, inl, inr}
use Rattle.std.specs.List.{find, list_all, list_any}
use Rattle.std.specs.Option.{unwrap_or}
use Rattle.std.proofs.lemmas.Bool.{cases_Bool, and_from, and_parts}
use Rattle.tw_event.specs.declared.event.PathNo.{PathNo}
use Rattle.tw_sim.proofs.Members.{In}

-- two tests that agree on what stands in the list
pub any_agree : {X : Type 0} (f g : X → Bool) (xs : List X) → ((x : X) → In x xs → f x ≡ g x) → list_any f xs ≡ list_any g xs
any_agree f g [] h = refl
any_agree f g (x ∷ xs) h =
    ap (λ b. b || list_any f xs) (h x (inl refl)) ∙ ap (λ b. g x || b) (any_agree f g xs (λ y k. h y (inr k)))

pub all_in : {X : Type 0} (test : X → Bool) (x : X) (xs : List X) → list_all test xs ≡ true → In x xs → test x ≡ true
all_in test x (y ∷ ys) h (inl e) = subst (λ z. test z ≡ true) (sym e) (and_parts (test y) (list_all test ys) h).0
all_in test x (y ∷ ys) h (inr k) = all_in test x ys (and_parts (test y) (list_all test ys) h).1 k
all_in test x [] h k = absurd k

-- what a find gives, or else what stands behind the list
pub found_in : {X : Type 0} (test : X → Bool) (none : X) (xs : List X) → In (unwrap_or (find test xs) none) (xs ++ none ∷ [])
found_in test none [] = inl refl
found_in test none (x ∷ xs) = grind (arith, cases_Bool, found_in test none xs)

pub all_from : {X : Type 0} (test : X → Bool) (xs : List X) → ((x : X) → In x xs → test x ≡ true) → list_all test xs ≡ true
all_from test [] h = refl
all_from test (x ∷ xs) h = and_from (test x) (list_all test xs) (h x (inl refl)) (all_from test xs (λ y k. h y (inr k)))

-- where a find finds nothing, nothing passes
pub none_found : {X : Type 0} (test : X → Bool) (x : X) (xs : List X) → find test xs ≡ None → In x xs → test x ≡ false
none_found test x (y ∷ ys) none i =
    elim (cases_Bool (test y)) [
      | inl b ↦ (let some : Some y ≡ None = rw b at none in absurd (cc))
      | inr b ↦ elim i [
        | inl e ↦ subst (λ z. test z ≡ false) (sym e) b
        | inr k ↦ none_found test x ys (rw b at none) k
      ]
    ]
none_found test x [] none i = absurd i

-- paths of one number are the same
pub same_number : (p q : PathNo) → p.0 ≡ q.0 → p ≡ q
same_number p q e = ap (λ (k : ℕ). let r : PathNo = record { 0 = k } in r) e
