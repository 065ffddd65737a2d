-- Two steps without a fault, and the first element that passes a test.
use Rattle.std.proofs.Common.{◌≡◌, subst, refl, true, false, Bool, cond, Some}
use Rattle.std.proofs.Common.{List, [], ◌∷◌}
use Rattle.std.specs.List.{AllByRecursion, find}
use Rattle.clap.specs.Kinds.{Kinds, or_else}

-- two steps without a fault
pub none_of_both : (a b : Kinds) → or_else a b ≡ [] → (a ≡ []) × (b ≡ [])
none_of_both [] b h = (refl, h)
none_of_both (k ∷ ks) b h = cc

-- the first element that passes
pub found_has : {X : Type 0} (P : X → Type 0) (p : X → Bool) (xs : List X) (x : X) → AllByRecursion P xs → find p xs ≡ Some x
    → P x × (p x ≡ true)
found_has P p [] x all is = cc
found_has P p (y ∷ ys) x all is = go (p y) refl is (found_has P p ys x all.1)
  where
    go : (b : Bool) → p y ≡ b → cond b (Some y) (find p ys) ≡ Some x → (find p ys ≡ Some x → P x × (p x ≡ true)) → P x × (p x ≡ true)
    go true e h rest =
        let same : y ≡ x = cc in
        subst (λ z. P z × (p z ≡ true)) same (all.0, e)
    go false e h rest = rest h
