-- Bytes that a device takes or gives in several calls are a prefix of what it was to take or to give.
use Rattle.std.proofs.Common.{◌≡◌, ◌+◌, ◌-◌, ◌≤◌, ℕ, List, ◌++◌, length, length-append, take, drop, take-append-drop, Option, sym, ap, ◌∙◌, append_assoc, arith}
use Rattle.std.specs.Io.KnownBytes.{Appends, Consumes}
use Rattle.std.proofs.KnownBytes.{Appends-trans, Consumes-trans}
use Rattle.std.proofs.lemmas.List.{length-drop, take_all}
use Rattle.tw_device.specs.Source.{TakesInput}
use Rattle.tw_model.specs.declared.limits.TheConstants.{MOST_INPUT}

-- what a sink took, and what it takes of the rest, are a prefix of the bytes
pub took_more : (n : ℕ) (bytes front rest : List ℕ) (a b c : Option (List ℕ)) → n ≤ length rest → bytes ≡ front ++ rest → Appends a b front → Appends b c (take n rest)
    → (more : List ℕ) × (bytes ≡ more ++ take (length rest - n) (drop n rest)) × Appends a c more
took_more n bytes front rest a b c most whole old new =
    let left : take (length rest - n) (drop n rest) ≡ drop n rest = take_all (length rest - n) (drop n rest) (omega (arith, length-drop n rest)) in
    let split : rest ≡ take n rest ++ drop n rest = sym (take-append-drop n rest) in
    let joined : bytes ≡ (front ++ take n rest) ++ drop n rest = whole ∙ ap (λ ys. front ++ ys) split ∙ sym (append_assoc front (take n rest) (drop n rest)) in
    (front ++ take n rest, rw left joined, Appends-trans a b c front (take n rest) old new)

-- what a source gave in two parts that are not too long
pub takes_both : (a b c : Option (List ℕ)) (xs ys : List ℕ) → Consumes a b xs → Consumes b c ys → length xs + length ys ≤ MOST_INPUT → TakesInput a c
takes_both a b c xs ys first second few = (xs ++ ys, omega (arith, length-append xs ys), Consumes-trans a b c xs ys first second)
