-- Words with a space between each two: the first, and then each with a space before it.
use Rattle.std.proofs.Common.{◌≡◌, ℕ, zero, suc, ◌-◌, ◌≤◌, List, [], ◌∷◌, ◌++◌, length, map, get_or, take, drop, refl, sym, ap, ◌∙◌, append-nil, append_assoc, arith}
use Rattle.std.proofs.lemmas.List.{take_all}
use Rattle.std.specs.List.{flat_map}
use Rattle.tw_report.specs.Words.{with_spaces}

spaced_at : {A : Type 0} (text : A → List ℕ) (w : A) (more : List A) → with_spaces (map text (w ∷ more)) ≡ text w ++ flat_map (λ v. 32 ∷ text v) more
spaced_at text w [] = sym (append-nil (text w))
spaced_at text w (v ∷ more) = ap (λ bs. text w ++ (32 ∷ bs)) (spaced_at text v more)

-- as a slice pattern has the first and the others
pub spaced_first : {A : Type 0} (text : A → List ℕ) (words : List A) (d : A) → 1 ≤ length words
    → with_spaces (map text words) ≡ text (get_or words 0 d) ++ flat_map (λ v. 32 ∷ text v) (take (length words - 1) (drop 1 words))
spaced_first text [] d h = absurd (omega arith)
spaced_first text (w ∷ more) d h =
    let less : length (w ∷ more) - 1 ≡ length more = omega arith in
    rw (less, take_all (length more) more (omega arith)) (spaced_at text w more)

-- two texts that were written one after the other
pub spelled_both : (old one two first second whole : List ℕ) → one ≡ old ++ first → two ≡ one ++ second → whole ≡ first ++ second → two ≡ old ++ whole
spelled_both old one two first second whole h k e = k ∙ (ap (λ bs. bs ++ second) h ∙ (append_assoc old first second ∙ ap (λ bs. old ++ bs) (sym e)))

pub spelled_then : (old one two first rest : List ℕ) → one ≡ old ++ first → two ≡ one ++ rest → two ≡ old ++ (first ++ rest)
spelled_then old one two first rest h k = spelled_both old one two first rest (first ++ rest) h k refl

-- the texts of a list are those of its first elements, and then those of the others
pub in_parts : {A : Type 0} (text : A → List ℕ) (n : ℕ) (xs : List A) → flat_map text xs ≡ flat_map text (take n xs) ++ flat_map text (drop n xs)
in_parts text zero xs = refl
in_parts text (suc n) [] = refl
in_parts text (suc n) (x ∷ xs) = ap (λ bs. text x ++ bs) (in_parts text n xs) ∙ sym (append_assoc (text x) (flat_map text (take n xs)) (flat_map text (drop n xs)))

-- as a slice pattern has the first and the others
pub first_of : {A : Type 0} (text : A → List ℕ) (xs : List A) (d : A) → 1 ≤ length xs → flat_map text xs ≡ text (get_or xs 0 d) ++ flat_map text (take (length xs - 1) (drop 1 xs))
first_of text [] d h = absurd (omega arith)
first_of text (x ∷ xs) d h =
    let less : length (x ∷ xs) - 1 ≡ length xs = omega arith in
    rw (less, take_all (length xs) xs (omega arith)) refl
