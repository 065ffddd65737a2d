-- The number of a path, found among the permitted paths of its first node.
use Rattle.std.proofs.Common.{◌≡◌, ℕ, suc, zero, ◌+◌, ◌-◌, ◌<◌, ◌≤◌, Bool, true, false, cond, List, [], ◌∷◌, length, map, slice_index_or, take, drop, arith}
use Rattle.std.proofs.Common.{Option, Some, None, IfSome, IsTrue, refl, ap, sym, ◌∙◌, subst, ⊎_elim, inl, inr}
use Rattle.std.specs.List.{filter, find, range_with_len}
use Rattle.std.proofs.lemmas.Bool.{cases_eq, cases_lt, false_from_ne_true, eq-eqb}
use Rattle.std.proofs.lemmas.List.{get_or_past, take_rest}
use Rattle.tw_event.specs.declared.event.PathNo.{PathNo}
use Rattle.tw_model.specs.Net.{Net, IsPath, begins_at, is_own, path, paths, paths_of, same_path}
use Rattle.tw_model.proofs.Paths.{same_path_is, same_path_self}
use Rattle.tw_sim.proofs.Members.{in_find}
use Rattle.tw_instance.proofs.Paths.{path-empty}
use Rattle.tw_instance.specs.Hops.{AreDistinct}

abbrev no : ℕ → PathNo
no k = record { 0 = k }

-- an item that fails the test may be left out or not
skips : (keep : Bool) (test : PathNo → Bool) (a : ℕ) (xs : List ℕ) → test (no a) ≡ false → find test (map no (cond keep (a ∷ xs) xs)) ≡ find test (map no xs)
skips true test a xs e = rw e refl
skips false test a xs e = refl

-- the only number that passes is found
finds : (keep : ℕ → Bool) (test : PathNo → Bool) (n a k : ℕ) → a ≤ k → k < a + n → keep k ≡ true → test (no k) ≡ true
    → ((j : ℕ) → j < a + n → test (no j) ≡ true → j ≡ k) → find test (map no (filter keep (range_with_len a n))) ≡ Some (no k)
finds keep test zero a k low high kept passes only = absurd (omega arith)
finds keep test (suc n) a k low high kept passes only =
    ⊎_elim
    (λ e. let here : keep a ≡ true = subst (λ j. keep j ≡ true) (sym e) kept in
    let takes : test (no a) ≡ true = subst (λ j. test (no j) ≡ true) (sym e) passes in
    rw (here, takes) (ap (λ j. Some (no j)) e))
    (λ ne. let fails : test (no a) ≡ false = false_from_ne_true (test (no a)) (λ t. ne (only a (omega arith) t)) in
    skips (keep a) test a (filter keep (range_with_len (a + 1) n)) fails
    ∙ finds keep test n (a + 1) k (let l : a ≡ k → ⊥ = ne in omega arith) (omega arith) kept passes (λ j h t. only j (omega arith) t))
    (cases_eq a k)

pub is-same : (xs ys : List ℕ) → xs ≡ ys → same_path xs ys ≡ true
is-same xs ys h = subst (λ zs. same_path xs zs ≡ true) h (same_path_self xs)

-- a number with nodes stands for a path
pub is_path : (net : Net) (q : PathNo) (v : ℕ) (p : List ℕ) → path net q ≡ v ∷ p → IsPath net q
unfolding path
is_path net q v p e =
    elim (cases_lt q.0 (length (paths net))) [
      | inl h ↦ h
      | inr h ↦ (let past : [] ≡ v ∷ p = sym (get_or_past (paths net) q.0 [] h) ∙ e in cc)
    ]

-- what was found begins with the node and goes on so
pub found_path : (net : Net) (o : Option PathNo) (qs : List PathNo) (v : ℕ) (p : List ℕ)
    → o ≡ find (λ r. same_path (path net r) (v ∷ p)) qs → IfSome o (λ q. path net q ≡ v ∷ p)
found_path net None qs v p e = tt
found_path net (Some q) qs v p e = same_path_is _ _ (in_find (λ r. same_path (path net r) (v ∷ p)) q qs (sym e)).0

-- and it is permitted there
pub found_own : (net : Net) (o : Option PathNo) (v : ℕ) (p : List ℕ) → IfSome o (λ q. path net q ≡ v ∷ p)
    → IfSome o (λ q. IsPath net q × IsTrue (is_own net v q))
found_own net None v p h = tt
found_own net (Some q) v p h = (is_path net q v p h, rw h (eq-eqb v v refl))

-- and a comparison of nodes says that it is
pub found_same : (net : Net) (o : Option PathNo) (v : ℕ) (p : List ℕ) → IfSome o (λ q. path net q ≡ v ∷ p) → IfSome o (λ q. IsTrue (same_path (path net q) (v ∷ p)))
found_same net None v p h = tt
found_same net (Some q) v p h = is-same (path net q) (v ∷ p) h

-- it has these nodes, written as one list
pub found_whole : (net : Net) (o : Option PathNo) (v : ℕ) (p xs : List ℕ) → v ∷ p ≡ xs → IfSome o (λ q. path net q ≡ v ∷ p)
    → IfSome o (λ q. IsPath net q × (path net q ≡ xs))
found_whole net None v p xs e h = tt
found_whole net (Some q) v p xs e h = (is_path net q v p h, h ∙ e)

-- a list by its first item and the rest
pub first_rest : (xs : List ℕ) → 1 ≤ length xs → slice_index_or xs 0 0 ∷ take (length xs - 1) (drop 1 xs) ≡ xs
first_rest [] h = absurd (omega arith)
first_rest (x ∷ xs) h = ap (λ p. x ∷ p) (take_rest (x ∷ xs) 1)

pub only_empty : (net : Net) → AreDistinct net → (xs : List ℕ) → length xs < 1 → (q : PathNo) → IsPath net q → path net q ≡ xs → Some (no 0) ≡ Some q
only_empty net apart [] h q i e = ap Some (apart (no 0) q (omega arith) i (path-empty net (no 0) refl ∙ sym e))
only_empty net apart (x ∷ xs) h q i e = absurd (omega arith)

pub empty_is : (net : Net) (xs : List ℕ) → length xs < 1 → path net (no 0) ≡ xs
empty_is net [] h = path-empty net (no 0) refl
empty_is net (x ∷ xs) h = absurd (omega arith)

-- a path is found at its first node
pub finds_path : (net : Net) → AreDistinct net → (q : PathNo) (v : ℕ) (p : List ℕ) → path net q ≡ v ∷ p
    → find (λ r. same_path (path net r) (v ∷ p)) (paths_of net v) ≡ Some q
unfolding paths_of path
finds_path net apart q v p e =
    let in' : IsPath net q = is_path net q v p e in
    finds (λ k. begins_at (slice_index_or (paths net) k []) v) (λ r. same_path (path net r) (v ∷ p)) (length (paths net)) 0 q.0 (omega arith) (omega arith)
    (rw e (eq-eqb v v refl))
    (is-same _ _ e)
    (λ j h t. ap (λ r. r.0) (apart (no j) q (omega arith) in' (same_path_is _ _ t ∙ sym e)))
