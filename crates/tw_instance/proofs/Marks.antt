-- A node stands twice among some exactly where one of them is met when those before it are marked.
use Rattle.std.proofs.Common.{◌≡◌, ℕ, zero, suc, ◌<◌, ◌==◌, ◌||◌, Bool, true, false, List, [], ◌∷◌, length, get_or, replicate, set, refl, ap, sym, ◌∙◌, inl, inr}
use Rattle.std.specs.List.{list_any}
use Rattle.std.proofs.lemmas.Bool.{cases_eq, cases_lt, eq-eqb, lt-ltb, le-ltb, ne_eqb}
use Rattle.std.proofs.lemmas.List.{get_or-set_other, get_or-set_same, get_or_past, set_past}
use Rattle.tw_model.specs.Rules.{repeats}
use Rattle.tw_instance.specs.Marks.{is_met}

-- whether one of the nodes is met, where those before it are marked too
abbrev pub meets : List Bool → List ℕ → Bool
meets marks [] = false
meets marks (v ∷ p) = is_met marks v p || meets (set marks v true) p

-- whether a node is marked
abbrev is_marked : List Bool → ℕ → Bool
is_marked marks v = get_or marks v false

one_mark : (marks : List Bool) (v w : ℕ) → v < length marks → is_marked (set marks v true) w ≡ (is_marked marks w || (w == v))
one_mark marks v w h =
    elim (cases_eq w v) [
      | inl e ↦ (let same = eq-eqb w v e in rw same (ap (λ u. is_marked (set marks v true) u) e ∙ (get_or-set_same marks v true false h ∙ sym (or_true (is_marked marks w)))))
      | inr ne ↦ (let other = ne_eqb w v ne in rw other (get_or-set_other marks v w true false ne ∙ sym (or_false (is_marked marks w))))
    ]
  where
    or_true : (x : Bool) → (x || true) ≡ true
    or_true true = refl
    or_true false = refl

    or_false : (x : Bool) → (x || false) ≡ x
    or_false true = refl
    or_false false = refl

-- either way in one order or another
moved : (a b c d : Bool) → ((a || b) || (c || d)) ≡ ((a || c) || (b || d))
moved true b c d = refl
moved false true true d = refl
moved false true false d = refl
moved false false true d = refl
moved false false false d = refl

turned : (a b c : Bool) → (b || (a || c)) ≡ (a || (b || c))
turned true true c = refl
turned true false c = refl
turned false b c = refl

one_more : (marks : List Bool) (v : ℕ) (p : List ℕ) → v < length marks → list_any (is_marked (set marks v true)) p ≡ (list_any (is_marked marks) p || list_any (λ w. w == v) p)
one_more marks v [] h = refl
one_more marks v (w ∷ p) h =
    ap (λ x. x || list_any (is_marked (set marks v true)) p) (one_mark marks v w h)
    ∙ (ap (λ x. (is_marked marks w || (w == v)) || x) (one_more marks v p h)
    ∙ moved (is_marked marks w) (w == v) (list_any (is_marked marks) p) (list_any (λ w. w == v) p))

pub meets_is : (marks : List Bool) (p : List ℕ) → meets marks p ≡ (list_any (is_marked marks) p || repeats p)
meets_is marks [] = refl
meets_is marks (v ∷ p) =
    let here = list_any (λ w. w == v) p in
    let old = list_any (is_marked marks) p in
    elim (cases_lt v (length marks)) [
      | inl h ↦ (let below = lt-ltb v (length marks) h in rw below
          (ap (λ x. is_marked marks v || x) (meets_is (set marks v true) p ∙ (ap (λ x. x || repeats p) (one_more marks v p h)))
          ∙ shuffled (is_marked marks v) old here (repeats p)))
      | inr h ↦ (let past = le-ltb v (length marks) h in rw past
          (ap (λ (m : List Bool). here || meets m p) (set_past marks v true h)
          ∙ (ap (λ x. here || x) (meets_is marks p)
          ∙ (turned old here (repeats p) ∙ ap (λ x. (x || old) || (here || repeats p)) (sym (get_or_past marks v false h))))))
    ]
  where
    shuffled : (m a b r : Bool) → (m || ((a || b) || r)) ≡ ((m || a) || (b || r))
    shuffled true a b r = refl
    shuffled false true b r = refl
    shuffled false false b r = refl

-- with no mark set
unmarked : (n : ℕ) (p : List ℕ) → list_any (is_marked (replicate n false)) p ≡ false
unmarked n [] = refl
unmarked n (v ∷ p) = ap (λ x. x || list_any (is_marked (replicate n false)) p) (none n v) ∙ unmarked n p
  where
    none : (m w : ℕ) → get_or (replicate m false) w false ≡ false
    none zero w = refl
    none (suc m) zero = refl
    none (suc m) (suc w) = none m w

pub meets_none : (n : ℕ) (p : List ℕ) → meets (replicate n false) p ≡ repeats p
meets_none n p = meets_is (replicate n false) p ∙ ap (λ x. x || repeats p) (unmarked n p)
