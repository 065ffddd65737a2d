-- The lists have no path that elimination does not leave, a round earlier.
use Rattle.std.proofs.Common.{arith, ◌≡◌, ℕ, suc, zero, ◌<◌, ◌==◌, Bool, true, false, not, ◌&&◌, List, [], ◌∷◌, ◌++◌, Some, None, refl, ap, sym, ◌∙◌, subst, inl, inr, if◌then◌else◌, append_assoc, append-nil}
use Rattle.std.specs.List.{find, list_all, list_any, zip}
use Rattle.std.specs.Option.{unwrap_or}
use Rattle.std.proofs.lemmas.Bool.{cases_Bool, both_ways, and_from, and_parts, eqb-true, eq-eqb, false≢true, not-true, not_from_false}
use Rattle.tw_event.specs.declared.event.PathNo.{PathNo}
use Rattle.tw_model.specs.declared.net.Hop.{Hop}
use Rattle.tw_model.specs.declared.state.Row.{Row}
use Rattle.tw_model.specs.Net.{Net, empty_path, hops_of, is_own, origin_path, path, same_path}
use Rattle.tw_model.specs.Rules.{IsNet}
use Rattle.tw_model.specs.State.{State, bars}
use Rattle.tw_model.specs.Quiet.{is_reached, stable_path}
use Rattle.tw_model.proofs.Paths.{own_is_path, path_exact, same_path_is}
use Rattle.tw_sim.proofs.Members.{In, any_from_in, find_some, in_find, in_from_any, in_left, in_right}
use Rattle.tw_policy.specs.Elimination.{IsSolvedIn, MayUse}
use Rattle.tw_policy.specs.Left.{allows, covers, follows, is_covered, is_given, left_after, remaining}
use Rattle.tw_policy.specs.Search.{AreOnce}
use Rattle.tw_policy.proofs.Left.{IsAllowed, reached_by, reached_from}
use Rattle.tw_policy.proofs.Lists.{same_number}
use Rattle.tw_policy.proofs.Rests.{IsLeftAfterRounds, lists, some_kept, some_path}
use Rattle.tw_policy.proofs.Topological.{none_in}
use Rattle.tw_model.specs.Case.{Case, IsCase}
use Rattle.tw_policy.specs.Standing.{standing}
use Rattle.tw_policy.proofs.Cases.{all_once, standing_once, standing_own}
use Rattle.tw_policy.proofs.Halts.{Within, drop, ended, keep, left_within, within_in}

-- ---- lists

not_all : (test : PathNo → Bool) (xs : List PathNo) → list_all test xs ≡ false → (x : PathNo) × (test x ≡ false) × In x xs
not_all test [] h = absurd (false≢true (sym h))
not_all test (x ∷ xs) h =
    elim (cases_Bool (test x)) [
      | inr b ↦ (x, b, inl refl)
      | inl b ↦ (let more = not_all test xs (rw b at h) in (more.0, more.1, inr more.2))
    ]

found_or : (test : PathNo → Bool) (xs : List PathNo) (d : PathNo) → In d xs → In (unwrap_or (find test xs) d) xs
found_or test xs d i = grind (arith, in_find)

find_behind : (test : PathNo → Bool) (front : List PathNo) (q : PathNo) (back : List PathNo) → ((y : PathNo) → In y front → test y ≡ false) → test q ≡ true
    → find test (front ++ q ∷ back) ≡ Some q
find_behind test [] q back never h = rw h refl
find_behind test (x ∷ front) q back never h = rw (never x (inl refl)) (find_behind test front q back (λ y i. never y (inr i)) h)

find_nothing : (test : PathNo → Bool) (xs : List PathNo) → ((y : PathNo) → In y xs → test y ≡ false) → find test xs ≡ None
find_nothing test [] never = refl
find_nothing test (x ∷ xs) never = rw (never x (inl refl)) (find_nothing test xs (λ y i. never y (inr i)))

apart_front : (front : List PathNo) (q : PathNo) (back : List PathNo) → AreOnce (front ++ q ∷ back) → (y : PathNo) → In y front → y ≡ q → ⊥
apart_front (x ∷ front) q back once y (inl e) same =
    both_ways (x.0 == q.0) (none_in (λ z. x.0 == z.0) q (front ++ q ∷ back) once.0 (in_right q front (q ∷ back) (inl refl)))
    (eq-eqb x.0 q.0 (ap (λ z. z.0) (sym e ∙ same)))
apart_front (x ∷ front) q back once y (inr k) same = apart_front front q back once.1 y k same
apart_front [] q back once y k same = k

module _ (net : Net) (is : IsNet net) (states : ℕ → State) (own : (v : ℕ) (q : PathNo) → In q (states v).order → is_own net v q ≡ true) (once : (v : ℕ) → AreOnce (states v).order) where
  module _ (left : ℕ → List PathNo) (some : (w : ℕ) → (p : PathNo) × In p (left w)) (v : ℕ) where
    -- ---- what it means that a path remains

    record IsRemaining (better order : List PathNo) (q : PathNo) : Type 0 where
      pub front : List PathNo
      pub back : List PathNo
      pub stands : order ≡ front ++ q ∷ back
      pub given : is_given net states left v q ≡ true
      pub uncovered : is_covered net states left v (better ++ front) ≡ false

    abbrev test : List PathNo → PathNo → Bool
    test better q = is_given net states left v q && not (is_covered net states left v better)

    later : (better order : List PathNo) (x q : PathNo) → IsRemaining (better ++ x ∷ []) order q → IsRemaining better (x ∷ order) q
    later better order x q more = grind (arith, append_assoc)

    remains_by : (better order : List PathNo) (q : PathNo) → (q.0 == 0) ≡ false → In q (remaining net states left v better order) → IsRemaining better order q
    remains_by better [] q nonzero i = grind arith
    remains_by better (x ∷ order) q nonzero i =
        elim (cases_Bool (test better x)) [
          | inr b ↦ later better order x q (remains_by (better ++ x ∷ []) order q nonzero (rw b at i))
          | inl b ↦ (
              let there : In q (x ∷ remaining net states left v (better ++ x ∷ []) order) = rw b at i in
              let parts = and_parts (is_given net states left v x) (not (is_covered net states left v better)) b in
              let here : IsRemaining better (x ∷ order) x = record {
                front = [];
                back = order;
                stands = refl;
                given = parts.0;
                uncovered = subst (λ ys. is_covered net states left v ys ≡ false) (sym (append-nil better)) (not-true (is_covered net states left v better) parts.1);
              } in
              elim there [
                | inl e ↦ subst (IsRemaining better (x ∷ order)) (sym e) here
                | inr k ↦ later better order x q (remains_by (better ++ x ∷ []) order q nonzero k)
              ])
        ]

    -- the empty path remains where nobody always gives one of the order
    nothing_by : (better order : List PathNo) (q : PathNo) → ((x : PathNo) → In x order → (x.0 == 0) ≡ false) → (q.0 == 0) ≡ true
        → In q (remaining net states left v better order) → is_covered net states left v (better ++ order) ≡ false
    nothing_by better [] q nonzero none i = grind (arith, cases_Bool, append-nil)
    nothing_by better (x ∷ order) q nonzero none i =
        let onward = λ (k : In q (remaining net states left v (better ++ x ∷ []) order)).
        subst (λ ys. is_covered net states left v ys ≡ false) (append_assoc better (x ∷ []) order) (nothing_by (better ++ x ∷ []) order q (λ y j. nonzero y (inr j)) none k) in
        elim (cases_Bool (test better x)) [
          | inr b ↦ onward (rw b at i)
          | inl b ↦ grind arith
        ]

    -- ---- a choice that gives none of the better ones

    abbrev avoids : List PathNo → PathNo → Bool
    avoids better r = not (list_any (λ y. allows net states v y r) better)

    abbrev pick : List PathNo → ℕ → PathNo
    pick better w = unwrap_or (find (avoids better) (left w)) (some w).0

    pick_in : (better : List PathNo) (w : ℕ) → In (pick better w) (left w)
    pick_in better w = found_or (avoids better) (left w) (some w).0 (some w).1

    pick_avoids : (better : List PathNo) (p : Hop × Row) → In p (zip (hops_of net v) (states v).rows) → p.1.up ≡ true → is_covered net states left v better ≡ false
        → list_any (λ y. allows net states v y (pick better p.0.peer)) better ≡ false
    pick_avoids better p i up uncovered =
        let w = p.0.peer in
        let both = none_in_rows (λ o. o.1.up && covers net states left v better o.0.peer) p (zip (hops_of net v) (states v).rows) uncovered i in
        let lax : covers net states left v better w ≡ false = elim (cases_Bool (covers net states left v better w)) [
          | inr b ↦ b
          | inl b ↦ absurd (both_ways (p.1.up && covers net states left v better w) both (and_from p.1.up (covers net states left v better w) up b))
        ] in
        let free = not_all (λ r. list_any (λ y. allows net states v y r) better) (left w) lax in
        let found = find_some (avoids better) (left w)
        (any_from_in (avoids better) free.0 (left w) (not_from_false (list_any (λ y. allows net states v y free.0) better) free.1) free.2) in
        let met = in_find (avoids better) found.0 (left w) found.1 in
        let is_it : pick better w ≡ found.0 = ap (λ o. unwrap_or o (some w).0) found.1 in
        subst (λ r. list_any (λ y. allows net states v y r) better ≡ false) (sym is_it)
        (not-true (list_any (λ y. allows net states v y found.0) better) met.0) where
          none_in_rows : (f : Hop × Row → Bool) (x : Hop × Row) (xs : List (Hop × Row)) → list_any f xs ≡ false → In x xs → f x ≡ false
          none_in_rows f x xs none k =
              elim (cases_Bool (f x)) [ inr b ↦ b | inl b ↦ absurd (both_ways (list_any f xs) none (any_from_in f x xs b k)) ]

    pick_unreached : (better : List PathNo) → is_covered net states left v better ≡ false → (ribs : ℕ → PathNo) → (y : PathNo) → In y better
        → (a : IsAllowed net states v ribs y) → ribs a.hop_row.0.peer ≡ pick better a.hop_row.0.peer → ⊥
    pick_unreached better uncovered ribs y i a same =
        let w = a.hop_row.0.peer in
        let none = pick_avoids better a.hop_row a.there a.up uncovered in
        both_ways (list_any (λ z. allows net states v z (pick better w)) better) none
        (any_from_in (λ z. allows net states v z (pick better w)) y better (subst (λ r. allows net states v y r ≡ true) same a.allowed) i)

    -- what remains is the best path for some choice of paths that are left
    pub record IsBest (q : PathNo) : Type 0 where
      pub ribs : ℕ → PathNo
      pub within : (w : ℕ) → In (ribs w) (left w)
      pub best : q ≡ stable_path net ribs v (states v)

    best_of_none : (v == 0) ≡ false → (q : PathNo) → (q.0 == 0) ≡ true → is_covered net states left v (states v).order ≡ false → IsBest q
    best_of_none other q none uncovered =
        let ribs = pick (states v).order in
        let nothing : find (is_reached net ribs v (states v)) (states v).order ≡ None
        = find_nothing (is_reached net ribs v (states v)) (states v).order (λ y i. elim (cases_Bool (is_reached net ribs v (states v) y)) [
          | inr b ↦ b
          | inl b ↦ absurd (pick_unreached (states v).order uncovered ribs y i (reached_by net states v ribs y b) refl)
        ]) in
        record {
          ribs = ribs;
          within = pick_in (states v).order;
          best = same_number q empty_path (eqb-true q.0 0 none) ∙ rw other (sym (ap (λ o. unwrap_or o empty_path) nothing));
        }

    best_of_given : (v == 0) ≡ false → (q : PathNo) → IsRemaining [] (states v).order q → IsBest q
    best_of_given other q part =
        let front = part.front in
        let rows = zip (hops_of net v) (states v).rows in
        let found = in_from_any (λ p. p.1.up && list_any (allows net states v q) (left p.0.peer)) rows part.given in
        let p = found.0 in
        let met = and_parts p.1.up (list_any (allows net states v q) (left p.0.peer)) found.1 in
        let heard = in_from_any (allows net states v q) (left p.0.peer) met.1 in
        let r = heard.0 in
        let ribs = λ (w : ℕ). if w == p.0.peer then r else pick front w in
        let giver : ribs p.0.peer ≡ r = rw (eq-eqb p.0.peer p.0.peer refl) refl in
        let reached = reached_from net states v ribs q (record { hop_row = p; there = found.2; up = met.0; allowed = subst (λ z. allows net states v q z ≡ true) (sym giver) heard.1 }) in
        let order_once = subst AreOnce part.stands (once v) in
        let never : (y : PathNo) → In y front → is_reached net ribs v (states v) y ≡ false = λ y i. elim (cases_Bool (is_reached net ribs v (states v) y)) [
          | inr b ↦ b
          | inl b ↦ (
              let a = reached_by net states v ribs y b in
              elim (cases_Bool (a.hop_row.0.peer == p.0.peer)) [
                | inr c ↦ (let picked : ribs a.hop_row.0.peer ≡ pick front a.hop_row.0.peer = rw c refl in absurd (pick_unreached front part.uncovered ribs y i a picked))
                | inl c ↦ (
                    let from_giver : ribs a.hop_row.0.peer ≡ r = rw c refl in
                    let same = same_given y q r (subst (In y) (sym part.stands) (in_left y front (q ∷ part.back) i))
                    (subst (In q) (sym part.stands) (in_right q front (q ∷ part.back) (inl refl)))
                    (subst (λ z. allows net states v y z ≡ true) from_giver a.allowed) heard.1 in
                    absurd (apart_front front q part.back order_once y i same))
              ])
        ] in
        let first : find (is_reached net ribs v (states v)) (states v).order ≡ Some q
        = ap (find (is_reached net ribs v (states v))) part.stands ∙ find_behind (is_reached net ribs v (states v)) front q part.back never reached in
        record {
          ribs = ribs;
          within = λ w. elim (cases_Bool (w == p.0.peer)) [
            | inl b ↦ rw b (subst (λ z. In r (left z)) (sym (eqb-true w p.0.peer b)) heard.2)
            | inr b ↦ rw b (pick_in front w)
          ];
          best = rw other (sym (ap (λ o. unwrap_or o empty_path) first));
        } where
          -- one path of a neighbour gives one path
          same_given : (y q r : PathNo) → In y (states v).order → In q (states v).order → allows net states v y r ≡ true → allows net states v q r ≡ true → y ≡ q
          same_given y q r i j one two =
              let nodes = λ (x : PathNo) (h : allows net states v x r ≡ true).
              (let parts = and_parts (not (bars net v (states v).barred x)) (follows net states v x r) h in
              let on = and_parts (not (r.0 == 0)) (same_path (path net x) (v ∷ path net r)) parts.1 in
              let is_path : path net x ≡ v ∷ path net r = same_path_is (path net x) (v ∷ path net r) on.1 in
              is_path) in
              path_exact net is y q (own_is_path net v y (own v y i)).0 (own_is_path net v q (own v q j)).0 (nodes y one ∙ sym (nodes q two))

    nonzero : (q : PathNo) → In q (states v).order → (q.0 == 0) ≡ false
    nonzero q i =
        elim (cases_Bool (q.0 == 0)) [
          | inr b ↦ b
          | inl b ↦ absurd ((own_is_path net v q (own v q i)).1 (eqb-true q.0 0 b))
        ]

    pub is_best : (v == 0) ≡ false → (q : PathNo) → In q (remaining net states left v [] (states v).order) → IsBest q
    is_best other q i = grind (arith, cases_Bool, best_of_none, nothing_by, nonzero, best_of_given, remains_by)

  -- a path that the lists leave, elimination leaves
  pub left_may : (n v : ℕ) (q : PathNo) → In q (left_after net states n v) → MayUse net states n v q
  left_may zero v q i = tt
  left_may (suc n) v q i =
      let some = λ (w : ℕ). (let there = some_kept net states (IsLeftAfterRounds net states) (lists net states) n w in
      let one : (p : PathNo) × In p (left_after net states n w) = (some_path net states n w, there) in one) in
      elim (cases_Bool (v == 0)) [
        | inl b ↦ (
            let one : In q (origin_path ∷ []) = rw b at i in
            let first : q ≡ origin_path = elim one [ inl e ↦ e | inr none ↦ absurd none ] in
            let ribs = λ (w : ℕ). (some w).0 in
            (ribs, (λ w. left_may n w (some w).0 (some w).1), first ∙ rw b refl))
        | inr b ↦ (
            let best = is_best (left_after net states n) some v b q (rw b at i) in
            (best.ribs, (λ w. left_may n w (best.ribs w) (best.within w)), best.best))
      ]

-- ---- lists in which no path stands twice

once_within : (xs ys : List PathNo) → Within xs ys → AreOnce ys → AreOnce xs
once_within _ _ ended once = tt
once_within _ _ (keep x xs ys w) once = (apart, once_within xs ys w once.1) where
  apart : list_any (λ y. x.0 == y.0) xs ≡ false
  apart =
      elim (cases_Bool (list_any (λ y. x.0 == y.0) xs)) [
        | inr b ↦ b
        | inl b ↦ (
            let found = in_from_any (λ y. x.0 == y.0) xs b in
            let there = within_in xs ys w found.0 found.2 in
            absurd (both_ways (x.0 == (found.0).0) (none_in (λ y. x.0 == y.0) found.0 ys once.0 there) found.1))
      ]
once_within _ _ (drop x xs ys w) once = once_within xs ys w once.1

only_one : (xs : List PathNo) (p : PathNo) → AreOnce xs → In p xs → ((x : PathNo) → In x xs → x ≡ p) → (q : PathNo) × (xs ≡ q ∷ [])
only_one [] p once i all = absurd i
only_one (x ∷ []) p once i all = (x, refl)
only_one (x ∷ y ∷ xs) p once i all =
    absurd (both_ways (x.0 == y.0) (none_in (λ z. x.0 == z.0) y (y ∷ xs) once.0 (inl refl))
    (eq-eqb x.0 y.0 (ap (λ z. z.0) (all x (inl refl) ∙ sym (all y (inr (inl refl)))))))

module _ (case : Case) (is : IsCase case) where
  pub left_once : (n v : ℕ) → AreOnce (left_after case.net (standing case) n v)
  left_once zero v = all_once case is v
  left_once (suc n) v =
      once_within (left_after case.net (standing case) (suc n) v) (left_after case.net (standing case) n v) (left_within case.net (standing case) n v) (left_once n v)

  pub case_left_may : (n v : ℕ) (q : PathNo) → In q (left_after case.net (standing case) n v) → MayUse case.net (standing case) n v q
  case_left_may = left_may case.net is.net (standing case) (λ v. standing_own case is v) (λ v. standing_once case is v)

  -- where elimination leaves no choice, the lists leave one path
  pub solved_one_left : (n : ℕ) → IsSolvedIn case.net (standing case) n → (v : ℕ) → v < case.net.nodes → (q : PathNo) × (left_after case.net (standing case) n v ≡ q ∷ [])
  solved_one_left n solved v here =
      let p = some_path case.net (standing case) n v in
      let there = some_kept case.net (standing case) (IsLeftAfterRounds case.net (standing case)) (lists case.net (standing case)) n v in
      only_one (left_after case.net (standing case) n v) p (left_once n v) there
      (λ x i. solved v here x p (case_left_may n v x i) (case_left_may n v p there))
