-- How a search goes on by what it meets.
use Rattle.std.proofs.Common.{◌≡◌, ℕ, zero, suc, ◌+◌, ◌<◌, ◌≤◌, Bool, true, false, List, [], ◌∷◌, ◌++◌, get_or, length, nat_le, not, take, Global, Option, Some, None, refl, ap, sym, ◌∙◌, subst, arith, if◌then◌else◌, append_assoc, append-nil}
use Rattle.std.specs.declared.vec.Vec.{Vec}
use Rattle.std.specs.List.{find, flat_map, range_with_len}
use Rattle.std.proofs.lemmas.List.{length-map, take_more}
use Rattle.tw_event.specs.declared.event.PathNo.{PathNo}
use Rattle.tw_instance.specs.Tables.{items}
use Rattle.tw_model.specs.Case.{Case, IsCase}
use Rattle.tw_model.specs.Net.{IsPath, empty_path}
use Rattle.tw_sim.proofs.Members.{In, all_from_in, in_from_all, in_get_or}
use Rattle.tw_policy.specs.Search.{has_choice}
use Rattle.tw_elimination.specs.Narrowing.{AreLists, halt_within, list_at, total_in}
use Rattle.tw_stable.specs.Splitting.{Found, Meeting, Split, are_enough, eliminated, first_choice, found_by, found_in, meetings, met_at, met_within, splits_in, with_only}
use Rattle.tw_stable.specs.Progress.{Way, after_one, go_on}
use Rattle.tw_stable.proofs.Meetings.{choice_here, halt_few, split_few}
use Rattle.tw_stable.proofs.Alone.{only_among, only_long}
use Rattle.tw_stable.proofs.Rows.{row_at}

-- ---- one after the other

pub go_on_join : (w : Way) (one two : List Meeting) → go_on w (one ++ two) ≡ go_on (go_on w one) two
go_on_join w [] two = refl
go_on_join w (m ∷ one) two = go_on_join (if w.is_whole then after_one w.found w.splits m else w) one two

-- where the splits ran out nothing changes
pub go_on_stopped : (w : Way) (met : List Meeting) → w.is_whole ≡ false → go_on w met ≡ w
go_on_stopped w [] stopped = refl
go_on_stopped w (m ∷ met) stopped =
    let same : (if w.is_whole then after_one w.found w.splits m else w) ≡ w = rw stopped refl in
    ap (λ (x : Way). go_on x met) same ∙ go_on_stopped w met stopped

-- what a whole search finds, and whether there were enough splits
pub found_so : (met : List Meeting) (found : List (List PathNo)) (splits : ℕ)
    → let w : Way = record { found = found; splits = splits; is_whole = true } in
    ((go_on w met).found ≡ found ++ found_in splits met) × ((go_on w met).is_whole ≡ nat_le (splits_in met) splits)
found_so [] found splits = (sym (append-nil found), none splits) where
  none : (n : ℕ) → true ≡ nat_le 0 n
  none n = grind arith
found_so (Split ∷ met) found zero =
    let w : Way = record { found = found; splits = 0; is_whole = false } in
    let same = go_on_stopped w met refl in
    (ap (λ (x : Way). x.found) same ∙ sym (append-nil found), ap (λ (x : Way). x.is_whole) same ∙ some (splits_in met)) where
      some : (n : ℕ) → false ≡ nat_le (n + 1) 0
      some n = grind arith
found_so (Split ∷ met) found (suc splits) =
    let more = found_so met found splits in
    (more.0, more.1 ∙ shift (splits_in met) splits) where
      shift : (n k : ℕ) → nat_le n k ≡ nat_le (n + 1) (suc k)
      shift n k = grind arith
found_so (Found r ∷ met) found splits =
    let more = found_so met (found ++ r ∷ []) splits in
    (more.0 ∙ append_assoc found (r ∷ []) (found_in splits met), more.1)

-- a split
pub split_none : (w : Way) → w.is_whole ≡ true → w.splits ≡ 0 → go_on w (Split ∷ []) ≡ record { found = w.found; splits = w.splits; is_whole = false }
split_none w whole none = rw whole (rw none refl)

pub split_one : (w : Way) → w.is_whole ≡ true → (n : ℕ) → w.splits ≡ n + 1 → go_on w (Split ∷ []) ≡ record { found = w.found; splits = n; is_whole = w.is_whole }
split_one w whole n some = let e : w.splits ≡ suc n = omega arith in rw (whole, e) refl

-- an assignment
pub found_one : (w : Way) (r : List PathNo) → w.is_whole ≡ true → go_on w (Found r ∷ []) ≡ record { found = w.found ++ r ∷ []; splits = w.splits; is_whole = w.is_whole }
found_one w r whole = rw whole refl

-- what is met for one path more
pub met_more : {A B : Type 0} (f : A → List B) (qs : List A) (k : ℕ) (d : A) → k < length qs → flat_map f (take (k + 1) qs) ≡ flat_map f (take k qs) ++ f (get_or qs k d)
met_more f qs k d low = ap (flat_map f) (take_more qs k d low) ∙ joined f (take k qs) (get_or qs k d) where
  joined : {A B : Type 0} (f : A → List B) (xs : List A) (x : A) → flat_map f (xs ++ x ∷ []) ≡ flat_map f xs ++ f x
  joined f [] x = append-nil (f x)
  joined f (y ∷ xs) x = ap (λ bs. f y ++ bs) (joined f xs x) ∙ sym (append_assoc (f y) (flat_map f xs) (f x))

-- lists with one path alone are lists of the case
pub only_lists : (case : Case) (lists : List (List PathNo)) → AreLists case lists → (v : ℕ) → v < case.net.nodes → (q : PathNo) → In q (list_at lists v) → AreLists case (with_only lists v q)
only_lists case lists are v here q i = record {
  long = only_long lists v q ∙ are.long;
  paths = λ w. all_from_in (IsPath case.net) (list_at (with_only lists v q) w)
      (λ p k. in_from_all (IsPath case.net) (list_at lists w) (are.paths w) p (only_among lists v (let l = are.long in omega arith) q i w p k));
}

-- what the search of a whole case finds
pub whole_found : (case : Case) (splits : ℕ) (w : Way)
    → let start : Way = record { found = []; splits = splits; is_whole = true } in
    w ≡ go_on start (met_within case (suc (total_in case (eliminated case))) (eliminated case)) → (w.found ≡ found_by splits case) × (w.is_whole ≡ are_enough splits case)
unfolding meetings
whole_found case splits w is =
    let so = found_so (meetings case) [] splits in
    (ap (λ (x : Way). x.found) is ∙ so.0, ap (λ (x : Way). x.is_whole) is ∙ so.1)

-- ---- what is met within lists, by their halt

pub not_false : (b : Bool) → not b ≡ false → b ≡ true
not_false true h = refl
not_false false h = sym h

-- the first choice as the code finds it
pub choice_is : (case : Case) (rows halt : List (Vec PathNo Global)) (lists : List (List PathNo)) → rows ≡ halt → items halt ≡ lists → length (items halt) ≡ case.net.nodes
    → find (has_choice (list_at (items rows))) (range_with_len 0 (length rows)) ≡ first_choice case lists
choice_is case rows halt lists e is long =
    ap (λ xs. find (has_choice (list_at (items xs))) (range_with_len 0 (length xs))) e
    ∙ (ap (λ k. find (has_choice (list_at (items halt))) (range_with_len 0 k)) (sym (length-map halt (λ (v : Vec PathNo Global). v.items)) ∙ long)
    ∙ ap (λ ls. find (has_choice (list_at ls)) (range_with_len 0 case.net.nodes)) is)

pub met_none : (case : Case) (n : ℕ) (lists : List (List PathNo)) → total_in case lists < n → first_choice case (halt_within case lists) ≡ None
    → met_at (λ ls. []) case (halt_within case lists) None ≡ met_within case n lists
met_none case zero lists few none = absurd (omega arith)
met_none case (suc n) lists few none = rw none refl

pub met_some : (case : Case) (is : IsCase case) (n : ℕ) (lists : List (List PathNo)) → total_in case lists < n → (v : ℕ) → first_choice case (halt_within case lists) ≡ Some v
    → (m : ℕ) × (total_in case (halt_within case lists) ≤ m)
    × (Split ∷ flat_map (λ q. met_within case m (with_only (halt_within case lists) v q)) (list_at (halt_within case lists) v) ≡ met_within case n lists)
met_some case is zero lists few v some = absurd (omega arith)
met_some case is (suc n) lists few v some = let fewer = halt_few case is lists in (n, omega arith, rw some refl)

pub take_whole : {X : Type 0} (xs : List X) (k : ℕ) → length xs ≤ k → take k xs ≡ xs
take_whole [] zero h = refl
take_whole [] (suc k) h = refl
take_whole (x ∷ xs) zero h = absurd (omega arith)
take_whole (x ∷ xs) (suc k) h = ap (λ ys. x ∷ ys) (take_whole xs k (omega arith))

-- one path more is tried
pub way_more : (case : Case) (n : ℕ) (halt : List (List PathNo)) (v k : ℕ) (w before after : Way) → k < length (list_at halt v)
    → before ≡ go_on w (flat_map (λ p. met_within case n (with_only halt v p)) (take k (list_at halt v)))
    → after ≡ go_on before (met_within case n (with_only halt v (get_or (list_at halt v) k empty_path)))
    → after ≡ go_on w (flat_map (λ p. met_within case n (with_only halt v p)) (take (k + 1) (list_at halt v)))
way_more case n halt v k w before after low old new =
    let f = λ (p : PathNo). met_within case n (with_only halt v p) in
    let qs = list_at halt v in
    new ∙ (ap (λ (x : Way). go_on x (f (get_or qs k empty_path))) old
    ∙ (sym (go_on_join w (flat_map f (take k qs)) (f (get_or qs k empty_path))) ∙ ap (go_on w) (sym (met_more f qs k empty_path low))))

-- all paths are tried
pub way_whole : (case : Case) (n : ℕ) (halt : List (List PathNo)) (v k : ℕ) (w split after : Way) → length (list_at halt v) ≤ k → split ≡ go_on w (Split ∷ [])
    → after ≡ go_on split (flat_map (λ p. met_within case n (with_only halt v p)) (take k (list_at halt v)))
    → after ≡ go_on w (Split ∷ flat_map (λ p. met_within case n (with_only halt v p)) (list_at halt v))
way_whole case n halt v k w split after over first is =
    let f = λ (p : PathNo). met_within case n (with_only halt v p) in
    is ∙ (ap (λ qs. go_on split (flat_map f qs)) (take_whole (list_at halt v) k over) ∙ ap (λ (x : Way). go_on x (flat_map f (list_at halt v))) first)

-- the choice as the code finds it
pub chosen : (case : Case) (rows halt : List (Vec PathNo Global)) (lists : List (List PathNo)) → rows ≡ halt → items halt ≡ lists → length (items halt) ≡ case.net.nodes
    → (o : Option ℕ) → o ≡ find (has_choice (list_at (items rows))) (range_with_len 0 (length rows)) → (v : ℕ) → o ≡ Some v → first_choice case lists ≡ Some v
chosen case rows halt lists e is long o found v some = sym (choice_is case rows halt lists e is long) ∙ (sym found ∙ some)

-- the list of the router that has the choice
pub list_is : (halt : List (Vec PathNo Global)) (lists : List (List PathNo)) (v : ℕ) (x : Vec PathNo Global) (xs : List PathNo) → v < length halt → x ≡ get_or halt v x → items halt ≡ lists → xs ≡ x.items
    → xs ≡ list_at lists v
list_is halt lists v x xs low at is e = e ∙ (sym (row_at halt v x low at) ∙ ap (λ ls. list_at ls v) is)

same_default : (xs : List PathNo) (k : ℕ) (c d : PathNo) → k < length xs → get_or xs k c ≡ get_or xs k d
same_default [] k c d low = absurd (omega arith)
same_default (x ∷ xs) zero c d low = refl
same_default (x ∷ xs) (suc k) c d low = same_default xs k c d (omega arith)

-- the lists in which one path is tried
pub part_is : (case : Case) (is : IsCase case) (lists : List (List PathNo)) (rows halt part : List (Vec PathNo Global)) (v k : ℕ) (xs : List PathNo) (d : PathNo)
    → rows ≡ halt → items halt ≡ halt_within case lists → xs ≡ list_at (halt_within case lists) v → k < length xs
    → items part ≡ with_only (items rows) v (get_or xs k d) → items part ≡ with_only (halt_within case lists) v (get_or (list_at (halt_within case lists) v) k empty_path)
part_is case is lists rows halt part v k xs d e halt_is same low part_of =
    part_of ∙ (ap (λ zs. with_only (items zs) v (get_or xs k d)) e
    ∙ (ap (λ ls. with_only ls v (get_or xs k d)) halt_is
    ∙ ap (with_only (halt_within case lists) v) (same_default xs k d empty_path low ∙ ap (λ ys. get_or ys k empty_path) same)))

-- they are lists of the case, with fewer paths
pub part_fits : (case : Case) (is : IsCase case) (lists : List (List PathNo)) (part : List (Vec PathNo Global)) (v k : ℕ) → AreLists case (halt_within case lists)
    → first_choice case (halt_within case lists) ≡ Some v → k < length (list_at (halt_within case lists) v)
    → items part ≡ with_only (halt_within case lists) v (get_or (list_at (halt_within case lists) v) k empty_path)
    → (total_in case (items part) < total_in case lists) × AreLists case (items part)
part_fits case is lists part v k are first low part_of =
    let halt = halt_within case lists in
    let q = get_or (list_at halt v) k empty_path in
    let less = split_few case is halt are.long v first q in
    let few = halt_few case is lists in
    let fewer : total_in case (with_only halt v q) < total_in case lists = omega arith in (
      subst (λ ls. total_in case ls < total_in case lists) (sym part_of) fewer,
      subst (AreLists case) (sym part_of) (only_lists case halt are v (choice_here case is halt v first) q (in_get_or (list_at halt v) k empty_path low)),
    )
