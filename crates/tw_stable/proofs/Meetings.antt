-- What is met on the way is stable and met once, and each stable assignment is met.
use Rattle.std.proofs.Common.{◌≡◌, ℕ, zero, suc, ◌<◌, ◌≤◌, ◌==◌, true, false, List, [], ◌∷◌, ◌++◌, get_or, length, map, nat_le, nat_lt, Option, Some, None, refl, ap, sym, ◌∙◌, subst, inl, inr, arith, if◌then◌else◌}
use Rattle.std.specs.List.{All, flat_map, range_with_len}
use Rattle.std.proofs.lemmas.Bool.{cases_Bool, cases_eq, cases_lt, leb-true, ltb-true, lt-ltb}
use Rattle.std.proofs.lemmas.List.{get_or_past}
use Rattle.std.proofs.lemmas.List.FromFn.{get_or-map-range_with_len, length-map-range_with_len}
use Rattle.tw_event.specs.declared.event.PathNo.{PathNo}
use Rattle.tw_model.specs.Case.{Case, IsCase}
use Rattle.tw_model.specs.Net.{IsPath, empty_path, origin_path}
use Rattle.tw_model.specs.Quiet.{stable_path}
use Rattle.tw_model.specs.State.{State}
use Rattle.tw_sim.proofs.Members.{In, all_from_in, in_append, in_filtered, in_find, in_flat_map, in_flat_mapped, in_from_all, in_get_or, in_left, in_range, place, range_has}
use Rattle.tw_policy.specs.Left.{remaining}
use Rattle.tw_policy.specs.Search.{AreOnce, Differ, first_of, has_any, has_choice, is_one_of, only_at}
use Rattle.tw_policy.specs.Stable.{IsStableAssignment}
use Rattle.tw_policy.specs.Standing.{standing}
use Rattle.tw_policy.proofs.Cases.{standing_once, standing_own}
use Rattle.tw_policy.proofs.Choices.{stable_agree}
use Rattle.tw_policy.proofs.Elimination.{everywhere, everywhere_is, stable_everywhere, stable_stays}
use Rattle.tw_policy.proofs.Ends.{only_short, only_shorter, total_less}
use Rattle.tw_policy.proofs.Exact as exact
use Rattle.tw_policy.proofs.Halts.{one_in, remaining_same}
use Rattle.tw_policy.proofs.Left as left_lists
use Rattle.tw_policy.proofs.Lists.{all_from, all_in, none_found}
use Rattle.tw_policy.proofs.Search.{alone, first_in, in_one_of, not_again, once_filter, some_there}
use Rattle.tw_elimination.specs.Narrowing.{AreLists, halt_within, list_at, loses_none, one_round, total_in}
use Rattle.tw_elimination.specs.Rounds.{left_in, rounds_of}
use Rattle.tw_elimination.proofs.Halting.{left_paths, peer_below}
use Rattle.tw_elimination.proofs.Kept.{all_kept_in, at_round, halt_has, halt_keeps, may_be, round_in, round_long, takes_none_more, total_same}
use Rattle.tw_stable.specs.Splitting.{Found, Meeting, Split, eliminated, first_choice, first_paths, found_in, have_all, meetings, met_at, met_within, rib_at, splits_in, with_only}
use Rattle.tw_stable.proofs.Alone.{only_among, only_else, only_is, only_long, only_there}

-- the same list of two functions that agree
map_same : {X : Type 0} (f g : ℕ → X) (vs : List ℕ) → ((v : ℕ) → In v vs → f v ≡ g v) → map f vs ≡ map g vs
map_same f g [] same = refl
map_same f g (v ∷ vs) same = ap (λ x. x ∷ map f vs) (same v (inl refl)) ∙ ap (λ xs. g v ∷ xs) (map_same f g vs (λ w k. same w (inr k)))

-- ---- what is found

found_from : (splits : ℕ) (met : List Meeting) (r : List PathNo) → In r (found_in splits met) → In (Found r) met
found_from splits [] r i = absurd i
found_from zero (Split ∷ met) r i = absurd i
found_from (suc splits) (Split ∷ met) r i = inr (found_from splits met r i)
found_from splits (Found s ∷ met) r (inl e) = inl (ap Found e)
found_from splits (Found s ∷ met) r (inr k) = inr (found_from splits met r k)

found_name : (r s : List PathNo) → Found r ≡ Found s → r ≡ s
found_name r s e = cc

found_all : (splits : ℕ) (met : List Meeting) → splits_in met ≤ splits → (r : List PathNo) → In (Found r) met → In r (found_in splits met)
found_all splits [] few r i = absurd i
found_all zero (Split ∷ met) few r i = absurd (omega arith)
found_all (suc splits) (Split ∷ met) few r (inl e) = absurd (cc)
found_all (suc splits) (Split ∷ met) few r (inr k) = found_all splits met (omega arith) r k
found_all splits (Found s ∷ met) few r (inl e) = inl (found_name r s e)
found_all splits (Found s ∷ met) few r (inr k) = inr (found_all splits met few r k)

module _ (case : Case) (is : IsCase case) where
  abbrev nodes : ℕ
  nodes = case.net.nodes

  abbrev routers : List ℕ
  routers = range_with_len 0 nodes

  abbrev states : ℕ → State
  states = standing case

  router_in : (v : ℕ) → v < nodes → In v routers
  router_in v here = range_has v 0 nodes (omega arith) (omega arith)

  -- the lists, and one path where there is no router
  abbrev wide : List (List PathNo) → (ℕ → PathNo) → ℕ → List PathNo
  wide lists e w = if nat_lt w nodes then list_at lists w else e w ∷ []

  wide_same : (lists : List (List PathNo)) (e : ℕ → PathNo) (v : ℕ) → remaining case.net states (wide lists e) v [] (states v).order ≡ remaining case.net states (list_at lists) v [] (states v).order
  wide_same lists e v =
      remaining_same case.net states (wide lists e) (list_at lists) v
      (λ w there. rw (lt-ltb w nodes (peer_below case.net v w there)) refl) [] (states v).order

  -- ---- a stable assignment stays within the lists

  module _ (ribs : ℕ → PathNo) (stable : IsStableAssignment case.net states ribs) where
    abbrev IsIn : List (List PathNo) → Type 0
    IsIn lists = (v : ℕ) → v < nodes → In (ribs v) (list_at lists v)

    abbrev e : ℕ → PathNo
    e = everywhere case.net states ribs

    e_in : (lists : List (List PathNo)) → IsIn lists → (w : ℕ) → In (e w) (wide lists e w)
    e_in lists within w =
        elim (cases_Bool (nat_lt w nodes)) [
          | inl b ↦ rw b (within w (ltb-true w nodes b))
          | inr b ↦ rw b (inl refl)
        ]

    may : (lists : List (List PathNo)) → IsIn lists → (v : ℕ) → v < nodes → In (ribs v) (may_be case lists v)
    may lists within v here =
        let is_rib : stable_path case.net e v (states v) ≡ ribs v = sym (stable_everywhere case.net states ribs stable v) ∙ everywhere_is case.net states ribs v here in
        elim (cases_Bool (v == 0)) [
          | inl b ↦ rw b (inl (sym is_rib ∙ rw b refl))
          | inr b ↦ rw b (subst (λ q. In q (remaining case.net states (list_at lists) v [] (states v).order)) is_rib
              (subst (In (stable_path case.net e v (states v))) (wide_same lists e v)
              (left_lists.stable_remains case.net states (wide lists e) e (e_in lists within) v b)))
        ]

    round_keeps : (lists : List (List PathNo)) → IsIn lists → IsIn (one_round case lists)
    round_keeps lists within v here =
        subst (In (ribs v)) (sym (at_round case lists v here))
        (in_filtered (is_one_of (may_be case lists v)) (ribs v) (list_at lists v) (in_one_of (ribs v) (may_be case lists v) (may lists within v here)) (within v here))

    halt_in : (lists : List (List PathNo)) → IsIn lists → IsIn (halt_within case lists)
    halt_in lists within = halt_has case IsIn round_keeps (total_in case lists) lists within

    only_in : (lists : List (List PathNo)) → length lists ≡ nodes → IsIn lists → (v : ℕ) → IsIn (with_only lists v (ribs v))
    only_in lists long within v w here =
        elim (cases_eq w v) [
          | inl e ↦ subst (λ z. In (ribs z) (list_at (with_only lists v (ribs v)) z)) (sym e)
              (subst (In (ribs v)) (sym (only_there lists v (ribs v) (omega arith))) (inl refl))
          | inr apart ↦ subst (In (ribs w)) (sym (only_else lists v (ribs v) w apart)) (within w here)
        ]

  -- ---- shapes of lists

  pub halt_long : (lists : List (List PathNo)) → length lists ≡ nodes → length (halt_within case lists) ≡ nodes
  halt_long lists long = halt_has case (λ ls. length ls ≡ nodes) (λ ls l. round_long case ls) (total_in case lists) lists long

  pub halt_few : (lists : List (List PathNo)) → total_in case (halt_within case lists) ≤ total_in case lists
  halt_few lists =
      halt_has case (λ ls. total_in case ls ≤ total_in case lists) (λ ls few. let more = takes_none_more case ls in omega arith) (total_in case lists) lists (omega arith)

  halt_paths : (lists : List (List PathNo)) (v : ℕ) (q : PathNo) → In q (list_at (halt_within case lists) v) → In q (list_at lists v)
  halt_paths lists =
      halt_has case (λ ls. (v : ℕ) (q : PathNo) → In q (list_at ls v) → In q (list_at lists v)) (λ ls more v q i. more v q (round_in case ls v q i))
      (total_in case lists) lists (λ v q i. i)

  -- a split leaves fewer paths
  pub split_few : (lists : List (List PathNo)) → length lists ≡ nodes → (v : ℕ) → first_choice case lists ≡ Some v → (q : PathNo) → total_in case (with_only lists v q) < total_in case lists
  split_few lists long v first q =
      let found = in_find (has_choice (list_at lists)) v routers first in
      let choice = ltb-true 1 (length (list_at lists v)) found.0 in
      let here = in_range v 0 nodes found.1 in
      let same = total_same (list_at (with_only lists v q)) (only_at (list_at lists) v q) routers (λ w i. only_is lists v q (omega arith) w) in
      let less = total_less (only_at (list_at lists) v q) (list_at lists) (only_short (list_at lists) v q choice) v (only_shorter (list_at lists) v q choice) routers found.1 in
      omega arith

  pub choice_here : (lists : List (List PathNo)) (v : ℕ) → first_choice case lists ≡ Some v → v < nodes
  choice_here lists v first = let here = in_range v 0 nodes (in_find (has_choice (list_at lists)) v routers first).1 in omega arith

  no_choice : (lists : List (List PathNo)) → first_choice case lists ≡ None → (v : ℕ) → v < nodes → nat_lt 1 (length (list_at lists v)) ≡ false
  no_choice lists none v here = none_found (has_choice (list_at lists)) v routers none (router_in v here)

  first_at : (lists : List (List PathNo)) (v : ℕ) → v < nodes → rib_at (first_paths case lists) v ≡ first_of (list_at lists) v
  first_at lists v here = get_or-map-range_with_len (first_of (list_at lists)) 0 nodes v v empty_path here (omega arith)

  -- ---- each stable assignment is met

  module _ (ribs : ℕ → PathNo) (stable : IsStableAssignment case.net states ribs) where
    met_none : (met : List (List PathNo) → List Meeting) (lists : List (List PathNo)) → IsIn ribs stable lists → first_choice case lists ≡ None
        → In (Found (map ribs routers)) (met_at met case lists None)
    met_none met lists within none =
        let any : have_all case lists ≡ true = all_from (has_any (list_at lists)) routers
        (λ v i. let r = in_range v 0 nodes i in some_there (list_at lists v) (ribs v) (within v (omega arith))) in
        let same : map ribs routers ≡ first_paths case lists = map_same ribs (first_of (list_at lists)) routers
        (λ v i. let r = in_range v 0 nodes i in
        let here : v < nodes = omega arith in
        sym (alone (list_at lists v) (ribs v) (no_choice lists none v here) (within v here))) in
        rw any (inl (ap Found same))

    module _ (n : ℕ) (more : (lists : List (List PathNo)) → length lists ≡ nodes → total_in case lists < n → IsIn ribs stable lists → In (Found (map ribs routers)) (met_within case n lists)) where
      met_halt : (lists : List (List PathNo)) → length lists ≡ nodes → total_in case lists ≤ n → IsIn ribs stable lists → (o : Option ℕ) → first_choice case lists ≡ o
          → In (Found (map ribs routers)) (met_at (met_within case n) case lists o)
      met_halt lists long few within None none = met_none (met_within case n) lists within none
      met_halt lists long few within (Some v) first =
          let fewer = split_few lists long v first (ribs v) in
          inr (in_flat_mapped (λ q. met_within case n (with_only lists v q)) (ribs v) (Found (map ribs routers)) (list_at lists v)
          (more (with_only lists v (ribs v)) (only_long lists v (ribs v) ∙ long) (omega arith) (only_in ribs stable lists long within v))
          (within v (choice_here lists v first)))

    pub met : (n : ℕ) (lists : List (List PathNo)) → length lists ≡ nodes → total_in case lists < n → IsIn ribs stable lists
        → In (Found (map ribs routers)) (met_within case n lists)
    met zero lists long few within = absurd (omega arith)
    met (suc n) lists long few within =
        let fewer = halt_few lists in
        met_halt n (met n) (halt_within case lists) (halt_long lists long) (omega arith) (halt_in ribs stable lists within) (first_choice case (halt_within case lists)) refl

  -- ---- what is met is stable

  -- an assignment with a path for each router out of these lists, that is stable
  pub record IsWithin (lists : List (List PathNo)) (r : List PathNo) : Type 0 where
    pub long : length r ≡ nodes
    pub stable : IsStableAssignment case.net states (rib_at r)
    pub there : (v : ℕ) → v < nodes → In (rib_at r v) (list_at lists v)

  module _ (lists : List (List PathNo)) (halted : loses_none case lists ≡ true) (none : first_choice case lists ≡ None) (any : have_all case lists ≡ true) where
    abbrev ribs : ℕ → PathNo
    ribs = first_of (list_at lists)

    first_there : (v : ℕ) → v < nodes → In (ribs v) (list_at lists v)
    first_there v here = first_in (list_at lists v) (all_in (has_any (list_at lists)) v routers any (router_in v here))

    some : (w : ℕ) → (p : PathNo) × In p (wide lists (λ x. empty_path) w)
    some w =
        elim (cases_Bool (nat_lt w nodes)) [
          | inl b ↦ (let both : (p : PathNo) × In p (list_at lists w) = (ribs w, first_there w (ltb-true w nodes b)) in rw b both)
          | inr b ↦ (let both : (p : PathNo) × In p (empty_path ∷ []) = (empty_path, inl refl) in rw b both)
        ]

    first_stable : (v : ℕ) → v < nodes → ribs v ≡ stable_path case.net (rib_at (first_paths case lists)) v (states v)
    first_stable v here =
        let among : In (ribs v) (may_be case lists v) = one_in case.net states (may_be case lists v) (ribs v) (all_kept_in case lists halted v here (ribs v) (first_there v here)) in
        elim (cases_Bool (v == 0)) [
          | inl b ↦ (
              let one : In (ribs v) (origin_path ∷ []) = rw b at among in
              let first : ribs v ≡ origin_path = elim one [ inl e ↦ e | inr never ↦ absurd never ] in
              first ∙ rw b refl)
          | inr b ↦ (
              let there : In (ribs v) (remaining case.net states (list_at lists) v [] (states v).order) = rw b at among in
              let best = exact.is_best case.net is.net states (λ w. standing_own case is w) (λ w. standing_once case is w) (wide lists (λ x. empty_path)) some v b (ribs v)
              (subst (In (ribs v)) (sym (wide_same lists (λ x. empty_path) v)) there) in
              best.best ∙ stable_agree case.net v (states v) best.ribs (rib_at (first_paths case lists)) (λ w low.
              let inside : In (best.ribs w) (list_at lists w) = rw (lt-ltb w nodes low) at (best.within w) in
              sym (alone (list_at lists w) (best.ribs w) (no_choice lists none w low) inside) ∙ sym (first_at lists w low)))
        ]

    settled : IsWithin lists (first_paths case lists)
    settled = record {
      long = length-map-range_with_len (first_of (list_at lists)) 0 nodes;
      stable = λ v here. first_at lists v here ∙ first_stable v here;
      there = λ v here. subst (λ q. In q (list_at lists v)) (sym (first_at lists v here)) (first_there v here);
    }

  wider : (less lists : List (List PathNo)) → ((v : ℕ) (q : PathNo) → In q (list_at less v) → In q (list_at lists v)) → (r : List PathNo) → IsWithin less r → IsWithin lists r
  wider less lists among r within = record { long = within.long; stable = within.stable; there = λ v here. among v (rib_at r v) (within.there v here) }

  module _ (n : ℕ) (more : (lists : List (List PathNo)) → length lists ≡ nodes → (r : List PathNo) → In (Found r) (met_within case n lists) → IsWithin lists r) where
    -- one of the paths that were tried
    tried : (lists : List (List PathNo)) → length lists ≡ nodes → (v : ℕ) → v < nodes → (qs : List PathNo) (r : List PathNo)
        → In (Found r) (flat_map (λ q. met_within case n (with_only lists v q)) qs) → (q : PathNo) × In q qs × IsWithin (with_only lists v q) r × (rib_at r v ≡ q)
    tried lists long v here qs r i =
        let found = in_flat_map (λ q. met_within case n (with_only lists v q)) (Found r) qs i in
        let within = more (with_only lists v found.0) (only_long lists v found.0 ∙ long) r found.1 in
        let one : In (rib_at r v) (found.0 ∷ []) = subst (In (rib_at r v)) (only_there lists v found.0 (omega arith)) (within.there v here) in
        (found.0, found.2, within, elim one [ inl e ↦ e | inr never ↦ absurd never ])

    halt_good : (lists : List (List PathNo)) → length lists ≡ nodes → loses_none case lists ≡ true → (o : Option ℕ) → first_choice case lists ≡ o → (r : List PathNo)
        → In (Found r) (met_at (met_within case n) case lists o) → IsWithin lists r
    halt_good lists long halted None none r i =
        elim (cases_Bool (have_all case lists)) [
          | inr b ↦ (let no : In (Found r) [] = rw b at i in absurd no)
          | inl b ↦ (
              let one : In (Found r) (Found (first_paths case lists) ∷ []) = rw b at i in
              elim one [
                | inl e ↦ subst (IsWithin lists) (sym (found_name r (first_paths case lists) e)) (settled lists halted none b)
                | inr never ↦ absurd never
              ])
        ]
    halt_good lists long halted (Some v) first r (inl e) = absurd (cc)
    halt_good lists long halted (Some v) first r (inr k) =
        let here = choice_here lists v first in
        let t = tried lists long v here (list_at lists v) r k in
        wider (with_only lists v t.0) lists (only_among lists v (omega arith) t.0 t.1) r t.2

  pub good : (n : ℕ) (lists : List (List PathNo)) → length lists ≡ nodes → (r : List PathNo) → In (Found r) (met_within case n lists) → IsWithin lists r
  good zero lists long r i = absurd i
  good (suc n) lists long r i =
      wider (halt_within case lists) lists (halt_paths lists) r
      (halt_good n (good n) (halt_within case lists) (halt_long lists long) (halt_keeps case lists) (first_choice case (halt_within case lists)) refl r i)

  -- ---- nothing is met twice

  -- each gives some router another path than each behind it
  abbrev pub AreApart : List Meeting → Type 0
  AreApart [] = Unit {0}
  AreApart (Split ∷ met) = AreApart met
  AreApart (Found r ∷ met) = ((s : List PathNo) → In (Found s) met → Differ nodes (rib_at r) (rib_at s)) × AreApart met

  apart_join : (one two : List Meeting) → AreApart one → AreApart two
      → ((r s : List PathNo) → In (Found r) one → In (Found s) two → Differ nodes (rib_at r) (rib_at s)) → AreApart (one ++ two)
  apart_join [] two a b between = b
  apart_join (Split ∷ one) two a b between = apart_join one two a b (λ r s i k. between r s (inr i) k)
  apart_join (Found r ∷ one) two a b between = (
    (λ s i. elim (in_append (Found s) one two i) [ inl k ↦ a.0 s k | inr k ↦ between r s (inl refl) k ]),
    apart_join one two a.1 b (λ x s i k. between x s (inr i) k),
  )

  module _ (n : ℕ) (more : (lists : List (List PathNo)) → length lists ≡ nodes → ((v : ℕ) → v < nodes → AreOnce (list_at lists v)) → AreApart (met_within case n lists)) where
    apart_each : (lists : List (List PathNo)) → length lists ≡ nodes → ((v : ℕ) → v < nodes → AreOnce (list_at lists v)) → (v : ℕ) → v < nodes → (qs : List PathNo) → AreOnce qs
        → AreApart (flat_map (λ q. met_within case n (with_only lists v q)) qs)
    apart_each lists long once v here [] each = tt
    apart_each lists long once v here (q ∷ qs) each =
        apart_join (met_within case n (with_only lists v q)) (flat_map (λ p. met_within case n (with_only lists v p)) qs)
        (more (with_only lists v q) (only_long lists v q ∙ long) only_once)
        (apart_each lists long once v here qs each.1)
        (λ r s i k.
        let mine = tried n (good n) lists long v here (q ∷ []) r (in_left (Found r) (met_within case n (with_only lists v q)) [] i) in
        let is_q : rib_at r v ≡ q = mine.3 ∙ (elim mine.1 [ inl e ↦ e | inr never ↦ absurd never ]) in
        let others = tried n (good n) lists long v here qs s k in
        (v, here, λ same. not_again case.net states q qs each.0 (subst (λ z. In z qs) (sym others.3 ∙ (sym same ∙ is_q)) others.1))) where
          only_once : (w : ℕ) → w < nodes → AreOnce (list_at (with_only lists v q) w)
          only_once w low =
              elim (cases_eq w v) [
                | inl e ↦ subst AreOnce (sym (ap (list_at (with_only lists v q)) e ∙ only_there lists v q (omega arith))) (refl, tt)
                | inr apart ↦ subst AreOnce (sym (only_else lists v q w apart)) (once w low)
              ]

    apart_halt : (lists : List (List PathNo)) → length lists ≡ nodes → ((v : ℕ) → v < nodes → AreOnce (list_at lists v)) → (o : Option ℕ) → first_choice case lists ≡ o
        → AreApart (met_at (met_within case n) case lists o)
    apart_halt lists long once None none =
        elim (cases_Bool (have_all case lists)) [ inl b ↦ rw b ((λ s i. absurd i), tt) | inr b ↦ rw b tt ]
    apart_halt lists long once (Some v) first =
        let here = choice_here lists v first in
        apart_each lists long once v here (list_at lists v) (once v here)

  round_once : (lists : List (List PathNo)) → ((v : ℕ) → v < nodes → AreOnce (list_at lists v)) → (v : ℕ) → v < nodes → AreOnce (list_at (one_round case lists) v)
  round_once lists once v here =
      subst AreOnce (sym (at_round case lists v here)) (once_filter case.net states (is_one_of (may_be case lists v)) (list_at lists v) (once v here))

  pub apart : (n : ℕ) (lists : List (List PathNo)) → length lists ≡ nodes → ((v : ℕ) → v < nodes → AreOnce (list_at lists v)) → AreApart (met_within case n lists)
  apart zero lists long once = tt
  apart (suc n) lists long once =
      apart_halt n (apart n) (halt_within case lists) (halt_long lists long)
      (halt_has case (λ ls. (v : ℕ) → v < nodes → AreOnce (list_at ls v)) round_once (total_in case lists) lists once) (first_choice case (halt_within case lists)) refl

  -- and of those found within so many splits
  found_apart : (splits : ℕ) (met : List Meeting) → AreApart met → (j k : ℕ) → j < k → k < length (found_in splits met)
      → Differ nodes (rib_at (get_or (found_in splits met) j [])) (rib_at (get_or (found_in splits met) k []))
  found_apart splits [] a j k before here = absurd (omega arith)
  found_apart zero (Split ∷ met) a j k before here = absurd (omega arith)
  found_apart (suc splits) (Split ∷ met) a j k before here = found_apart splits met a j k before here
  found_apart splits (Found r ∷ met) a j zero before here = absurd (omega arith)
  found_apart splits (Found r ∷ met) a zero (suc k) before here =
      let s = get_or (found_in splits met) k [] in
      a.0 s (found_from splits met s (in_get_or (found_in splits met) k [] (omega arith)))
  found_apart splits (Found r ∷ met) a (suc j) (suc k) before here = found_apart splits met a.1 j k (omega arith) (omega arith)

  -- ---- of a whole case

  root_long : length (eliminated case) ≡ nodes
  root_long = length-map-range_with_len (left_in case (rounds_of case)) 0 nodes

  root_at : (v : ℕ) → v < nodes → list_at (eliminated case) v ≡ left_in case (rounds_of case) v
  root_at v here = get_or-map-range_with_len (left_in case (rounds_of case)) 0 nodes v v [] here (omega arith)

  pub root_lists : AreLists case (eliminated case)
  root_lists = record {
    long = root_long;
    paths = λ v. elim (cases_lt v nodes) [
      | inl low ↦ subst (All (IsPath case.net)) (sym (root_at v low)) (left_paths case is (rounds_of case) v)
      | inr high ↦ (
          let past : list_at (eliminated case) v ≡ [] = get_or_past (eliminated case) v [] (let l = root_long in omega arith) in
          subst (All (IsPath case.net)) (sym past) (λ k d within. absurd (omega arith)))
    ];
  }

  found_good : (splits : ℕ) (r : List PathNo) → In r (found_in splits (meetings case)) → IsWithin (eliminated case) r
  unfolding meetings
  found_good splits r i = good (suc (total_in case (eliminated case))) (eliminated case) root_long r (found_from splits (meetings case) r i)

  pub lists_stable : (splits : ℕ) → All (λ r. IsStableAssignment case.net states (rib_at r)) (found_in splits (meetings case))
  lists_stable splits =
      all_from_in (λ r. IsStableAssignment case.net states (rib_at r)) (found_in splits (meetings case)) (λ r i. (found_good splits r i).stable)

  pub lists_long : (splits : ℕ) → All (λ r. length r ≡ nodes) (found_in splits (meetings case))
  lists_long splits = all_from_in (λ r. length r ≡ nodes) (found_in splits (meetings case)) (λ r i. (found_good splits r i).long)

  pub lists_paths : (splits : ℕ) → All (All (IsPath case.net)) (found_in splits (meetings case))
  lists_paths splits =
      all_from_in (All (IsPath case.net)) (found_in splits (meetings case)) (λ r i.
      let within = found_good splits r i in λ k d low.
      let l = within.long in
      let here : rib_at r k ≡ get_or r k d = same_default r k empty_path d low in
      subst (IsPath case.net) here (in_from_all (IsPath case.net) (list_at (eliminated case) k) (root_lists.paths k) (rib_at r k) (within.there k (omega arith)))) where
        same_default : (xs : List PathNo) (k : ℕ) (c d : PathNo) → k < length xs → get_or xs k c ≡ get_or xs k d
        same_default [] k c d low = absurd (omega arith)
        same_default (x ∷ xs) zero c d low = refl
        same_default (x ∷ xs) (suc k) c d low = same_default xs k c d (omega arith)

  pub lists_once : (splits : ℕ) (j k : ℕ) → j < k → k < length (found_in splits (meetings case))
      → Differ nodes (rib_at (get_or (found_in splits (meetings case)) j [])) (rib_at (get_or (found_in splits (meetings case)) k []))
  unfolding meetings
  lists_once splits = found_apart splits (meetings case)
      (apart (suc (total_in case (eliminated case))) (eliminated case) root_long
      (λ v here. subst AreOnce (sym (root_at v here)) (exact.left_once case is (rounds_of case) v)))

  pub lists_all : (splits : ℕ) → nat_le (splits_in (meetings case)) splits ≡ true → (ribs : ℕ → PathNo) → IsStableAssignment case.net states ribs
      → (k : ℕ) × (k < length (found_in splits (meetings case))) × ((v : ℕ) → v < nodes → rib_at (get_or (found_in splits (meetings case)) k []) v ≡ ribs v)
  unfolding meetings
  lists_all splits enough ribs stable =
      let e = everywhere case.net states ribs in
      let n = rounds_of case in
      let root = met ribs stable (suc (total_in case (eliminated case))) (eliminated case) root_long (omega arith)
      (λ v here. subst (In (ribs v)) (sym (root_at v here)) (subst (λ q. In q (left_in case n v)) (everywhere_is case.net states ribs v here)
      (left_lists.may_left case.net states n v (e v) (stable_stays case.net states e (stable_everywhere case.net states ribs stable) (suc n) v)))) in
      let there = found_all splits (meetings case) (leb-true (splits_in (meetings case)) splits enough) (map ribs routers) root in
      let p = place (map ribs routers) (found_in splits (meetings case)) there in
      (p.0, p.1, λ v here. ap (λ r. rib_at r v) (p.2 []) ∙ get_or-map-range_with_len ribs 0 nodes v v empty_path here (omega arith))
