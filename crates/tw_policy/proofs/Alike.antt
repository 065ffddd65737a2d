-- What elimination leaves doesn't depend on the delays.
use Rattle.std.specs.List.{list_all}
use Rattle.tw_model.specs.declared.state.Row.{Row}
use Rattle.tw_policy.specs.Left.{allows, covers, follows, is_covered, is_given, left_after, remaining}
use Rattle.tw_policy.specs.Stable.{IsStableAssignment}
use Rattle.std.proofs.Common.{arith, ◌≡◌, ℕ, suc, zero, ◌+◌, ◌<◌, ◌==◌, Bool, true, false, not, ◌&&◌, ◌||◌, List, [], ◌∷◌, ◌++◌, map, filter, get_or, set, Some, None, refl, ap, sym, ◌∙◌, subst, inl, inr, if◌then◌else◌}
use Rattle.std.specs.List.{filter_map, find, list_all, list_any, position_or_len, zip}
use Rattle.std.proofs.lemmas.Bool.{cases_Bool}
use Rattle.tw_event.specs.declared.event.Body.{Body}
use Rattle.tw_event.specs.declared.event.Body.TheVariants.{Start, Fail, Restore, Swap, Forbid, Allow, Update}
use Rattle.tw_event.specs.declared.event.Event.{Event}
use Rattle.tw_event.specs.declared.event.PathNo.{PathNo}
use Rattle.tw_model.specs.declared.net.Hop.{Hop}
use Rattle.tw_model.specs.declared.net.Link.{Link}
use Rattle.tw_model.specs.Net.{Net, empty_path, hop_to, hops_of, joins, origin_path, path, paths_of, same_path}
use Rattle.tw_model.specs.PermittedPath.{PermittedPath}
use Rattle.tw_model.specs.State.{State, bars, fresh_row, opening, slot}
use Rattle.tw_model.specs.Case.{Case, IsCase, opening_events}
use Rattle.tw_model.specs.Quiet.{stable_path}
use Rattle.tw_event.specs.Order.{event_cmp}
use Rattle.std.specs.Ordering.{is_lt}
use Rattle.tw_sim.specs.Ordered as ordered
use Rattle.std.proofs.lemmas.List.Elements.{filter_agree}
use Rattle.tw_sim.proofs.Members.{any_from_in, find_agree, in_find}
use Rattle.tw_policy.specs.Alike.{AreAlike, AreAlikeNets, ends_of}
use Rattle.tw_policy.specs.Elimination.{IsSolvedIn, MayUse}
use Rattle.tw_policy.specs.Standing.{script_of, standing}
use Rattle.tw_policy.proofs.Stand.{Stand, allowed, is_scripted, leads_to, scripted_in, stable_by, stable_is, stand, stand_after, stand_along, stands_along}
use Rattle.tw_policy.proofs.Standing.{in_script}
use Rattle.tw_policy.proofs.Lists.{any_agree}

-- ---- neighbours, their delays aside

-- the numbers of the neighbours of v
abbrev peers : Net → ℕ → List ℕ
peers net v = map (λ h. h.peer) (hops_of net v)

any_joins : (v w : ℕ) (ls : List Link) → list_any (joins v w) ls ≡ list_any (λ e. (e.0 == v && e.1 == w) || (e.0 == w && e.1 == v)) (map ends_of ls)
any_joins v w [] = refl
any_joins v w (l ∷ ls) = ap (λ b. joins v w l || b) (any_joins v w ls)

none_any : {X : Type 0} (test : X → Bool) (xs : List X) → find test xs ≡ None → list_any test xs ≡ false
none_any test [] none = refl
none_any test (x ∷ xs) none =
    elim (cases_Bool (test x)) [
      | inl b ↦ (let some : Some x ≡ None = rw b at none in absurd (cc))
      | inr b ↦ rw b (none_any test xs (rw b at none))
    ]

some_any : {X : Type 0} (test : X → Bool) (xs : List X) (x : X) → find test xs ≡ Some x → list_any test xs ≡ true
some_any test xs x found = let r = in_find test x xs found in any_from_in test x xs r.0 r.1

-- w is a neighbour where a link joins the two
peers_linked : (links : List Link) (v : ℕ) (ws : List ℕ) → map (λ h. h.peer) (filter_map (hop_to links v) ws) ≡ filter (λ w. list_any (joins v w) links) ws
peers_linked links v [] = refl
peers_linked links v (w ∷ ws) = grind (arith, filter, none_any, some_any, peers_linked links v ws)

place_of_peer : (w : ℕ) (hs : List Hop) → position_or_len (λ h. h.peer == w) hs ≡ position_or_len (λ x. x == w) (map (λ h. h.peer) hs)
place_of_peer w [] = refl
place_of_peer w (h ∷ hs) = elim (cases_Bool (h.peer == w)) [ inl b ↦ rw b refl | inr b ↦ rw b (ap (λ k. 1 + k) (place_of_peer w hs)) ]

-- whether the neighbour, whose link is up, has a path that v followed by it is q
abbrev by_peer : Net → ℕ → (ℕ → PathNo) → PathNo → ℕ × Bool → Bool
by_peer net v ribs q p = p.1 && (not ((ribs p.0).0 == 0) && same_path (path net q) (v ∷ path net (ribs p.0)))

any_peers : (net : Net) (v : ℕ) (ribs : ℕ → PathNo) (q : PathNo) (hs : List Hop) (us : List Bool)
    → list_any (leads_to net v ribs q) (zip hs us) ≡ list_any (by_peer net v ribs q) (zip (map (λ h. h.peer) hs) us)
any_peers net v ribs q [] us = refl
any_peers net v ribs q (h ∷ hs) [] = refl
any_peers net v ribs q (h ∷ hs) (u ∷ us) = ap (λ b. leads_to net v ribs q (h, u) || b) (any_peers net v ribs q hs us)

module _ (one two : Net) (alike : AreAlikeNets one two) where
  peers_same : (v : ℕ) → peers one v ≡ peers two v
  unfolding hops_of
  peers_same v = grind (arith, any_joins, peers_linked, filter_agree, filter)

  pub path_same : (q : PathNo) → path one q ≡ path two q
  unfolding path
  path_same q = ap (λ ps. get_or ([] ∷ (0 ∷ []) ∷ map (λ (p : PermittedPath). p.nodes) ps) q.0 []) alike.permitted

  pub paths_of_same : (v : ℕ) → paths_of one v ≡ paths_of two v
  unfolding paths_of
  paths_of_same v = grind arith

  bars_same : (v : ℕ) (barred : List Bool) (q : PathNo) → bars one v barred q ≡ bars two v barred q
  bars_same v barred q = ap (λ ps. get_or barred (position_or_len (λ p. p.0 == q.0) ps) false) (paths_of_same v)

  slot_same : (v w : ℕ) → slot one v w ≡ slot two v w
  slot_same v w =
      place_of_peer w (hops_of one v) ∙ (ap (position_or_len (λ x. x == w)) (peers_same v) ∙ sym (place_of_peer w (hops_of two v)))

  -- ---- how a router stands

  stand_after_same : (v : ℕ) (b : Body) (z : Stand) → stand_after one v b z ≡ stand_after two v b z
  stand_after_same v Start z = refl
  stand_after_same v (Fail w) z = ap (λ k. if get_or z.ups k true then record z { ups = set z.ups k false } else z) (slot_same v w)
  stand_after_same v (Restore w) z = ap (λ k. if get_or z.ups k true then z else record z { ups = set z.ups k true }) (slot_same v w)
  stand_after_same v (Swap i j) z = refl
  stand_after_same v (Forbid k) z = refl
  stand_after_same v (Allow k) z = refl
  stand_after_same v (Update q n) z = refl

  opening_same : (v : ℕ) → stand (opening one v) ≡ stand (opening two v)
  opening_same v =
      ap (λ ps. stand_of ps (map (λ r. r.up) (map fresh_row (hops_of one v)))) (paths_of_same v)
      ∙ ap (stand_of (paths_of two v)) (all_up (hops_of one v) ∙ (ap (map (λ x. true)) (peers_same v) ∙ sym (all_up (hops_of two v)))) where
        stand_of : List PathNo → List Bool → Stand
        stand_of ps us = record { order = ps; barred = map (λ q. false) ps; ups = us }

        all_up : (hs : List Hop) → map (λ r. r.up) (map fresh_row hs) ≡ map (λ (x : ℕ). true) (map (λ h. h.peer) hs)
        all_up [] = refl
        all_up (h ∷ hs) = ap (λ us. true ∷ us) (all_up hs)

  -- ---- what is stable

  by_peer_same : (v : ℕ) (ribs : ℕ → PathNo) (q : PathNo) (p : ℕ × Bool) → by_peer one v ribs q p ≡ by_peer two v ribs q p
  by_peer_same v ribs q p = rw (path_same q, path_same (ribs p.0)) refl

  allowed_same : (v : ℕ) (ribs : ℕ → PathNo) (z : Stand) (q : PathNo) → allowed one v ribs z q ≡ allowed two v ribs z q
  allowed_same v ribs z q = grind (arith, leads_to, any_peers, any_agree, by_peer_same, peers_same, not, bars_same)

  stable_by_same : (v : ℕ) (ribs : ℕ → PathNo) (z : Stand) → stable_by one v ribs z ≡ stable_by two v ribs z
  unfolding stable_by
  stable_by_same v ribs z = grind (arith, find_agree, allowed, allowed_same)

-- ---- elimination by the numbers of neighbours, and whether their links are up

abbrev neighbours : Net → (ℕ → State) → ℕ → List (ℕ × Bool)
neighbours net states v = zip (peers net v) (map (λ r. r.up) (states v).rows)

any_rows : (test : ℕ → Bool) (hs : List Hop) (rs : List Row) → list_any (λ p. p.1.up && test p.0.peer) (zip hs rs) ≡ list_any (λ p. p.1 && test p.0) (zip (map (λ h. h.peer) hs) (map (λ r. r.up) rs))
any_rows test [] rs = refl
any_rows test (h ∷ hs) [] = refl
any_rows test (h ∷ hs) (r ∷ rs) = ap (λ b. (r.up && test h.peer) || b) (any_rows test hs rs)

abbrev given_by : (PathNo → PathNo → Bool) → List (ℕ × Bool) → (ℕ → List PathNo) → PathNo → Bool
given_by a ps left q = list_any (λ p. p.1 && list_any (a q) (left p.0)) ps

abbrev covered_by : (PathNo → PathNo → Bool) → List (ℕ × Bool) → (ℕ → List PathNo) → List PathNo → Bool
covered_by a ps left better = list_any (λ p. p.1 && list_all (λ r. list_any (λ y. a y r) better) (left p.0)) ps

abbrev remaining_by : (PathNo → PathNo → Bool) → List (ℕ × Bool) → (ℕ → List PathNo) → List PathNo → List PathNo → List PathNo
remaining_by a ps left better [] = if covered_by a ps left better then [] else empty_path ∷ []
remaining_by a ps left better (q ∷ order) =
    if given_by a ps left q && not (covered_by a ps left better)
    then q ∷ remaining_by a ps left (better ++ q ∷ []) order
    else remaining_by a ps left (better ++ q ∷ []) order

remaining_is : (net : Net) (states : ℕ → State) (left : ℕ → List PathNo) (v : ℕ) (better order : List PathNo)
    → remaining net states left v better order ≡ remaining_by (allows net states v) (neighbours net states v) left better order
remaining_is net states left v better [] =
    ap (λ b. if b then [] else empty_path ∷ []) (any_rows (λ w. covers net states left v better w) (hops_of net v) (states v).rows)
remaining_is net states left v better (q ∷ order) =
    let more = remaining_is net states left v (better ++ q ∷ []) order in
    let given = any_rows (λ w. list_any (allows net states v q) (left w)) (hops_of net v) (states v).rows in
    let covered = any_rows (λ w. covers net states left v better w) (hops_of net v) (states v).rows in
    let a = allows net states v in
    let ps = neighbours net states v in
    ap (λ xs. if is_given net states left v q && not (is_covered net states left v better) then q ∷ xs else xs) more
    ∙ (ap (λ b. if b && not (is_covered net states left v better) then q ∷ remaining_by a ps left (better ++ q ∷ []) order else remaining_by a ps left (better ++ q ∷ []) order) given
    ∙ ap (λ b. if given_by a ps left q && not b then q ∷ remaining_by a ps left (better ++ q ∷ []) order else remaining_by a ps left (better ++ q ∷ []) order) covered)

-- ---- cases that differ in their delays

module _ (case other : Case) (is : IsCase case) (other_is : IsCase other) (alike : AreAlike case other) where
  stand_along_same : (v : ℕ) (h : List Event) → stand_along case is v h ≡ stand_along other other_is v h
  stand_along_same v [] = opening_same case.net other.net alike.nets v
  stand_along_same v (e ∷ h) = grind (arith, stand_after_same, stand_along, stand_after, stand_along_same v h)

  standing_same : (v : ℕ) → stand (standing case v) ≡ stand (standing other v)
  standing_same v =
      let script : script_of case v ≡ script_of other v
      = ap (λ scenes. ordered.insert_all (λ x y. is_lt (event_cmp y x)) (filter (λ e. e.dst == v) (opening_events scenes)) []) alike.scenes in
      stands_along case is v (script_of case v) (λ e i. (in_script case is v e i).0)
      ∙ (ap (λ h. stand_along case is v (filter (λ e. is_scripted e.body) h)) script
      ∙ (stand_along_same v (scripted_in other other_is v (script_of other v))
      ∙ sym (stands_along other other_is v (script_of other v) (λ e i. (in_script other other_is v e i).0))))

  stable_same : (ribs : ℕ → PathNo) (v : ℕ) → stable_path case.net ribs v (standing case v) ≡ stable_path other.net ribs v (standing other v)
  stable_same ribs v = grind (arith, stable_is, stable_by, standing_same, stable_by_same, stand)

  pub may_same : (n v : ℕ) (q : PathNo) → MayUse other.net (standing other) n v q → MayUse case.net (standing case) n v q
  may_same zero v q may = tt
  may_same (suc n) v q may = (may.0, (λ w. may_same n w (may.0 w) (may.1 w)), may.2 ∙ sym (stable_same may.0 v))

  pub solved_alike : (n : ℕ) → IsSolvedIn case.net (standing case) n → IsSolvedIn other.net (standing other) n
  solved_alike n solved v here p q first second =
      solved v (subst (λ k. v < k) (sym alike.nets.nodes) here) p q (may_same n v p first) (may_same n v q second)

  -- the same assignments are stable
  pub stable_alike : (ribs : ℕ → PathNo) → IsStableAssignment case.net (standing case) ribs → IsStableAssignment other.net (standing other) ribs
  stable_alike ribs stable v here = stable v (subst (λ k. v < k) (sym alike.nets.nodes) here) ∙ stable_same ribs v

  -- ---- the lists are the same

  allows_same : (v : ℕ) → allows case.net (standing case) v ≡ allows other.net (standing other) v
  allows_same v = λ i q r. at q r i where
    at : (q r : PathNo) → allows case.net (standing case) v q r ≡ allows other.net (standing other) v q r
    at q r =
        ap (λ b. not b && follows case.net (standing case) v q r)
        (bars_same case.net other.net alike.nets v (standing case v).barred q ∙ ap (λ z. bars other.net v z.barred q) (standing_same v))
        ∙ ap (λ b. not (bars other.net v (standing other v).barred q) && b) (rw (path_same case.net other.net alike.nets q, path_same case.net other.net alike.nets r) refl)

  neighbours_same : (v : ℕ) → neighbours case.net (standing case) v ≡ neighbours other.net (standing other) v
  neighbours_same v =
      ap (λ ps. zip ps (map (λ r. r.up) (standing case v).rows)) (peers_same case.net other.net alike.nets v) ∙ ap (λ z. zip (peers other.net v) z.ups) (standing_same v)

  -- and so elimination leaves the same lists
  pub left_alike : (n v : ℕ) → left_after case.net (standing case) n v ≡ left_after other.net (standing other) n v
  left_alike zero v = ap (λ z. if v == 0 then origin_path ∷ [] else z.order ++ empty_path ∷ []) (standing_same v)
  left_alike (suc n) v =
      let mine = left_after case.net (standing case) n in
      let others = left_after other.net (standing other) n in
      let left : mine ≡ others = λ i w. left_alike n w i in
      let same : remaining case.net (standing case) mine v [] (standing case v).order ≡ remaining other.net (standing other) others v [] (standing other v).order
      = remaining_is case.net (standing case) mine v [] (standing case v).order
      ∙ (ap (λ a. remaining_by a (neighbours case.net (standing case) v) mine [] (standing case v).order) (allows_same v)
      ∙ (ap (λ ps. remaining_by (allows other.net (standing other) v) ps mine [] (standing case v).order) (neighbours_same v)
      ∙ (ap (λ xs. remaining_by (allows other.net (standing other) v) (neighbours other.net (standing other) v) xs [] (standing case v).order) left
      ∙ (ap (λ z. remaining_by (allows other.net (standing other) v) (neighbours other.net (standing other) v) others [] z.order) (standing_same v)
      ∙ sym (remaining_is other.net (standing other) others v [] (standing other v).order))))) in
      ap (λ xs. if v == 0 then origin_path ∷ [] else xs) same

-- two cases are alike either way round
pub alike_back : (case other : Case) → AreAlike case other → AreAlike other case
alike_back case other alike = grind arith
