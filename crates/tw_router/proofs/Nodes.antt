-- The best path by numbers is the best path by nodes.
use Rattle.std.proofs.Common.{◌≡◌, ℕ, ◌<◌, ◌==◌, Bool, true, false, not, ◌||◌, ◌&&◌, List, [], ◌∷◌, length, map, ltb, sym, ap, ap₂, ◌∙◌, refl, arith, inl, inr}
use Rattle.std.specs.List.{All, filter, find, list_any}
use Rattle.std.specs.Option.{unwrap_or}
use Rattle.std.proofs.lemmas.Bool.{cases_Bool, eqb-false, eqb-true, lt-ltb}
use Rattle.std.proofs.lemmas.List.Elements.{All-head, All-tail}
use Rattle.tw_event.specs.declared.event.PathNo.{PathNo}
use Rattle.tw_model.specs.declared.state.Row.{Row}
use Rattle.tw_model.specs.Net.{IsPath, Net, empty_path, path, same_path}
use Rattle.tw_model.specs.Rules.{IsNet}
use Rattle.tw_model.specs.State.{IsState, Router, State, bars, best, offers}
use Rattle.tw_model.proofs.Paths.{path_empty, path_origin, path_some}
use Rattle.tw_router.specs.Nodes.{best_nodes, heard_of, is_heard_of, order_of}

some_length : (p : List ℕ) → (p ≡ [] → ⊥) → 0 < length p
some_length [] empty = absurd (empty refl)
some_length (x ∷ p) empty = omega arith

-- a number other than 0 is a path with nodes
has_nodes : (net : Net) → IsNet net → (p : PathNo) → IsPath net p → (b : Bool) → (p.0 == 0) ≡ b → not b ≡ ltb 0 (length (path net p))
has_nodes net valid p within true is =
    let none : path net p ≡ [] = ap (λ k. path net (record { 0 = k })) (eqb-true p.0 0 is) ∙ path_empty net in
    sym (ap (λ (nodes : List ℕ). ltb 0 (length nodes)) none)
has_nodes net valid p within false is =
    sym (lt-ltb 0 (length (path net p)) (some_length (path net p) (λ none. eqb-false p.0 0 is (path_some net valid p within none))))

offers-nodes : (net : Net) → IsNet net → (v : ℕ) (q : PathNo) (rows : List Row) → All (λ r. IsPath net r.heard) rows
    → is_heard_of v (map (λ r. record { up = r.up; path = path net r.heard }) rows) (path net q) ≡ list_any (offers net v q) rows
offers-nodes net valid v q [] within = refl
offers-nodes net valid v q (r ∷ rows) within =
    ap₂ (λ b rest. (r.up && (b && same_path (path net q) (v ∷ path net r.heard))) || rest)
    (sym (has_nodes net valid r.heard (All-head (λ (x : Row). IsPath net x.heard) r rows within) (r.heard.0 == 0) refl))
    (offers-nodes net valid v q rows (All-tail (λ (x : Row). IsPath net x.heard) r rows within))

-- the first path that is not barred and passes, by nodes among those that are not barred
find-nodes : (net : Net) (barred test : PathNo → Bool) (shown : List ℕ → Bool) → ((q : PathNo) → shown (path net q) ≡ test q) → (order : List PathNo)
    → path net (unwrap_or (find (λ q. not (barred q) && test q) order) empty_path) ≡ unwrap_or (find shown (map (path net) (filter (λ q. not (barred q)) order))) []
find-nodes net barred test shown same [] = path_empty net
find-nodes net barred test shown same (q ∷ order) =
    elim (cases_Bool (barred q)) [
      | inl is ↦ rw is (find-nodes net barred test shown same order)
      | inr is ↦ rw is (rw (same q) (elim (cases_Bool (test q)) [
        | inl passes ↦ rw passes refl
        | inr fails ↦ rw fails (find-nodes net barred test shown same order)
      ]))
    ]

best-nodes-at : (net : Net) → IsNet net → (v : ℕ) (s : State) → All (λ r. IsPath net r.heard) s.rows → (b : Bool) → (v == 0) ≡ b
    → path net (best net v s) ≡ best_nodes v (heard_of net s) (order_of net v s)
best-nodes-at net valid v s within true is = rw is (path_origin net)
best-nodes-at net valid v s within false is =
    rw is (find-nodes net (bars net v s.barred) (λ q. list_any (offers net v q) s.rows) (is_heard_of v (heard_of net s)) (λ q. offers-nodes net valid v q s.rows within) s.order)

-- the nodes of the best path are the best path by nodes
pub best-nodes : (router : Router) → IsNet router.net → IsState router.net router.node router.state
    → (p : PathNo) → p ≡ best router.net router.node router.state
    → path router.net p ≡ best_nodes router.node (heard_of router.net router.state) (order_of router.net router.node router.state)
best-nodes router valid state p is =
    ap (path router.net) is ∙ best-nodes-at router.net valid router.node router.state state.heard (router.node == 0) refl
