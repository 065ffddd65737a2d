-- Elimination by lists: which of its paths each router has left after each round (own).
use Rattle.std.specs.Prelude.{ℕ, suc, zero, ◌≡◌, ◌==◌, Bool, not, ◌&&◌, List, [], ◌∷◌, ◌++◌, if◌then◌else◌}
use Rattle.std.specs.List.{list_all, list_any, zip}
use Rattle.tw_event.specs.declared.event.PathNo.{PathNo}
use Rattle.tw_model.specs.Net.{Net, empty_path, hops_of, origin_path, path, same_path}
use Rattle.tw_model.specs.State.{State, bars}

module _ (net : Net) (states : ℕ → State) where
  -- whether q is v followed by r
  abbrev pub follows : ℕ → PathNo → PathNo → Bool
  follows v q r = not (r.0 == 0) && same_path (path net q) (v ∷ path net r)

  -- whether v may use q where a neighbour has r
  abbrev pub allows : ℕ → PathNo → PathNo → Bool
  allows v q r = not (bars net v (states v).barred q) && follows v q r

  -- whether each path that w has left gives v one of these
  abbrev pub covers : (ℕ → List PathNo) → ℕ → List PathNo → ℕ → Bool
  covers left v better w = list_all (λ r. list_any (λ y. allows v y r) better) (left w)

  -- whether some neighbour, whose link is up, always gives v one of these
  abbrev pub is_covered : (ℕ → List PathNo) → ℕ → List PathNo → Bool
  is_covered left v better = list_any (λ p. p.1.up && covers left v better p.0.peer) (zip (hops_of net v) (states v).rows)

  -- whether some neighbour, whose link is up, may give v the path q
  abbrev pub is_given : (ℕ → List PathNo) → ℕ → PathNo → Bool
  is_given left v q = list_any (λ p. p.1.up && list_any (allows v q) (left p.0.peer)) (zip (hops_of net v) (states v).rows)

  -- of these paths of v, that stand behind the better ones, those that may be its best; and the empty path where it may have none
  abbrev pub remaining : (ℕ → List PathNo) → ℕ → List PathNo → List PathNo → List PathNo
  remaining left v better [] = if is_covered left v better then [] else empty_path ∷ []
  remaining left v better (q ∷ order) =
      if is_given left v q && not (is_covered left v better)
      then q ∷ remaining left v (better ++ q ∷ []) order
      else remaining left v (better ++ q ∷ []) order

  -- what each router has left after one round, where they have these now
  abbrev pub round_left : (ℕ → List PathNo) → ℕ → List PathNo
  round_left left v = if v == 0 then origin_path ∷ [] else remaining left v [] (states v).order

  -- what each router has left after so many rounds
  abbrev pub left_after : ℕ → ℕ → List PathNo
  left_after zero v = if v == 0 then origin_path ∷ [] else (states v).order ++ empty_path ∷ []
  left_after (suc n) v = round_left (left_after n) v

  -- one round more changes nothing
  abbrev pub IsHalted : (ℕ → List PathNo) → Type 0
  IsHalted left = (v : ℕ) → left v ≡ round_left left v
