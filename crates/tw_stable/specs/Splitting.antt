-- All stable assignments, by elimination and splits: where elimination comes to a halt and a router still has a choice, each of its
-- paths is tried alone, and elimination goes on within what is left (own).
use Rattle.std.specs.Prelude.{ℕ, suc, zero, ◌+◌, Bool, List, [], ◌∷◌, map, nat_le, slice_index_or, slice_set, Option, Some, None, if◌then◌else◌}
use Rattle.std.specs.List.{find, flat_map, list_all, range_with_len}
use Rattle.tw_elimination.specs.Narrowing.{halt_within, list_at, total_in}
use Rattle.tw_elimination.specs.Rounds.{left_in, rounds_of}
use Rattle.tw_event.specs.declared.event.PathNo.{PathNo}
use Rattle.tw_model.specs.Case.{Case}
use Rattle.tw_model.specs.Net.{empty_path}
use Rattle.tw_policy.specs.Search.{first_of, has_any, has_choice}

-- the path of router v in a table with a path for each router
abbrev pub rib_at : List PathNo → ℕ → PathNo
rib_at ribs v = slice_index_or ribs v empty_path

-- what is met on the way: a router's choice is split, or an assignment is found, a path for each router
pub data Meeting : Type 0 where
  Split : Meeting
  Found : List PathNo → Meeting

-- the lists with this path alone at router v
abbrev pub with_only : List (List PathNo) → ℕ → PathNo → List (List PathNo)
with_only lists v q = slice_set lists v (q ∷ [])

-- the first router that has a choice
abbrev pub first_choice : Case → List (List PathNo) → Option ℕ
first_choice case lists = find (has_choice (list_at lists)) (range_with_len 0 case.net.nodes)

-- whether each router has a path
abbrev pub have_all : Case → List (List PathNo) → Bool
have_all case lists = list_all (has_any (list_at lists)) (range_with_len 0 case.net.nodes)

-- the first path of each router
abbrev pub first_paths : Case → List (List PathNo) → List PathNo
first_paths case lists = map (first_of (list_at lists)) (range_with_len 0 case.net.nodes)

-- at a halt: the split of this router's choice, and what is met for each of its paths; or what the lists leave where none has one
abbrev pub met_at : (List (List PathNo) → List Meeting) → Case → List (List PathNo) → Option ℕ → List Meeting
met_at met case lists None = if have_all case lists then Found (first_paths case lists) ∷ [] else []
met_at met case lists (Some v) = Split ∷ flat_map (λ q. met (with_only lists v q)) (list_at lists v)

-- what is met within these lists, with so many splits one below the other
abbrev pub met_within : Case → ℕ → List (List PathNo) → List Meeting
met_within case zero lists = []
met_within case (suc n) lists = met_at (met_within case n) case (halt_within case lists) (first_choice case (halt_within case lists))

-- what elimination leaves, before any split
abbrev pub eliminated : Case → List (List PathNo)
eliminated case = map (left_in case (rounds_of case)) (range_with_len 0 case.net.nodes)

-- what is met on the way through all that elimination leaves; no more splits are one below the other than there are paths
unfoldable pub meetings : Case → List Meeting
meetings case = met_within case (suc (total_in case (eliminated case))) (eliminated case)

-- how many splits there are
abbrev pub splits_in : List Meeting → ℕ
splits_in [] = 0
splits_in (Split ∷ met) = splits_in met + 1
splits_in (Found ribs ∷ met) = splits_in met

-- the assignments that are found before more than so many splits
abbrev pub found_in : ℕ → List Meeting → List (List PathNo)
found_in splits [] = []
found_in zero (Split ∷ met) = []
found_in (suc splits) (Split ∷ met) = found_in splits met
found_in splits (Found ribs ∷ met) = ribs ∷ found_in splits met

-- the stable assignments that so many splits find
abbrev pub found_by : ℕ → Case → List (List PathNo)
found_by splits case = found_in splits (meetings case)

-- whether so many splits are enough to find all
abbrev pub are_enough : ℕ → Case → Bool
are_enough splits case = nat_le (splits_in (meetings case)) splits
