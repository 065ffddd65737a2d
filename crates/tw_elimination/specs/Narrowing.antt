-- Elimination within lists that are given, one of each router, round by round to its halt (own).
use Rattle.std.specs.Prelude.{ℕ, suc, zero, ◌≡◌, ◌==◌, Bool, List, [], length, map, slice_index_or, if◌then◌else◌}
use Rattle.std.specs.List.{All, list_all, range_with_len}
use Rattle.tw_event.specs.declared.event.PathNo.{PathNo}
use Rattle.tw_model.specs.Case.{Case}
use Rattle.tw_model.specs.Net.{IsPath}
use Rattle.tw_policy.specs.Search.{narrowed, total}
use Rattle.tw_policy.specs.Standing.{standing}

-- the list of router v
abbrev pub list_at : List (List PathNo) → ℕ → List PathNo
list_at lists v = slice_index_or lists v []

-- a list of paths for each router of the case
pub record AreLists (case : Case) (lists : List (List PathNo)) : Type 0 where
  pub long : length lists ≡ case.net.nodes
  pub paths : (v : ℕ) → All (IsPath case.net) (list_at lists v)

-- those of the paths of its list that router v may use where every neighbour uses one of its list
abbrev pub left_at : Case → List (List PathNo) → ℕ → List PathNo
left_at case lists v = narrowed case.net (standing case) (list_at lists) v

-- what is left to all routers in one round
abbrev pub one_round : Case → List (List PathNo) → List (List PathNo)
one_round case lists = map (left_at case lists) (range_with_len 0 case.net.nodes)

-- whether each router has as many paths left
abbrev pub loses_none : Case → List (List PathNo) → Bool
loses_none case lists = list_all (λ v. length (left_at case lists v) == length (list_at lists v)) (range_with_len 0 case.net.nodes)

-- what is left to them in so many rounds, or in as many as take a path
abbrev pub lists_after : Case → ℕ → List (List PathNo) → List (List PathNo)
lists_after case zero lists = lists
lists_after case (suc n) lists = if loses_none case lists then lists else lists_after case n (one_round case lists)

-- how many paths the lists have in all
abbrev pub total_in : Case → List (List PathNo) → ℕ
total_in case lists = total (list_at lists) (range_with_len 0 case.net.nodes)

-- what they keep at the halt, to which no more rounds lead than there are paths
abbrev pub halt_within : Case → List (List PathNo) → List (List PathNo)
halt_within case lists = lists_after case (total_in case lists) lists
