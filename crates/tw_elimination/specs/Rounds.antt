-- Elimination of a case, round by round, to its halt (own).
use Rattle.std.specs.Prelude.{ℕ, suc, ◌≡◌, ◌<◌, ◌==◌, Bool, true, false, List, length, map, slice_index_or}
use Rattle.std.specs.List.{find, list_all, range_with_len}
use Rattle.std.specs.Option.{unwrap_or}
use Rattle.tw_event.specs.declared.event.PathNo.{PathNo}
use Rattle.tw_model.specs.Case.{Case}
use Rattle.tw_policy.specs.Left.{left_after, round_left}
use Rattle.tw_policy.specs.Search.{total}
use Rattle.tw_policy.specs.Standing.{standing}

-- what router v has left after n rounds, by how the routers stand once the script is over
abbrev pub left_in : Case → ℕ → ℕ → List PathNo
left_in case n v = left_after case.net (standing case) n v

-- the lists of all routers after n rounds
abbrev pub AreLeft : Case → ℕ → List (List PathNo) → Type 0
AreLeft case n lists = lists ≡ map (left_in case n) (range_with_len 0 case.net.nodes)

-- one round more leaves each router that is marked the paths that it has
abbrev pub AreSettled : Case → (ℕ → List PathNo) → List Bool → Type 0
AreSettled case left settled = (v : ℕ) → v < case.net.nodes → slice_index_or settled v false ≡ true → round_left case.net (standing case) left v ≡ left v

-- whether one round more leaves each router as many paths
abbrev pub is_halted : Case → ℕ → Bool
is_halted case n = list_all (λ v. length (left_in case (suc n) v) == length (left_in case n v)) (range_with_len 0 case.net.nodes)

-- how many paths all routers have left after n rounds
abbrev pub total_left : Case → ℕ → ℕ
total_left case n = total (left_in case n) (range_with_len 0 case.net.nodes)

-- after how many rounds that is so for the first time; each round before takes a path
unfoldable pub rounds_of : Case → ℕ
rounds_of case = unwrap_or (find (is_halted case) (range_with_len 0 (suc (total_left case 0)))) 0

-- a case, and so many rounds
pub record Eliminated : Type 0 where
  pub case : Case
  pub rounds : ℕ
