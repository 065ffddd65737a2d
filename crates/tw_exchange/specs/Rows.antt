-- Rows with a place for each worker (own).
use Rattle.std.specs.Prelude.{ℕ, ◌+◌, ◌<◌, ◌≤◌, ◌||◌, Bool, false, List, [], ◌∷◌, ◌++◌, Option, fold, length, map, min, nat_lt, slice_index_or, vec_capacity, vec_len}
use Rattle.std.specs.List.{list_any}
use Rattle.std.specs.Option.{option_map_or}
use Rattle.std.specs.declared.vec.Vec.{Vec}
use Rattle.tw_exchange.specs.AnyBoard.{message_times}
use Rattle.tw_exchange.specs.declared.mail.TheConstants.{NEVER}
use Rattle.tw_process.specs.Parts.{Parts}
use Rattle.tw_sim.specs.declared.machine.Signed.{Signed}

-- the items of each place
abbrev pub items : {X Z : Type 0} → List (Vec X Z) → List (List X)
items rows = map (λ row. row.items) rows

-- the least time of messages, and the end of time where there are none
abbrev pub soonest_of : {E : Type 0} → Parts E → List (Signed E) → ℕ
soonest_of parts messages = fold min NEVER (message_times parts messages)

-- the lesser of a time and of a report, if there is one
abbrev pub lesser_time : ℕ → Option ℕ → ℕ
lesser_time time report = option_map_or (λ reported. min reported time) report time

-- each list with what stands at its place among others behind it
abbrev pub behind : {X : Type 0} → List (List X) → List (List X) → List (List X)
behind [] others = []
behind (xs ∷ lists) [] = xs ∷ lists
behind (xs ∷ lists) (ys ∷ others) = (xs ++ ys) ∷ behind lists others

-- where something is at a place, there is room for what stands at that place among these lists
pub record HasRoomBehind {X Z : Type 0} (rows : List (Vec X Z)) (lists : List (List X)) : Type 0 where
  pub room : (w : ℕ) (row : Vec X Z) → w < length rows → 0 < vec_len (slice_index_or rows w row)
      → vec_len (slice_index_or rows w row) + length (slice_index_or lists w []) ≤ vec_capacity (slice_index_or rows w row)

-- whether a report, or the time of a message in one of the lists, is before a time
abbrev pub any_early : {E : Type 0} → Parts E → Option ℕ → ℕ → List (List (Signed E)) → Bool
any_early parts report bound lists =
    option_map_or (λ time. nat_lt time bound) report false || list_any (λ list. list_any (λ m. nat_lt (parts.time m.event) bound) list) lists
