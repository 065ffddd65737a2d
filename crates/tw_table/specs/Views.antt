-- The rule of the table's queue: over the exchange in it, and over what each pass of it knows (own).
use Rattle.std.specs.Prelude.{ℕ, ◌≡◌, ◌<◌, ◌≤◌, ◌⊎◌, ◌||◌, Bool, true, false, None, List, [], ◌∷◌, ◌++◌, drop, length, map, max, slice_index_or, take}
use Rattle.std.specs.List.{AllByRecursion, flat_map}
use Rattle.tw_exchange.specs.Board.{Board, new_board, report_of, workers}
use Rattle.tw_model.specs.Case.{Case}
use Rattle.tw_table.specs.declared.rule.View.{View}
use Rattle.tw_table.specs.Shares.{IsRuled, Share}

-- ---- what a pass knows

-- before the exchange was given for the first time
abbrev pub first_view : View
first_view = record { opening = true; workers = 0; owners = None; shares = []; seen = 0; stop = 0; halted = false; was_halted = false; report = None; held = [] }

-- once it was, by the one who opens the table, for all workers
abbrev pub opened : List Share → Board → View
opened shares x = record { opening = false; workers = workers x; owners = x.owners; shares = shares; seen = x.bound; stop = x.stop; halted = x.halted; was_halted = false; report = None; held = [] }

-- with the exchange
abbrev pub took : View → Board → View
took v x = record v { seen = x.bound; held = x ∷ [] }

-- once it has given the exchange back, and its share beside it
abbrev pub given : Share → View → Board → View
given s v x = record v { shares = s ∷ []; seen = x.bound; halted = x.halted; was_halted = v.halted; report = report_of s.shard.terms.worker x; held = [] }

-- with the first of its shares alone
abbrev pub with_first : View → View
with_first v = record v { shares = take 1 v.shares; held = [] }

-- with the others
abbrev pub with_others : View → View
with_others v = record v { shares = drop 1 v.shares }

-- with the shares of another pass as well, the greater of the bounds that they have seen, and the mark where one of them has left it
abbrev pub joined : View → View → View
joined v w = record v { shares = v.shares ++ w.shares; seen = max v.seen w.seen; halted = v.halted || w.halted }

-- without any
abbrev pub spent_view : View
spent_view = record { opening = false; workers = 0; owners = None; shares = []; seen = 0; stop = 0; halted = false; was_halted = false; report = None; held = [] }

-- ---- the rule

-- the shares of all passes
abbrev pub all_shares : List View → List Share
all_shares views = flat_map (λ v. v.shares) views

-- the exchanges that passes have
abbrev pub all_held : List View → List Board
all_held views = flat_map (λ v. v.held) views

-- what a pass knows is so
pub record Knows (x : Board) (v : View) : Type 0 where
  -- the table is open
  pub begun : v.opening ≡ false
  -- it has seen no bound beyond that of the exchange
  pub seen : v.seen ≤ x.bound
  -- and knows how many workers there are
  pub workers : 0 < length v.shares → v.workers ≡ workers x
  -- which of them has each router
  pub owners : 0 < length v.shares → v.owners ≡ x.owners
  -- and the stop
  pub stop : 0 < length v.shares → v.stop ≡ x.stop
  -- once it has left the mark that halts the workers, the mark stays
  pub halted : v.halted ≡ true → x.halted ≡ true

-- there is one exchange, in the queue or with one pass, and with the shares of all it keeps the rule
pub record IsOpen (items : List Board) (views : List View) : Type 0 where
  pub case : Case
  pub board : Board
  pub one : items ++ all_held views ≡ board ∷ []
  pub ruled : IsRuled case board (all_shares views)
  pub each : AllByRecursion (Knows board) views

-- before the exchange is given for the first time nothing is asked
abbrev pub Holds : List Board → List View → Type 0
Holds items views = ((items ≡ []) × (views ≡ first_view ∷ [])) ⊎ IsOpen items views

-- ---- what a step tells

-- some workers' shares keep the rule with the exchange, beside some shares of the others
pub record IsMet (shares : List Share) (x : Board) : Type 0 where
  pub case : Case
  pub others : List Share
  pub ruled : IsRuled case x (shares ++ others)

-- a pass has taken the exchange
pub record Taken (v : View) (x : Board) (w : View) : Type 0 where
  pub view : w ≡ took v x
  pub met : IsMet v.shares x
  pub knows : Knows x v

-- ---- what a seat keeps

-- the exchange as it was taken
abbrev pub taken : View → Board
taken v = slice_index_or v.held 0 (new_board 0 0 0)

-- what one worker has done to the exchange x so far, whose owners, reports but its own, number of workers and stop are as they were, whose
-- bound has not fallen, and whose mark that halts the workers was not taken back
pub record IsVisitedBy (worker : ℕ) (x y : Board) : Type 0 where
  pub owners : y.owners ≡ x.owners
  pub others : (w : ℕ) → (w ≡ worker → ⊥) → report_of w y ≡ report_of w x
  pub workers : workers y ≡ workers x
  pub bound : x.bound ≤ y.bound
  pub stop : y.stop ≡ x.stop
  pub halted : x.halted ≡ true → y.halted ≡ true

-- the seat, without the exchange, of a worker that has seen this bound and left the exchange halted or not
pub record IsWaiting (worker bound : ℕ) (halted : Bool) (v : View) : Type 0 where
  pub begun : v.opening ≡ false
  pub share : map (λ s. s.shard.terms.worker) v.shares ≡ worker ∷ []
  pub seen : v.seen ≡ bound
  pub left : v.halted ≡ halted
  pub empty : v.held ≡ []

-- the seat of a worker, with the exchange
pub record IsHolding (worker : ℕ) (v : View) : Type 0 where
  pub begun : v.opening ≡ false
  pub share : map (λ s. s.shard.terms.worker) v.shares ≡ worker ∷ []
  pub one : map (λ x. workers x) v.held ≡ v.workers ∷ []
  pub owners_are : (taken v).owners ≡ v.owners
