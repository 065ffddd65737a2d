-- The rule of a table that the workers take in turn: when a board and the places of all workers are, put together, a good state
-- of the machine (own, after Jefferson, Virtual Time, 1985).
use Rattle.std.specs.Prelude.{ℕ, suc, ◌+◌, ◌≡◌, ◌<◌, ◌≤◌, ◌==◌, cond, List, [], ◌∷◌, map, Some, replicate}
use Rattle.std.specs.List.{AllByRecursion}
use Rattle.std.specs.Option.{IsSomeAnd}
use Rattle.tw_core.specs.Good.{times_there}
use Rattle.tw_core.specs.Machine.{Core, antimessages, messages, times_loose}
use Rattle.tw_core.specs.Parts as parts
use Rattle.tw_core.specs.Parts.{Shared, times_wanted, total}
use Rattle.tw_rule.specs.Board.{Board, IsBoard, report_of, workers}
use Rattle.tw_rule.specs.Place.{IsPlace, Place, part_of, whole}
use Rattle.tw_sim.specs.Simulation.{Simulation, times}

module _ {E : Type 0} where
  -- what a board has of the machine of all routers
  abbrev pub shared : Board E → Shared E
  shared x = record { mail = x.mail; bound = x.bound; stop = x.stop }

  -- the board and the places of all workers as one machine
  abbrev pub assembled : Board E → List (Place E) → Core E
  assembled x ps = parts.assembled (shared x) (map (part_of x.stop) ps)

  -- 1 where a place is worker w's, else 0
  abbrev pub is_at : ℕ → Place E → ℕ
  is_at w p = cond (p.worker == w) 1 0

  -- 1 where router r is of a place, else 0
  abbrev pub owning : ℕ → Place E → ℕ
  owning r p = cond (p.owns r) 1 0

  -- a board for so many workers, who have reported the beginning of time
  pub record IsOpeningBoard (n : ℕ) (x : Board E) : Type 0 where
    pub mail : x.mail ≡ []
    pub reports : x.reports ≡ replicate n (Some 0)
    pub bound : x.bound ≡ 0

module _ {S E : Type 0} (m : Simulation S E) where
  -- a place stands as its worker reported to a board, where who names the worker of each router
  pub record Stands (who : ℕ → ℕ) (x : Board E) (p : Place E) : Type 0 where
    pub worker : p.worker < workers x
    -- it has the routers of its worker
    pub owns : (r : ℕ) → r < m.routers → p.owns r ≡ (who r == p.worker)
    pub place : IsPlace m x.stop p
    -- its worker has reported a time where anything is loose there, and nothing loose is before it
    pub reported : (e : E) → 0 < times_loose m (whole 0 p) e → IsSomeAnd (report_of p.worker x) (λ time. time ≤ m.time e)
    -- it knows no bound beyond the board's
    pub bound : p.bound ≤ x.bound

  -- the rule
  pub record Rule (who : ℕ → ℕ) (x : Board E) (ps : List (Place E)) : Type 0 where
    pub board : IsBoard m x
    pub each : AllByRecursion (Stands who x) ps
    -- each worker has one place
    pub places : (w : ℕ) → w < workers x → total (is_at w) ps ≡ 1
    -- and each router a worker
    pub routers : (r : ℕ) → r < m.routers → who r < workers x
    -- the surpluses of all places and the opening events add up to the mail
    pub balance : (e : E) → total (λ p. times_wanted m (whole 0 p) e) ps + times m e m.opening + antimessages m e x.mail
        ≡ total (λ p. times_there m (whole 0 p) e) ps + messages m e x.mail

  -- ---- what a worker may give back to the table

  -- what a visit of worker w may change on a board
  pub record Steps (x : Board E) (w : ℕ) (y : Board E) : Type 0 where
    -- no other worker's report
    pub others : (v : ℕ) → (v ≡ w → ⊥) → report_of v y ≡ report_of v x
    pub workers : workers y ≡ workers x
    -- the bound does not fall, and the stop stays
    pub bound : x.bound ≤ y.bound
    pub stop : y.stop ≡ x.stop
    pub board : IsBoard m y

  -- the worker that took the board x and left the place p may give y back, and its place is q from now on
  pub record MayGive (who : ℕ → ℕ) (x : Board E) (p : Place E) (y : Board E) (q : Place E) : Type 0 where
    pub worker : q.worker ≡ p.worker
    pub steps : Steps x p.worker y
    -- its place stands as it reported
    pub stands : Stands who y q
    -- and what it has less goes to the mail, and what it has more comes from there
    pub moved : (e : E) → times_wanted m (whole 0 q) e + times_there m (whole 0 p) e + (antimessages m e y.mail + messages m e x.mail)
        ≡ times_wanted m (whole 0 p) e + times_there m (whole 0 q) e + (messages m e y.mail + antimessages m e x.mail)
    -- no commit is taken back
    pub done : (r : ℕ) → p.done r ≤ q.done r

  -- ---- the beginning

  -- worker w's place, where nothing is handled and its opening events are pending
  pub record IsOpeningPlace (who : ℕ → ℕ) (w : ℕ) (p : Place E) : Type 0 where
    pub worker : p.worker ≡ w
    pub owns : (r : ℕ) → r < m.routers → p.owns r ≡ (who r == w)
    pub history : (r : ℕ) → p.history r ≡ []
    pub pending : (e : E) → times m e p.pending ≡ cond (who (m.dst e) == w) (times m e m.opening) 0
    pub kept : p.kept ≡ []
    pub outgoing : p.outgoing ≡ []
    pub held : p.held ≡ []
    pub done : (r : ℕ) → p.done r ≡ 0
    pub past : (r : ℕ) → p.past r ≡ 0
    pub bound : p.bound ≡ 0
    pub mail : p.mail ≡ []
    pub unsent : p.unsent ≡ []

  -- those of the workers from w on
  abbrev pub AreOpeningPlaces : (ℕ → ℕ) → ℕ → List (Place E) → Type 0
  AreOpeningPlaces who w [] = Unit {0}
  AreOpeningPlaces who w (p ∷ ps) = IsOpeningPlace who w p × AreOpeningPlaces who (suc w) ps
