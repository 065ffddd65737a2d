-- The rule over all processes of a run, each a place of its own (own, after Jefferson, Virtual Time, 1985).
use Rattle.std.specs.Prelude.{ℕ, ◌≡◌, List, Some, length, map, replicate, slice_get}
use Rattle.tw_rounds.specs.Members.{IsFullBefore, Mailed, place_of}
use Rattle.tw_rule.specs.Board.{Board}
use Rattle.tw_rule.specs.Rule.{Rule}
use Rattle.tw_sim.specs.declared.machine.Signed.{Signed}
use Rattle.tw_sim.specs.Simulation.{IsLawful, IsNumbered, Simulation}

-- a board of so many processes, each of which has reported the bound, with these messages on their way
abbrev pub board_of : {E : Type 0} → ℕ → List (Signed E) → ℕ → ℕ → Board E
board_of n flight bound stop = record { mail = flight; reports = replicate n (Some bound); bound = bound; stop = stop }

module _ {S M E : Type 0} (m : Simulation S E) where
  -- the rule holds of all processes of a model, to this stop, with this bound and these messages on their way
  pub record AreRuled (model : M) (stop bound : ℕ) (flight : List (Signed E)) (members : List (Mailed M E)) : Type 0 where
    pub law : IsLawful m
    pub numbered : IsNumbered m
    -- each process of the model is there, at its number
    pub count : length members ≡ m.routers
    pub each : (i : ℕ) (x : Mailed M E) → slice_get members i ≡ Some x → (x.process.number ≡ i) × (x.process.model ≡ model)
    -- process r is worker r's
    pub rule : Rule m (λ r. r) (board_of (length members) flight bound stop) (map place_of members)

  -- one of some processes is refused to handle its first pending event, which is before this time, since a counter is full
  pub record IsSomeFullBefore (time : ℕ) (members : List (Mailed M E)) : Type 0 where
    pub number : ℕ
    pub member : Mailed M E
    pub there : slice_get members number ≡ Some member
    pub full : IsFullBefore m time member.process
