-- The board and the places of all workers at a cut of the one-thread run (own, after Chandy, Lamport, Distributed snapshots, 1985).
use Rattle.std.specs.Prelude.{ℕ, suc, ◌≡◌, ◌<◌, ◌≤◌, ◌==◌, cond, List, [], ◌∷◌, Some, replicate}
use Rattle.tw_core.specs.Machine.{AreCounted}
use Rattle.tw_rule.specs.Board.{Board}
use Rattle.tw_rule.specs.Place.{Place, place_core}
use Rattle.tw_sim.specs.Seq.{log, rest}
use Rattle.tw_sim.specs.Simulation.{Simulation, only, times}

-- a board for so many workers, who have reported time t
pub record IsCutBoard {E : Type 0} (n t : ℕ) (x : Board E) : Type 0 where
  pub mail : x.mail ≡ []
  pub reports : x.reports ≡ replicate n (Some t)
  pub bound : x.bound ≡ t
  pub stop : t ≤ x.stop

module _ {S E : Type 0} (m : Simulation S E) where
  -- worker w's place, where of those events that are handled it has those of its routers, and of those that are left it has those
  -- for them, pending; no commit is beyond time t, which is the bound that it knows, and as many are counted as committed as are
  pub record HasOwn (handled left : List E) (who : ℕ → ℕ) (t w : ℕ) (p : Place E) : Type 0 where
    pub worker : p.worker ≡ w
    pub owns : (r : ℕ) → r < m.routers → p.owns r ≡ (who r == w)
    pub history : (r : ℕ) → p.history r ≡ cond (who r == w) (only m r handled) []
    pub pending : (e : E) → times m e p.pending ≡ cond (who (m.dst e) == w) (times m e left) 0
    pub kept : p.kept ≡ []
    pub outgoing : p.outgoing ≡ []
    pub held : p.held ≡ []
    pub done : (r : ℕ) → p.done r ≤ t
    pub counted : AreCounted m (place_core t p)
    pub bound : p.bound ≡ t
    pub mail : p.mail ≡ []
    pub unsent : p.unsent ≡ []

  -- worker w's place at the cut at time t: of the run to t it has the events of its routers, and of what that run leaves those for them
  abbrev pub IsCutPlace : (ℕ → ℕ) → ℕ → ℕ → Place E → Type 0
  IsCutPlace who t w p = HasOwn (log m t) (rest m t) who t w p

  -- those of the workers from w on
  abbrev pub AreCutPlaces : (ℕ → ℕ) → ℕ → ℕ → List (Place E) → Type 0
  AreCutPlaces who t w [] = Unit {0}
  AreCutPlaces who t w (p ∷ ps) = IsCutPlace who t w p × AreCutPlaces who t (suc w) ps
