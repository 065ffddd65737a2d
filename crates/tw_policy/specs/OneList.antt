-- No dispute wheel (Griffin, Shepherd, Wilfong 2002), said as one list of all paths: each path has a place, after those that
-- its router ranks better and after the path that it goes on with.
use Rattle.std.specs.Prelude.{ℕ, ◌≡◌, ◌<◌, Bool, false, true, List, [], ◌∷◌}
use Rattle.std.specs.List.{All}
use Rattle.tw_event.specs.declared.event.PathNo.{PathNo}
use Rattle.tw_model.specs.declared.case.Scene.{Scene}
use Rattle.tw_model.specs.declared.case.Scene.TheVariants.{Allow, Fail, Forbid, Restore, Swap}
use Rattle.tw_model.specs.Net.{Net, path}
use Rattle.tw_model.specs.State.{State}
use Rattle.tw_model.specs.Case.{Case}

-- each place is lower than those behind it
abbrev pub Ascends : (PathNo → ℕ) → List PathNo → Type 0
Ascends place [] = Unit {0}
Ascends place (p ∷ order) = All (λ q. place p < place q) order × Ascends place order

-- the places of a list in which each router's better paths come first, and each path after the one that it goes on with
pub record IsOneList (net : Net) (states : ℕ → State) (place : PathNo → ℕ) : Type 0 where
  pub ranks : (v : ℕ) → Ascends place (states v).order
  pub goes_on : (v : ℕ) → All (λ q. (r : PathNo) → path net q ≡ v ∷ path net r → place r < place q) (states v).order

-- whether the scenario line exchanges two ranks
abbrev pub exchanges : Scene → Bool
exchanges (Fail t a b) = false
exchanges (Restore t a b) = false
exchanges (Swap t v i j) = true
exchanges (Forbid t v k) = false
exchanges (Allow t v k) = false

-- the script leaves the ranks as they are
abbrev pub LeavesRanks : Case → Type 0
LeavesRanks case = All (λ s. exchanges s ≡ false) case.scenes
