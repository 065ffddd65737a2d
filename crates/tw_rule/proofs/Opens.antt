-- The rule holds of a new board and new places: they are those at the cut at time 0.
use Rattle.std.proofs.Common.{◌<◌, ◌∷◌, ℕ, suc, cond, List, [], length, arith}
use Rattle.tw_rule.proofs.Cuts.{HaveOwn, IsRunAt, either, rule_at}
use Rattle.tw_rule.specs.Board.{Board}
use Rattle.tw_rule.specs.Cut.{HasOwn, IsCutBoard}
use Rattle.tw_rule.specs.Place.{Place}
use Rattle.tw_rule.specs.Rule.{AreOpeningPlaces, IsOpeningBoard, IsOpeningPlace, Rule}
use Rattle.tw_sim.proofs.Counts.{times-insert_all}
use Rattle.tw_sim.proofs.Rising.{suit-begin}
use Rattle.tw_sim.specs.Seq.{begin}
use Rattle.tw_sim.specs.Simulation.{Simulation, IsLawful}

module _ {S E : Type 0} (m : Simulation S E) (law : IsLawful m) where
  -- a run begins with what opens
  run_begins : IsRunAt m law 0 (begin m)
  run_begins = grind (arith, times-insert_all, suit-begin)

  board_opens : (n : ℕ) (x : Board E) → IsOpeningBoard n x → IsCutBoard n 0 x
  board_opens n x board = record { mail = board.mail; reports = board.reports; bound = board.bound; stop = omega arith }

  module _ (who : ℕ → ℕ) where
    place_opens : (w : ℕ) (p : Place E) → IsOpeningPlace m who w p → HasOwn m (begin m).log (begin m).rest who 0 w p
    place_opens w p new = grind (arith, either, cond, times-insert_all)

    places_open : (w : ℕ) (ps : List (Place E)) → AreOpeningPlaces m who w ps → HaveOwn m law who 0 (begin m) run_begins w ps
    places_open w [] new = tt
    places_open w (p ∷ ps) new = (place_opens w p new.0, places_open (suc w) ps new.1)

    pub rule_opens : (x : Board E) (ps : List (Place E)) → IsOpeningBoard (length ps) x → AreOpeningPlaces m who 0 ps → ((r : ℕ) → r < m.routers → who r < length ps) → Rule m who x ps
    rule_opens x ps board new whose = rule_at m law who 0 (begin m) run_begins x ps (board_opens (length ps) x board) (places_open 0 ps new) whose
