-- The rule is kept: by a worker that gives back what it may, and where the stop rises.
use Rattle.std.proofs.Common.{rules, ◌≡◌, ℕ, ◌<◌, ◌≤◌, ◌==◌, cond, List, Some, set, slice_get, refl, ap, sym, subst, arith}
use Rattle.tw_core.proofs.Sums.{all_map}
use Rattle.tw_rule.proofs.Places.{all_at, each_set, total_set}
use Rattle.tw_rule.specs.Board.{Board}
use Rattle.tw_rule.specs.Place.{Place}
use Rattle.tw_rule.specs.Rule.{MayGive, Rule, Stands, Steps, is_at}
use Rattle.tw_sim.specs.Simulation.{Simulation}

module _ {S E : Type 0} (m : Simulation S E) (who : ℕ → ℕ) where
  -- another worker's place stands as before
  other_stands : (x y : Board E) (w : ℕ) → Steps m x w y → (p : Place E) → Stands m who x p → (p.worker ≡ w → ⊥) → Stands m who y p
  other_stands x y w steps p stands other = grind arith

  pub rule_gives : (x y : Board E) (ps : List (Place E)) (i : ℕ) (p q : Place E) → Rule m who x ps → slice_get ps i ≡ Some p → MayGive m who x p y q → Rule m who y (set ps i q)
  rule_gives x y ps i p q rule place may =
      let stands = all_at (Stands m who x) ps i p place rule.each in
      record {
        board = may.steps.board;
        each = each_set p.worker (Stands m who x) (Stands m who y) (other_stands x y p.worker may.steps) ps i p q place refl (rule.places p.worker stands.worker) may.stands rule.each;
        places = λ w l. (
            let moved = total_set (is_at w) ps i p q place in
            let same : is_at w q ≡ is_at w p = ap (λ v. cond (v == w) 1 0) may.worker in
            let one = rule.places w (subst (λ n. w < n) may.steps.workers l) in
            omega arith);
        routers = λ r l. subst (λ n. who r < n) (sym may.steps.workers) (rule.routers r l);
        balance = search (rules, total_set);
      }

  stands_further : (x : Board E) (stop : ℕ) → x.stop ≤ stop → (p : Place E) → Stands m who x p → Stands m who (record x { stop = stop }) p
  stands_further x stop le p stands = grind arith

  pub rule_reopens : (x : Board E) (ps : List (Place E)) (stop : ℕ) → x.stop ≤ stop → Rule m who x ps → Rule m who (record x { stop = stop }) ps
  rule_reopens x ps stop le rule = grind (arith, all_map, stands_further)
