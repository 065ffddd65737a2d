use Rattle.std.proofs.Common.{◌≡◌, ◌-◌, ◌++◌, map}
use Rattle.std.specs.List.{All}
use Rattle.tw_instance.specs.Tables.{row}
use Rattle.tw_model.specs.Net.{IsPath}
use Rattle.tw_elimination.specs.Wheel.{pivot_of, pivots_to, ring_to}
use Rattle.tw_elimination.proofs.wheel.ring.Given as goal

abbrev pub invariant-loop : goal.invariant-loop
invariant-loop l = record {
  pivots : map pivot_of l.pivots.items ++ pivots_to l.instance (row l.left) (l.instance.nodes - l.counter) l.last (pivot_of l.pivot) ≡ ring_to l.instance (row l.left) l.last;
  paths : All (λ p. IsPath l.instance p.spoke × IsPath l.instance p.rim) l.pivots.items;
}
