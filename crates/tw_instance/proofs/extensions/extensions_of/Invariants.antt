use Rattle.std.proofs.Common.{◌≡◌, map, take}
use Rattle.tw_instance.specs.Chains.{first_node}
use Rattle.tw_instance.specs.Extensions.{nodes_in, places_in}
use Rattle.tw_instance.proofs.ExtendedAt.{AreFirstPlaces}
use Rattle.tw_instance.proofs.extensions.extensions_of.Given as goal

abbrev pub invariant-loop-number : goal.invariant-loop-number
invariant-loop-number l = record {
  nodes : nodes_in l.extensions.items ≡ map (first_node l.instance) (take l.number-index l.numbers);
  places : AreFirstPlaces l.instance l.numbers l.number-index (places_in l.extensions.items);
}
