use Rattle.std.proofs.Common.{subst, sym, ◌∙◌}
use Rattle.std.specs.List.{All}
use Rattle.std.proofs.lemmas.List.Elements.{All-nil}
use Rattle.tw_instance.specs.Index.{IsIndex}
use Rattle.tw_instance.proofs.Matrix.{none_joined}
use Rattle.tw_instance.proofs.Growing.{new_tables}
use Rattle.tw_instance.proofs.Placed.{new_places}
use Rattle.tw_instance.proofs.instance.Instance.new.Goals as goal

pub invariant_of-result : goal.invariant_of-result
invariant_of-result c =
    let made = new_tables c.args.nodes c.in_ok-hops.hops.items c.in_ok-permitted.permitted.items c.in_ok-tail_hashes.tail_hashes.items c.new.result.items c.new-2.result.items c.hash_of.result
    c.new.ensures.items c.new-2.ensures.items (sym c.nodes_fault.ensures ∙ c.in_default.is) c.hash_of.ensures c.in_ok-hops.ensures c.in_ok-permitted.ensures c.in_ok-tail_hashes.ensures in
    let places = new_places c.args.nodes c.new.result.items c.new-2.result.items c.in_ok-places.places.items c.new.ensures.items c.new-2.ensures.items c.in_ok-places.ensures in
    record { net = made.kept; hops = made.hop_rows; adjacency = none_joined (record { nodes = c.args.nodes; links = c.new.result.items; permitted = c.new-2.result.items }) c.in_ok-adjacency.adjacency.items c.new.ensures.items c.in_ok-adjacency.ensures; permitted = made.path_rows; tail_hashes = made.hash_rows; places = places; index = subst (All (IsIndex (record { nodes = c.args.nodes; links = c.new.result.items; permitted = c.new-2.result.items }))) (sym c.new-3.ensures.items) (All-nil (IsIndex (record { nodes = c.args.nodes; links = c.new.result.items; permitted = c.new-2.result.items }))) }
