use Rattle.std.proofs.Common.{◌≡◌, ◌∷◌, ◌++◌, decimal, drop}
use Rattle.std.specs.List.{flat_map}
use Rattle.std.specs.String.{string_bytes}
use Rattle.tw_text.proofs.write.push_nodes.Given as goal

abbrev pub invariant-loop-node : goal.invariant-loop-node
invariant-loop-node l =
    string_bytes l.text ++ flat_map (λ n. 32 ∷ decimal n) (drop l.node-index l.nodes) ≡ string_bytes l.initial.text ++ flat_map (λ n. 32 ∷ decimal n) l.nodes
