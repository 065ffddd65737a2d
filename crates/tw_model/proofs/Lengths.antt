-- What the rules of an instance give of the lengths of its paths.
use Rattle.std.proofs.Common.{◌≡◌, ℕ, suc, zero, ◌≤◌, List, [], ◌∷◌, ◌++◌, length, map, get_or, None, arith, nat_lt, nat_le}
use Rattle.std.proofs.lemmas.Bool.{ltb-false, or_parts}
use Rattle.tw_event.specs.declared.event.PathNo.{PathNo}
use Rattle.tw_model.specs.declared.limits.TheConstants.{MOST_NODES, MOST_PATHS}
use Rattle.tw_model.specs.declared.rule.Rule.TheVariants.{TooMany}
use Rattle.tw_model.specs.Net.{Net, path, paths}
use Rattle.tw_model.specs.PermittedPath.{PermittedPath}
use Rattle.tw_model.specs.Rules.{IsNet, PathsFollow, path_breaks, path_count, path_fault}
use Rattle.tw_model.proofs.Unbroken.{none_broken}

few_nodes : (net : Net) (p : PermittedPath) → path_fault net p ≡ None → length p.nodes ≤ MOST_NODES
few_nodes net p fault =
    let room = or_parts (nat_le MOST_PATHS (path_count net.permitted p.owner)) (nat_lt MOST_NODES (length p.nodes)) (none_broken (path_breaks net p) fault TooMany) in
    ltb-false MOST_NODES (length p.nodes) room.1

few_each : (net : Net) (permitted : List PermittedPath) → PathsFollow net permitted → (k : ℕ) → length (get_or (map (λ p. p.nodes) permitted) k []) ≤ MOST_NODES
few_each net [] h k = omega arith
few_each net (p ∷ permitted) h zero = few_nodes net p h.0
few_each net (p ∷ permitted) h (suc k) = few_each (record net { permitted = net.permitted ++ p ∷ [] }) permitted h.1 k

few_at : (net : Net) → IsNet net → (k : ℕ) → length (get_or (paths net) k []) ≤ MOST_NODES
few_at net is zero = omega arith
few_at net is (suc zero) = omega arith
few_at net is (suc (suc k)) = few_each (record { nodes = net.nodes; links = net.links; permitted = [] }) net.permitted is.permitted k

-- no path has more nodes than the limit
pub path_short : (net : Net) → IsNet net → (q : PathNo) → length (path net q) ≤ MOST_NODES
unfolding path
path_short net is q = few_at net is q.0
