use Rattle.std.proofs.Common.{◌≡◌, ◌∷◌, drop}
use Rattle.tw_model.specs.Rules.{leaves_links}
use Rattle.tw_instance.proofs.rules.leaves_links_from.Given as goal

abbrev pub invariant-loop-node : goal.invariant-loop-node
invariant-loop-node l = leaves_links l.instance.links (l.last ∷ drop l.node-index l.rest) ≡ leaves_links l.instance.links (l.fn.first ∷ l.rest)
