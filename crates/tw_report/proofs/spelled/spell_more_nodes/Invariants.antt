use Rattle.std.proofs.Common.{◌≡◌, ◌+◌, ◌*◌, ◌≤◌, ◌++◌, drop, length, take}
use Rattle.std.specs.List.{flat_map}
use Rattle.tw_report.specs.Words.{spaced_number}
use Rattle.tw_report.proofs.spelled.spell_more_nodes.Given as goal

-- the texts of those before stand there
abbrev pub invariant-loop-node : goal.invariant-loop-node
invariant-loop-node l =
    (l.end ≤ l.at + 21 * l.node-index)
    × (length l.page ≡ length l.initial.page)
    × (take l.end l.page ++ flat_map spaced_number (drop l.node-index l.nodes) ≡ take l.at l.initial.page ++ flat_map spaced_number l.nodes)
