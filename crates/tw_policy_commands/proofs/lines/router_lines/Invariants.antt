use Rattle.std.proofs.Common.{◌≡◌, map}
use Rattle.std.specs.List.{range_with_len}
use Rattle.tw_elimination.specs.Rounds.{left_in}
use Rattle.tw_policy_commands.specs.Safe.{left_words, texts}
use Rattle.tw_policy_commands.proofs.lines.router_lines.Given as goal

abbrev pub invariant-loop-node : goal.invariant-loop-node
invariant-loop-node l =
    texts l.lines.items ≡ map (λ v. left_words l.elimination.case.net v (left_in l.elimination.case l.elimination.rounds v)) (range_with_len 0 l.node)
