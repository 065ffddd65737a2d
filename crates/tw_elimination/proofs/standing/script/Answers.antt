use Rattle.std.proofs.Common.{◌∙◌}
use Rattle.tw_elimination.proofs.Scripts.{script_homes, script_sorted}
use Rattle.tw_elimination.proofs.standing.script.Goals as goal

pub returns-clause-order : goal.returns-clause-order
returns-clause-order c =
    script_sorted c.args.case.now c.in_ok-events.events.items c.sort_unstable.new.self.items (c.in_ok-events.ensures.items ∙ c.openings.ensures.value)
    c.sort_unstable.ensures.permutation c.sort_unstable.ensures.sorted

pub returns-clause-homes : goal.returns-clause-homes
returns-clause-homes c = script_homes c.args.case.now c.openings.ensures.case c.sort_unstable.new.self.items (returns-clause-order c)
