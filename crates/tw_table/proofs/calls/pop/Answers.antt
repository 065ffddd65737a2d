use Rattle.std.proofs.Common.{◌∙◌, ap}
use Rattle.tw_table.proofs.Views.{takes}
use Rattle.tw_table.specs.declared.rule.View.{View}
use Rattle.tw_table.proofs.calls.pop.Goals as goal

pub try_pop_as-requires-clause-rule : goal.try_pop_as-requires-clause-rule
try_pop_as-requires-clause-rule g c =
    let same = c.loop.invariant.1 in
    takes _ _ (ap (λ (v : View). v.opening) same ∙ c.requires.begun) (ap (λ (v : View). v.held) same ∙ c.requires.empty)
