use Rattle.tw_table.proofs.Views.{forks}
use Rattle.tw_table.proofs.calls.deal.Goals as goal

pub another-pass-requires-clause-rule : goal.another-pass-requires-clause-rule
another-pass-requires-clause-rule c = forks _ _ c.requires.begun c.requires.empty
