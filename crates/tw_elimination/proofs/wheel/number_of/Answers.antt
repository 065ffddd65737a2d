use Rattle.std.proofs.Common.{◌∙◌}
use Rattle.tw_elimination.proofs.PathNumbers.{number_told}
use Rattle.tw_elimination.proofs.wheel.number_of.Goals as goal

pub returns-clause-value : goal.returns-clause-value
returns-clause-value c =
    c.unwrap_or.ensures
    ∙ number_told c.args.instance.now c.number.ensures.net c.args.nodes.now c.number.result c.number.ensures.some c.number.ensures.only
