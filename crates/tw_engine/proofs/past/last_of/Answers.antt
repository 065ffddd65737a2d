use Rattle.std.proofs.Common.{◌∙◌}
use Rattle.tw_engine.proofs.Newest.{last_first}
use Rattle.tw_engine.proofs.past.last_of.Goals as goal

pub returns : goal.returns
returns g c = c.copied.ensures ∙ (c.last.ensures.value ∙ last_first c.args.items.now)
