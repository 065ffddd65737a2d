use Rattle.std.proofs.Common.{◌∙◌}
use Rattle.tw_router.proofs.Greatest.{kept_greatest}
use Rattle.tw_router.proofs.ranks.greatest_after.Goals as goal

pub returns-else-fell : goal.returns-else-fell
returns-else-fell c = c.max.ensures ∙ kept_greatest c.args.ranks.now c.args.slot c.args.before c.args.greatest c.requires.slot c.requires.greatest c.if-fell.false
