use Rattle.std.proofs.Common.{◌∙◌, ap, length, nat_le}
use Rattle.tw_model.specs.declared.limits.TheConstants.{MOST_LINKS}
use Rattle.tw_instance.proofs.Links.{are_counted}
use Rattle.tw_instance.proofs.rules.has_all_links.Goals as goal

pub returns : goal.returns
returns c = ap (nat_le MOST_LINKS) (ap length c.hops.ensures.value ∙ are_counted c.args.instance.now c.hops.ensures.net c.args.node)
