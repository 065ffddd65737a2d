use Rattle.std.proofs.Common.{◌∙◌, ap, length, nat_le}
use Rattle.tw_model.specs.declared.limits.TheConstants.{MOST_PATHS}
use Rattle.tw_instance.proofs.Facts.{full-counted}
use Rattle.tw_instance.proofs.rules.has_all_paths.Goals as goal

pub returns : goal.returns
returns c = ap (λ xs. nat_le MOST_PATHS (length xs)) c.permitted.ensures.value ∙ full-counted c.args.instance.now c.args.node c.permitted.ensures.net
