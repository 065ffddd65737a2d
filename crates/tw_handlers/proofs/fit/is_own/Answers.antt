use Rattle.std.proofs.Common.{◌∙◌, sym}
use Rattle.std.proofs.lemmas.Bool.{both_ways, false_from_ne_true}
use Rattle.tw_model.proofs.Paths.{own_is_path}
use Rattle.tw_handlers.proofs.fit.is_own.Goals as goal

pub returns-else-is_path : goal.returns-else-is_path
returns-else-is_path c =
    c.if-is_path.false
    ∙ sym (false_from_ne_true _ (λ own. both_ways c.is_path.result c.if-is_path.false (c.is_path.ensures.1 (own_is_path _ _ _ own).0)))
