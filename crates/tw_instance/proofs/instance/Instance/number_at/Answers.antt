use Rattle.std.proofs.Common.{◌∙◌, subst}
use Rattle.tw_model.specs.Rules.{IsNet}
use Rattle.tw_model.proofs.Paths.{path_exact}
use Rattle.tw_instance.proofs.Finding.{finds_path, found_path, found_own}
use Rattle.tw_instance.proofs.instance.Instance.number_at.Goals as goal

pub returns-clause-some : goal.returns-clause-some
returns-clause-some c = found_path _ _ _ _ _ c.find_path.ensures

pub returns-clause-own : goal.returns-clause-own
returns-clause-own c = found_own _ _ _ _ (found_path _ _ _ _ _ c.find_path.ensures)

pub returns-clause-only : goal.returns-clause-only
returns-clause-only c q h =
    c.find_path.ensures ∙ (rw c.permitted-numbers.ensures.value (finds_path c.args.self.now (path_exact c.args.self.now (subst IsNet c.self.view_is c.self.invariant.net)) q _ _ h))
