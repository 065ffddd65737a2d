use Rattle.std.proofs.Common.{◌∙◌, sym, subst, arith}
use Rattle.tw_model.specs.Rules.{IsNet}
use Rattle.tw_model.proofs.Paths.{path_exact}
use Rattle.tw_instance.proofs.Finding.{empty_is, only_empty, found_whole, first_rest}
use Rattle.tw_instance.proofs.instance.Instance.number.Goals as goal

pub returns-in-empty-clause-some : goal.returns-in-empty-clause-some
returns-in-empty-clause-some c = (omega arith, empty_is c.args.self.now c.args.nodes.now c.in-empty.len_below)

pub returns-in-empty-clause-only : goal.returns-in-empty-clause-only
returns-in-empty-clause-only c =
    only_empty c.args.self.now (path_exact c.args.self.now (subst IsNet c.self.view_is c.self.invariant.net)) c.args.nodes.now c.in-empty.len_below

pub returns-in-len1-up-clause-some : goal.returns-in-len1-up-clause-some
returns-in-len1-up-clause-some c =
    found_whole c.args.self.now c.number_at.result _ _ c.args.nodes.now (first_rest c.args.nodes.now c.in-len1-up.len_at_least) c.number_at.ensures.some

pub returns-in-len1-up-clause-only : goal.returns-in-len1-up-clause-only
returns-in-len1-up-clause-only c q i h =
    c.number_at.ensures.only q (h ∙ sym (first_rest c.args.nodes.now c.in-len1-up.len_at_least))
