use Rattle.std.proofs.Common.{ap, subst, ◌∙◌}
use Rattle.std.specs.List.{slice_get}
use Rattle.tw_model.specs.Rules.{IsNet}
use Rattle.tw_model.proofs.Paths.{path_exact}
use Rattle.tw_instance.specs.Extensions.{HasExtensions}
use Rattle.tw_instance.specs.Index.{IsIndex}
use Rattle.tw_instance.specs.Instance.{net_of}
use Rattle.tw_instance.proofs.Indexed.{at_first}
use Rattle.tw_instance.proofs.instance.Instance.extended_place.Goals as goal

pub returns-in-Some-clause-whole : goal.returns-in-Some-clause-whole
returns-in-Some-clause-whole c q e =
    let net = c.args.self.now in
    let index = at_first (IsIndex (net_of c.self.inside)) c.self.inside.index.items c.in-Some.index.now c.self.invariant.index (c.in-Some.ensures.value ∙ ap (λ xs. slice_get xs 0) c.deref.ensures.value) in
    let table = subst (λ n. HasExtensions n c.in-Some.index.now.extensions) c.self.view_is index.extensions in
    c.find_place.ensures.whole net table c.requires q e

pub returns-in-Some-clause-distinct : goal.returns-in-Some-clause-distinct
returns-in-Some-clause-distinct c = path_exact c.args.self.now (subst IsNet c.self.view_is c.self.invariant.net)

pub returns-in_err-path-in-None-clause-distinct : goal.returns-in_err-path-in-None-clause-distinct
returns-in_err-path-in-None-clause-distinct c = path_exact c.args.self.now (subst IsNet c.self.view_is c.self.invariant.net)

pub returns-in_ok-path-in-None-clause-distinct : goal.returns-in_ok-path-in-None-clause-distinct
returns-in_ok-path-in-None-clause-distinct c = path_exact c.args.self.now (subst IsNet c.self.view_is c.self.invariant.net)
