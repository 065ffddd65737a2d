use Rattle.std.proofs.Common.{ap, arith, length, refl, subst, ◌∙◌}
use Rattle.std.specs.List.{slice_get}
use Rattle.tw_model.specs.Net.{path}
use Rattle.tw_model.specs.Rules.{IsNet}
use Rattle.tw_model.proofs.Paths.{path_exact, same_path_is}
use Rattle.tw_instance.specs.Extensions.{HasExtensions}
use Rattle.tw_instance.specs.Index.{IsIndex}
use Rattle.tw_instance.specs.Instance.{net_of}
use Rattle.tw_instance.proofs.Finding.{found_own, found_same}
use Rattle.tw_instance.proofs.Indexed.{at_first, has_row}
use Rattle.tw_instance.proofs.Links.{no_hops}
use Rattle.tw_instance.proofs.instance.Instance.extend.Goals as goal

pub find-requires : goal.find-requires
find-requires c =
    let index = at_first (IsIndex (net_of c.self.inside)) c.self.inside.index.items c.in-Some.index.now c.self.invariant.index (c.in-Some.ensures.value ∙ ap (λ xs. slice_get xs 0) c.deref.ensures.value) in
    let table = subst (λ n. HasExtensions n c.in-Some.index.now.extensions) c.self.view_is index.extensions in
    has_row c.args.self.now c.in-Some.index.now.extensions c.args.number table (c.if-not-has_path.ensures.0 refl)

pub returns-in-Some-clause-some : goal.returns-in-Some-clause-some
returns-in-Some-clause-some c =
    let net = c.args.self.now in
    let index = at_first (IsIndex (net_of c.self.inside)) c.self.inside.index.items c.in-Some.index.now c.self.invariant.index (c.in-Some.ensures.value ∙ ap (λ xs. slice_get xs 0) c.deref.ensures.value) in
    let table = subst (λ n. HasExtensions n c.in-Some.index.now.extensions) c.self.view_is index.extensions in
    found_same net c.find.result c.args.node (path net c.args.number) (c.find.ensures.some net table (c.if-not-has_path.ensures.0 refl))

pub returns-in-Some-clause-own : goal.returns-in-Some-clause-own
returns-in-Some-clause-own c =
    let net = c.args.self.now in
    let index = at_first (IsIndex (net_of c.self.inside)) c.self.inside.index.items c.in-Some.index.now c.self.invariant.index (c.in-Some.ensures.value ∙ ap (λ xs. slice_get xs 0) c.deref.ensures.value) in
    let table = subst (λ n. HasExtensions n c.in-Some.index.now.extensions) c.self.view_is index.extensions in
    found_own net c.find.result c.args.node (path net c.args.number) (c.find.ensures.some net table (c.if-not-has_path.ensures.0 refl))

pub returns-in-Some-clause-only : goal.returns-in-Some-clause-only
returns-in-Some-clause-only c slot is q t =
    let net = c.args.self.now in
    let index = at_first (IsIndex (net_of c.self.inside)) c.self.inside.index.items c.in-Some.index.now c.self.invariant.index (c.in-Some.ensures.value ∙ ap (λ xs. slice_get xs 0) c.deref.ensures.value) in
    let table = subst (λ n. HasExtensions n c.in-Some.index.now.extensions) c.self.view_is index.extensions in
    let apart = path_exact net (subst IsNet c.self.view_is c.self.invariant.net) in
    c.find.ensures.only net table is apart q (same_path_is (path net q) _ t)

pub returns-in-Some-clause-no_router : goal.returns-in-Some-clause-no_router
returns-in-Some-clause-no_router c out =
    let none = no_hops c.args.self.now c.args.node c.hops.ensures.net out in
    let same = ap length c.hops.ensures.value in
    absurd (omega arith)

pub returns-in-None-clause-no_router : goal.returns-in-None-clause-no_router
returns-in-None-clause-no_router c out =
    let none = no_hops c.args.self.now c.args.node c.hops.ensures.net out in
    let same = ap length c.hops.ensures.value in
    absurd (omega arith)
