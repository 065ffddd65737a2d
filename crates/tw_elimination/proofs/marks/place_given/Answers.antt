use Rattle.std.proofs.Common.{◌∙◌, IsTrue, ap, length, subst, sym}
use Rattle.std.proofs.lemmas.Bool.{false≢true}
use Rattle.tw_model.specs.Net.{Net}
use Rattle.tw_model.specs.State.{offers}
use Rattle.tw_router.specs.Ranks.{IsOfferedAt}
use Rattle.tw_elimination.specs.Marks.{telling}
use Rattle.tw_elimination.proofs.Given.{place_none, place_some}
use Rattle.tw_elimination.proofs.marks.place_given.Goals as goal

pub returns-in-Some-clause-value : goal.returns-in-Some-clause-value
returns-in-Some-clause-value c =
    let r = c.args.router.now in
    let at : IsOfferedAt r.net r.node (telling c.args.path) c.in-Some.line
    = subst (λ (net : Net). IsOfferedAt net r.node (telling c.args.path) c.in-Some.line) c.requires.own
    (subst (λ v. IsOfferedAt c.args.instance.now v (telling c.args.path) c.in-Some.line) c.node.ensures.value c.in-Some.ensures.some) in
    c.place_at.ensures.value at.0 at.1 ∙ place_some r c.args.path c.in-Some.line at

pub returns-in-None-clause-value : goal.returns-in-None-clause-value
returns-in-None-clause-value c =
    let r = c.args.router.now in
    ap length c.order.ensures.value
    ∙ place_none r c.args.path (λ q h. false≢true (c.in-None.ensures.none q
    (subst (λ v. IsTrue (offers c.args.instance.now v q (telling c.args.path))) (sym c.node.ensures.value)
    (subst (λ (net : Net). IsTrue (offers net r.node q (telling c.args.path))) (sym c.requires.own) h))))
