use Rattle.std.proofs.Common.{◌≤◌, List, length, map, ap, subst, sym, ◌∙◌}
use Rattle.std.specs.List.{All}
use Rattle.std.specs.List.Sorted.{IsStrictlyIncreasing}
use Rattle.tw_model.specs.declared.limits.TheConstants.{MOST_LINKS}
use Rattle.tw_model.specs.declared.net.Hop.{Hop}
use Rattle.tw_model.specs.Net.{hops_of}
use Rattle.tw_model.specs.Rules.{IsNet}
use Rattle.tw_instance.specs.Hops.{IsGoodHop}
use Rattle.tw_instance.specs.Tables.{row}
use Rattle.tw_instance.proofs.Sound.{is_router}
use Rattle.tw_instance.proofs.instance.Instance.hops.Goals as goal

pub returns-clause-value : goal.returns-clause-value
returns-clause-value c =
    c.row_of.ensures
    ∙ (ap (λ rows. row rows c.args.node) c.deref.ensures.value ∙ (c.self.invariant.hops.rows c.args.node ∙ ap (λ n. hops_of n c.args.node) c.self.view_is))

pub returns-clause-few : goal.returns-clause-few
returns-clause-few c =
    let r = is_router c.args.self.now c.args.node (subst IsNet c.self.view_is c.self.invariant.net) in
    subst (λ (xs : List Hop). length xs ≤ MOST_LINKS) (sym (returns-clause-value c)) r.few_hops

pub returns-clause-good : goal.returns-clause-good
returns-clause-good c =
    let r = is_router c.args.self.now c.args.node (subst IsNet c.self.view_is c.self.invariant.net) in
    subst (All (IsGoodHop c.args.self.now.nodes)) (sym (returns-clause-value c)) r.good

pub returns-clause-rising : goal.returns-clause-rising
returns-clause-rising c =
    let r = is_router c.args.self.now c.args.node (subst IsNet c.self.view_is c.self.invariant.net) in
    subst (λ (xs : List Hop). IsStrictlyIncreasing (map (λ h. h.peer) xs)) (sym (returns-clause-value c)) r.rising
