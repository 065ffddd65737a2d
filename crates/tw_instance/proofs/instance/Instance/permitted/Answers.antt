use Rattle.std.proofs.Common.{◌≡◌, ◌≤◌, true, List, length, ap, subst, sym, ◌∙◌}
use Rattle.std.specs.List.{All}
use Rattle.tw_event.specs.declared.event.PathNo.{PathNo}
use Rattle.tw_model.specs.declared.limits.TheConstants.{MOST_PATHS}
use Rattle.tw_model.specs.Net.{IsPath, is_own, paths_of}
use Rattle.tw_model.specs.Rules.{IsNet}
use Rattle.tw_instance.specs.Tables.{row}
use Rattle.tw_instance.proofs.Sound.{is_router}
use Rattle.tw_instance.proofs.instance.Instance.permitted.Goals as goal

pub returns-clause-value : goal.returns-clause-value
returns-clause-value c =
    c.row_of.ensures
    ∙ (ap (λ rows. row rows c.args.node) c.deref.ensures.value ∙ (c.self.invariant.permitted.rows c.args.node ∙ ap (λ n. paths_of n c.args.node) c.self.view_is))

pub returns-clause-few : goal.returns-clause-few
returns-clause-few c =
    let r = is_router c.args.self.now c.args.node (subst IsNet c.self.view_is c.self.invariant.net) in
    subst (λ (xs : List PathNo). length xs ≤ MOST_PATHS) (sym (returns-clause-value c)) r.few_paths

pub returns-clause-paths : goal.returns-clause-paths
returns-clause-paths c =
    let r = is_router c.args.self.now c.args.node (subst IsNet c.self.view_is c.self.invariant.net) in
    subst (All (IsPath c.args.self.now)) (sym (returns-clause-value c)) r.paths

pub returns-clause-own : goal.returns-clause-own
returns-clause-own c =
    let r = is_router c.args.self.now c.args.node (subst IsNet c.self.view_is c.self.invariant.net) in
    subst (All (λ q. is_own c.args.self.now c.args.node q ≡ true)) (sym (returns-clause-value c)) r.own
