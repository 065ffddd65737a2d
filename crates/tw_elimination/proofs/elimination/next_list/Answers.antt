use Rattle.std.proofs.Common.{ℕ, ◌≡◌, ◌∙◌, ap, sym, subst, arith, length}
use Rattle.std.specs.List.{All}
use Rattle.std.proofs.lemmas.List.{length-map}
use Rattle.std.proofs.lemmas.Result.{IfOk-weaker}
use Rattle.tw_instance.specs.Tables.{items, row}
use Rattle.tw_model.specs.Net.{IsPath}
use Rattle.tw_model.specs.State.{Router, State}
use Rattle.tw_policy.specs.Left.{round_left}
use Rattle.tw_policy.specs.Standing.{standing}
use Rattle.tw_elimination.proofs.Halting.{lists_long, router_is, routers_long, row_paths}
use Rattle.tw_elimination.proofs.Marking.{row_at}
use Rattle.tw_elimination.proofs.elimination.next_list.Goals as goal

pub remaining_at-requires-clause-own : goal.remaining_at-requires-clause-own
remaining_at-requires-clause-own c =
    let case = c.args.case.now in
    let own = c.index-routers-node.is ∙ router_is case c.args.routers.now c.args.node c.index-routers-node.result c.requires.routers c.requires.node in
    c.instance-instance.ensures.value ∙ ap (λ (x : Router). x.net) (sym own)

pub remaining_at-requires-clause-long : goal.remaining_at-requires-clause-long
remaining_at-requires-clause-long c =
    let case = c.args.case.now in
    let same : length (items c.args.left.now) ≡ length c.args.left.now = length-map c.args.left.now (λ v. v.items) in
    let long = lists_long case c.instance-instance.ensures.case c.requires.left.0 (items c.args.left.now) c.requires.left.1 in
    let nodes = ap (λ n. n.nodes) c.instance-instance.ensures.value in
    omega arith

pub remaining_at-requires-clause-paths : goal.remaining_at-requires-clause-paths
remaining_at-requires-clause-paths c = λ w.
    let case = c.args.case.now in
    let own = sym c.instance-instance.ensures.value ∙ remaining_at-requires-clause-own c in
    subst (λ net. All (IsPath net) (row c.args.left.now w)) own (row_paths case c.instance-instance.ensures.case c.requires.left.0 (items c.args.left.now) c.requires.left.1 w)

pub returns-then-is_settled : goal.returns-then-is_settled
returns-then-is_settled c =
    let case = c.args.case.now in
    let left = row c.args.left.now in
    let same : length (items c.args.left.now) ≡ length c.args.left.now = length-map c.args.left.now (λ v. v.items) in
    let long = lists_long case c.instance-instance.ensures.case c.requires.left.0 (items c.args.left.now) c.requires.left.1 in
    let nodes = routers_long case c.args.routers.now c.requires.routers in
    let within = c.requires.node in
    let mine : c.deref.result.now ≡ left c.args.node = c.deref.ensures.value ∙ sym (row_at c.args.left.now c.args.node c.index-left-node.result (omega arith) c.index-left-node.is) in
    let stays = c.requires.settled c.args.node (omega arith) (sym c.is_settled.ensures ∙ c.if-is_settled.true) in
    IfOk-weaker c.from_slice.result (λ paths. paths.items ≡ c.deref.result.now) (λ paths. paths.items ≡ round_left case.net (standing case) left c.args.node)
    (λ paths e. e ∙ (mine ∙ sym stays)) c.from_slice.ensures.items

pub returns : goal.returns
returns c =
    let case = c.args.case.now in
    let left = row c.args.left.now in
    let r = c.index-routers-node.result in
    let own = c.index-routers-node.is ∙ router_is case c.args.routers.now c.args.node r c.requires.routers c.requires.node in
    IfOk-weaker c.remaining_at.result (λ next. (states : ℕ → State) → states r.node ≡ r.state → next.items ≡ round_left r.net states left r.node)
    (λ paths. paths.items ≡ round_left case.net (standing case) left c.args.node)
    (λ paths e. e (standing case) (ap (λ (x : Router). standing case x.node) own ∙ ap (λ (x : Router). x.state) (sym own))
    ∙ ap (λ (x : Router). round_left x.net (standing case) left x.node) own) c.remaining_at.ensures.value
