use Rattle.std.proofs.Common.{◌≡◌, ◌∙◌, ap, arith, map}
use Rattle.std.specs.List.{range_with_len}
use Rattle.tw_model.specs.Case.{Case}
use Rattle.tw_model.specs.Net.{Net}
use Rattle.tw_elimination.specs.Rounds.{left_in}
use Rattle.tw_elimination.proofs.Kept.{items_more}
use Rattle.tw_stable.proofs.lists.lists_left.Goals as goal

pub loop-node-preserved : goal.loop-node-preserved
loop-node-preserved c =
    let e = c.args.elimination.now in
    items_more (left_in e.case e.rounds) c.loop-node.node c.loop-node.lists.items c.push.new.self.items c.in_ok-from_slice.field-0 c.in_ok-push.ensures.items
    (c.in_ok-from_slice.ensures.items ∙ c.left.ensures.value) c.loop-node.invariant

pub returns-clause-lists : goal.returns-clause-lists
returns-clause-lists c =
    let e = c.args.elimination.now in
    let net = c.instance-instance.ensures.value ∙ ap (λ (x : Case). x.net) c.case.ensures.value in
    let nodes = c.nodes-node-end.ensures.value ∙ ap (λ (n : Net). n.nodes) net in
    let over = c.loop-node-test.false in
    let most = c.loop-node.auto.node-end in
    let end : c.loop-node.node ≡ e.case.net.nodes = omega arith in
    c.loop-node.invariant ∙ ap (λ m. map (left_in e.case e.rounds) (range_with_len 0 m)) end
