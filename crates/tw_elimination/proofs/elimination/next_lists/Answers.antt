use Rattle.std.proofs.Common.{◌≡◌, suc, ◌∙◌, ap, arith, map}
use Rattle.std.specs.List.{range_with_len}
use Rattle.tw_instance.specs.Tables.{items}
use Rattle.tw_elimination.specs.Rounds.{left_in}
use Rattle.tw_elimination.proofs.Halting.{list_more, next_is, routers_long}
use Rattle.tw_elimination.proofs.elimination.next_lists.Goals as goal

pub loop-node-preserved : goal.loop-node-preserved
loop-node-preserved c =
    let case = c.args.case.now in
    let k = c.loop-node.node in
    record {
      lists = λ n are.
          list_more case (suc n) k c.loop-node.next.items c.push.new.self.items c.in_ok-next_list.field-0 c.in_ok-push.ensures.items (c.loop-node.invariant.lists n are)
          (c.in_ok-next_list.ensures ∙ next_is case c.instance.ensures.case n (items c.args.left.now) are k);
    }

pub returns : goal.returns
returns c = record {
  next = λ n are.
      let case = c.args.case.now in
      let long = routers_long case c.args.routers.now c.requires.routers in
      let over = c.loop-node-test.false in
      let most = c.loop-node.auto.node-end in
      let end : c.loop-node.node ≡ case.net.nodes = omega arith in
      c.loop-node.invariant.lists n are ∙ ap (λ m. map (left_in case (suc n)) (range_with_len 0 m)) end;
}
