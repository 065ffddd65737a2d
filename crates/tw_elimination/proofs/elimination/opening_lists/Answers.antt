use Rattle.std.proofs.Common.{◌≡◌, ◌∙◌, ap, sym, arith, map}
use Rattle.std.specs.List.{range_with_len}
use Rattle.tw_model.specs.State.{Router}
use Rattle.tw_policy.specs.Left.{left_after}
use Rattle.tw_policy.specs.Standing.{standing}
use Rattle.tw_elimination.specs.Rounds.{left_in}
use Rattle.tw_elimination.proofs.Halting.{few_more, list_more, router_is, routers_long}
use Rattle.tw_elimination.proofs.elimination.opening_lists.Goals as goal

pub all_paths-requires : goal.all_paths-requires
all_paths-requires c =
    let own = router_is c.args.case.now c.args.routers.now c.loop-router.router-index c.router-item.result c.requires c.loop-router-test.true in
    ap (λ (x : Router). x.net) (c.router-item.is ∙ own) ∙ sym c.instance-instance.ensures.value

pub loop-router-preserved : goal.loop-router-preserved
loop-router-preserved c =
    let case = c.args.case.now in
    let k = c.loop-router.router-index in
    let own = c.router-item.is ∙ router_is case c.args.routers.now k c.router-item.result c.requires c.loop-router-test.true in
    let left : c.in_ok-all_paths.field-0.items ≡ left_after c.router-item.result.net (standing case) 0 c.router-item.result.node
    = c.in_ok-all_paths.ensures.value (standing case) (ap (λ (x : Router). standing case x.node) own ∙ ap (λ (x : Router). x.state) (sym own)) in
    record {
      lists = list_more case 0 k c.loop-router.left.items c.push.new.self.items c.in_ok-all_paths.field-0 c.in_ok-push.ensures.items c.loop-router.invariant.lists
          (left ∙ ap (λ (x : Router). left_after x.net (standing case) 0 x.node) own);
      few = few_more c.loop-router.left.items c.push.new.self.items c.in_ok-all_paths.field-0 201 c.in_ok-push.ensures.items c.loop-router.invariant.few c.in_ok-all_paths.ensures.few;
    }

pub returns-clause-lists : goal.returns-clause-lists
returns-clause-lists c =
    let case = c.args.case.now in
    let long = routers_long case c.args.routers.now c.requires in
    let over = c.loop-router-test.false in
    let most = c.loop-router.auto.router-index-end in
    let end : c.loop-router.router-index ≡ case.net.nodes = omega arith in
    c.loop-router.invariant.lists ∙ ap (λ m. map (left_in case 0) (range_with_len 0 m)) end
