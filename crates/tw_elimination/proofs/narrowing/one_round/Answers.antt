use Rattle.std.proofs.Common.{◌≡◌, ◌∙◌, ap, arith, filter, length, map, subst, sym}
use Rattle.std.specs.List.{All, range_with_len}
use Rattle.std.proofs.lemmas.List.{length-map}
use Rattle.tw_instance.specs.Tables.{items, row}
use Rattle.tw_model.specs.Net.{IsPath}
use Rattle.tw_model.specs.State.{Router}
use Rattle.tw_policy.specs.Left.{round_left}
use Rattle.tw_policy.specs.Search.{is_one_of}
use Rattle.tw_policy.specs.Standing.{standing}
use Rattle.tw_elimination.specs.Narrowing.{left_at}
use Rattle.tw_elimination.proofs.Halting.{router_is, routers_long}
use Rattle.tw_elimination.proofs.Kept.{items_more}
use Rattle.tw_elimination.proofs.Marking.{row_at}
use Rattle.tw_elimination.proofs.narrowing.one_round.Goals as goal

pub remaining_at-requires-clause-own : goal.remaining_at-requires-clause-own
remaining_at-requires-clause-own c =
    let case = c.args.case.now in
    let own = c.index-routers-node.is ∙ router_is case c.args.routers.now c.loop-node.node c.index-routers-node.result c.requires.routers (omega arith) in
    c.instance-instance.ensures.value ∙ ap (λ (x : Router). x.net) (sym own)

pub remaining_at-requires-clause-long : goal.remaining_at-requires-clause-long
remaining_at-requires-clause-long c =
    let same : length (items c.args.lists.now) ≡ length c.args.lists.now = length-map c.args.lists.now (λ v. v.items) in
    let long = c.requires.lists.long in
    let nodes = ap (λ n. n.nodes) c.instance-instance.ensures.value in
    omega arith

pub remaining_at-requires-clause-paths : goal.remaining_at-requires-clause-paths
remaining_at-requires-clause-paths c = λ w.
    let own = sym c.instance-instance.ensures.value ∙ remaining_at-requires-clause-own c in
    subst (λ net. All (IsPath net) (row c.args.lists.now w)) own (c.requires.lists.paths w)

pub loop-node-preserved : goal.loop-node-preserved
loop-node-preserved c =
    let case = c.args.case.now in
    let lists = c.args.lists.now in
    let k = c.loop-node.node in
    let inv = c.loop-node.invariant in
    let d = c.index-routers-node.result in
    let own = c.index-routers-node.is ∙ router_is case c.args.routers.now k d c.requires.routers (omega arith) in
    let same_long : length (items lists) ≡ length lists = length-map lists (λ v. v.items) in
    let nodes = routers_long case c.args.routers.now c.requires.routers in
    let all = c.requires.lists.long in
    let remains : c.in_ok-remaining.remaining.items ≡ round_left d.net (standing case) (row lists) d.node
    = c.in_ok-remaining.ensures.value (standing case) (ap (λ (x : Router). standing case x.node) own ∙ ap (λ (x : Router). x.state) (sym own)) in
    let others : c.deref-in-loop-node.result.now ≡ round_left case.net (standing case) (row lists) k
    = c.deref-in-loop-node.ensures.value ∙ (remains ∙ ap (λ (x : Router). round_left x.net (standing case) (row lists) x.node) own) in
    let mine : c.deref.result.now ≡ row lists k = c.deref.ensures.value ∙ sym (row_at lists k c.index-lists-node.result (omega arith) c.index-lists-node.is) in
    record {
      next = items_more (left_at case (items lists)) k c.loop-node.next.items c.push.new.self.items c.in_ok-those_among.field-0 c.in_ok-push.ensures.items
          (c.in_ok-those_among.ensures ∙ (ap (λ xs. filter (is_one_of xs) c.deref.result.now) others
          ∙ ap (filter (is_one_of (round_left case.net (standing case) (row lists) k))) mine)) inv.next;
    }

pub returns-clause-value : goal.returns-clause-value
returns-clause-value c =
    let case = c.args.case.now in
    let long = routers_long case c.args.routers.now c.requires.routers in
    let over = c.loop-node-test.false in
    let most = c.loop-node.auto.node-end in
    let end : c.loop-node.node ≡ case.net.nodes = omega arith in
    c.loop-node.invariant.next ∙ ap (λ m. map (left_at case (items c.args.lists.now)) (range_with_len 0 m)) end

pub bounds-lists-node : goal.bounds-lists-node
bounds-lists-node c =
    let same_long : length (items c.args.lists.now) ≡ length c.args.lists.now = length-map c.args.lists.now (λ v. v.items) in
    let nodes = routers_long c.args.case.now c.args.routers.now c.requires.routers in
    let all = c.requires.lists.long in
    omega arith
