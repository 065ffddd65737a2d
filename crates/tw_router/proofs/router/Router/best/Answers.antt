use Rattle.std.proofs.Common.{sym, subst, arith, rules}
use Rattle.tw_model.specs.Net.{IsPath, empty_path}
use Rattle.tw_router.proofs.Nodes.{best-nodes}
use Rattle.tw_router.proofs.Ranking.{best_is_path, leads_to_best, no_best}
use Rattle.tw_router.proofs.router.Router.best.Goals as goal

pub returns-then-node-eq0-clause-nodes : goal.returns-then-node-eq0-clause-nodes
returns-then-node-eq0-clause-nodes c =
    best-nodes c.args.self.now c.node-node.ensures.net c.node-node.ensures.state (record { 0 = 1 }) (search rules)

pub returns-in-0-clause-value : goal.returns-in-0-clause-value
returns-in-0-clause-value c = sym (no_best c.args.self.now c.greatest_rank.result (omega arith) c.greatest_rank.ensures (search rules))

pub returns-in-0-clause-nodes : goal.returns-in-0-clause-nodes
returns-in-0-clause-nodes c =
    best-nodes c.args.self.now c.node-node.ensures.net c.node-node.ensures.state empty_path (returns-in-0-clause-value c)

pub overflow_sub-result : goal.overflow_sub-result
overflow_sub-result c = (leads_to_best c.args.self.now _ c.greatest_rank.result (omega arith) c.order-order.ensures.value c.greatest_rank.ensures (search rules)).most

pub bounds-order-order : goal.bounds-order-order
bounds-order-order c =
    let l = leads_to_best c.args.self.now _ c.greatest_rank.result (omega arith) c.order-order.ensures.value c.greatest_rank.ensures (search rules) in omega arith

pub returns-in_default-clause-value : goal.returns-in_default-clause-value
returns-in_default-clause-value c = (leads_to_best c.args.self.now _ c.greatest_rank.result (omega arith) c.order-order.ensures.value c.greatest_rank.ensures (search rules)).at empty_path

pub returns-in_default-clause-path : goal.returns-in_default-clause-path
returns-in_default-clause-path c =
    subst (IsPath c.args.self.now.net) (sym (returns-in_default-clause-value c)) (best_is_path c.args.self.now c.node-node.ensures.state)

pub returns-in_default-clause-nodes : goal.returns-in_default-clause-nodes
returns-in_default-clause-nodes c =
    best-nodes c.args.self.now c.node-node.ensures.net c.node-node.ensures.state _ (returns-in_default-clause-value c)
