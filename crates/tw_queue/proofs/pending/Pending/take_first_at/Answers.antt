use Rattle.std.proofs.Common.{arith, ◌≡◌, ◌==◌, Some, slice_get, ap, sym, ◌∙◌}
use Rattle.tw_ordered.specs.Queue.{for_others, for_router}
use Rattle.tw_ordered.proofs.Released.{all_first, first_out, others_stay}
use Rattle.tw_queue.proofs.pending.Pending.take_first_at.Goals as goal

first_is : (c : goal.After-remove_one) → slice_get (for_router c.args.router c.args.self.now.events) 0 ≡ Some c.in_ok-first.first
first_is c = sym c.least_at.ensures.first ∙ c.in_ok-first.was

pub returns-clause-own : goal.returns-clause-own
returns-clause-own c = grind (arith, first_out, first_is)

pub returns-clause-others : goal.returns-clause-others
returns-clause-others c =
    let r = c.args.router in
    ap (for_others r) c.remove_one.ensures.events ∙ others_stay (λ e. e.dst == r) c.in_ok-first.first c.args.self.now.events (first_is c)

pub returns-clause-home : goal.returns-clause-home
returns-clause-home c = grind (arith, all_first, first_is)
