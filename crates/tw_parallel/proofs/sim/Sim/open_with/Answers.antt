use Rattle.std.proofs.Common.{◌≡◌, length, ap, sym, ◌∙◌, subst, arith}
use Rattle.std.specs.Prelude.{replicate}
use Rattle.tw_core.specs.Machine.{Core, IsOpening}
use Rattle.tw_event.specs.declared.event.Event.{Event}
use Rattle.tw_exchange.specs.Board.{Board}
use Rattle.tw_model.specs.Case.{simulation}
use Rattle.tw_parallel.proofs.Openings.{new_is, new_opens}
use Rattle.tw_parallel.proofs.Shares.{all_retain, all_take}
use Rattle.tw_parallel.specs.Sim.{IsSim, Sim, machine}
use Rattle.tw_table.specs.Shares.{shares_of}
use Rattle.tw_parallel.proofs.sim.Sim.open_with.Goals as goal

same : (c : goal.After-instance) → length c.in_ok-hands.hands.items ≡ length c.in_ok-shards.shards.items
same c = c.in_ok-hands.ensures.count ∙ sym c.in_ok-shards.ensures.count

abbrev with : (c : goal.After-instance) → Board → Sim
with c x = record { case = c.args.case.now; board = x; shares = shares_of c.in_ok-shards.shards.items c.in_ok-hands.hands.items }

pub invariant_of-result : goal.invariant_of-result
invariant_of-result c = record {
  sim = subst (λ x. IsSim (with c x)) (sym c.in_ok-exchange.ensures)
      (new_is c.args.case.now c.instance.ensures.case c.args.workers c.args.retains c.args.cancel c.requires c.in_ok-shards.shards.items c.in_ok-hands.hands.items
      c.in_ok-shards.ensures.count (same c) c.in_ok-shards.ensures.each c.in_ok-hands.ensures.empty);
  hands = same c;
}

pub returns-clause-opens : goal.returns-clause-opens
returns-clause-opens c =
    subst (λ x. IsOpening (simulation c.args.case.now) (machine (with c x))) (sym c.in_ok-exchange.ensures)
    (new_opens c.args.case.now c.instance.ensures.case c.args.workers c.args.retains c.args.cancel c.requires c.in_ok-shards.shards.items c.in_ok-hands.hands.items
    c.in_ok-shards.ensures.count (same c) c.in_ok-shards.ensures.each c.in_ok-hands.ensures.empty)

pub returns-clause-retains : goal.returns-clause-retains
returns-clause-retains c = λ is.
    let shards = c.in_ok-shards.shards.items in
    all_retain shards c.in_ok-hands.hands.items (λ k h. ap (λ x. x.retains) (c.in_ok-shards.ensures.each k (let many = c.in_ok-shards.ensures.count in omega arith)).terms ∙ is)

pub returns-clause-cancels : goal.returns-clause-cancels
returns-clause-cancels c =
    let shards = c.in_ok-shards.shards.items in
    all_take c.args.cancel shards c.in_ok-hands.hands.items (same c) (λ k h.
    ap (λ x. x.cancel) (c.in_ok-shards.ensures.each k (let many = c.in_ok-shards.ensures.count in omega arith)).terms)
    ∙ ap (λ n. replicate n c.args.cancel) c.in_ok-shards.ensures.count
