use Rattle.std.proofs.Common.{◌≡◌, ◌∙◌, [], ap, length, map, replicate, sym}
use Rattle.tw_exchange.specs.Rows.{soonest_of}
use Rattle.tw_exchange.proofs.Behind.{all_empty}
use Rattle.tw_exchange.proofs.Boards.{opening_soonest}
use Rattle.tw_exchange.proofs.Rooms.{length_items}
use Rattle.tw_exchange.proofs.parcels.AnyParcels.widen.Goals as goal

pub returns-then-len-workers-clause-rows : goal.returns-then-len-workers-clause-rows
returns-then-len-workers-clause-rows g c =
    let a = c.self.inside in
    let long : length c.args.self.now ≡ c.args.workers
    = ap length (sym c.self.view_is) ∙ (length_items a.lists.items ∙ (sym c.len.ensures.value ∙ c.if-len-workers.true)) in
    all_empty c.args.self.now c.requires ∙ ap (λ n. replicate n []) long

pub invariant_of-self : goal.invariant_of-self
invariant_of-self g c = record {
  soonest = c.in_ok-soonest.ensures ∙ (opening_soonest g.E.Timed.parts c.args.workers ∙ ap (map (soonest_of g.E.Timed.parts)) (sym c.in_ok-lists.ensures));
}
