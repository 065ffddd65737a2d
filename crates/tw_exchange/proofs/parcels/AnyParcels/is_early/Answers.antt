use Rattle.std.proofs.Common.{arith, ◌∙◌, ◌||◌, ap, false, nat_lt}
use Rattle.std.specs.List.{list_any}
use Rattle.std.specs.Option.{option_map_or}
use Rattle.tw_exchange.specs.Rows.{any_early, items}
use Rattle.tw_exchange.proofs.Dealt.{early_found}
use Rattle.tw_exchange.proofs.parcels.AnyParcels.is_early.Goals as goal

pub returns : goal.returns
returns g c =
    let a = c.self.inside in
    let report = c.args.report in
    let bound = c.args.bound in
    c.is_any_early.ensures
    ∙ (ap (λ row. option_map_or (λ time. nat_lt time bound) report false || list_any (λ time. nat_lt time bound) row) c.deref.ensures
    ∙ (early_found g.E.Timed.parts report bound a.soonest.items (items a.lists.items) c.self.invariant.soonest (omega arith) ∙ ap (any_early g.E.Timed.parts report bound) c.self.view_is))
