use Rattle.std.proofs.Common.{◌≡◌, ◌∙◌, ap, min, rules}
use Rattle.std.specs.List.{flat_map, fold}
use Rattle.std.specs.Option.{option_to_list}
use Rattle.tw_exchange.specs.Rows.{lesser_time}
use Rattle.tw_exchange.proofs.Least.{reports_found, row_found}
use Rattle.tw_exchange.proofs.times.least_of.Goals as goal

pub returns : goal.returns
returns c =
    let found : c.fold.result ≡ fold lesser_time c.map_or-least.result c.args.reports.now = search rules in
    let row : c.map_or-least.result ≡ fold min c.args.stop c.args.times.now = row_found c.args.stop c.args.times.now c.map_or-least.result (rw (← c.least_time.ensures.value) (search rules)) in
    found ∙ (reports_found c.map_or-least.result c.args.reports.now ∙ ap (λ n. fold min n (flat_map option_to_list c.args.reports.now)) row)
