use Rattle.std.proofs.Common.{◌<◌, ◌^◌, ◌∙◌, subst, sym}
use Rattle.tw_exchange.proofs.Dealt.{report_at}
use Rattle.tw_exchange.proofs.times.report_with.Goals as goal

pub returns : goal.returns
returns g c =
    let fits = subst (λ n. n < 2 ^ 64) c.time-time.ensures c.time-time.type_inv in
    report_at g.E.Timed.parts c.args.report c.args.messages.now c.index-messages-0.result c.args.least c.lesser.result (sym c.is_empty.ensures ∙ c.if-is_empty.false) fits c.requires c.lesser.ensures
