use Rattle.std.proofs.Common.{ap, arith, length, sym, ◌∙◌}
use Rattle.std.proofs.lemmas.Bool.{le-ltb}
use Rattle.tw_model.specs.declared.state.Counters.{Counters}
use Rattle.tw_model.specs.Net.{hops_of}
use Rattle.tw_handlers.proofs.Pairs.{length-up_pairs}
use Rattle.tw_handlers.proofs.settle.sends_too_many.Goals as goal

pub returns-else-sent-rows-gt-MOST_COUNTED : goal.returns-else-sent-rows-gt-MOST_COUNTED
returns-else-sent-rows-gt-MOST_COUNTED c =
    let router = c.args.router.now in
    let most = c.if-sent-rows-gt-MOST_COUNTED.false in
    let fewer = length-up_pairs (hops_of router.net router.node) router.state.rows in
    let sent = ap (λ (n : Counters). n.sent) c.counters-sent.ensures.value in
    le-ltb _ _ most ∙ sym (le-ltb _ _ (omega (arith, most, fewer, sent, ap length c.rows.ensures.value)))
