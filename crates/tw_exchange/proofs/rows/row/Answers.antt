use Rattle.std.proofs.Common.{◌∷◌, [], ◌++◌, ap, ◌∙◌}
use Rattle.std.proofs.lemmas.List.{replicate_more}
use Rattle.tw_exchange.proofs.rows.row.Goals as goal

pub loop-preserved : goal.loop-preserved
loop-preserved g c = c.in_ok-push.ensures.ok ∙ (ap (λ l. l ++ c.args.item ∷ []) c.loop.invariant ∙ replicate_more c.loop.counter c.args.item)
