use Rattle.std.proofs.Common.{Err, ap, sym, true≢false, ◌∙◌}
use Rattle.tw_parallel.proofs.moving.pass.Goals as goal

pub unreachable-requires : goal.unreachable-requires
unreachable-requires c = true≢false (sym c.requires.own ∙ ((c.hand_over.ensures.refused c.in-Err-Fault.field-0-0).0 (c.in-Err-Fault.is ∙ ap (λ f. Err f) c.in-Err-Fault.field-0-is)).0)
