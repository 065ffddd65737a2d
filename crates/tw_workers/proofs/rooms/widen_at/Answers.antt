use Rattle.std.proofs.Common.{Err, ap, ◌∙◌}
use Rattle.tw_workers.proofs.Places.{no_widening_refusal}
use Rattle.tw_workers.proofs.rooms.widen_at.Goals as goal

pub unreachable-requires : goal.unreachable-requires
unreachable-requires c =
    let told = c.in-Err-Fault.is ∙ ap (λ f. Err f) c.in-Err-Fault.field-0-is in
    no_widening_refusal 0 c.args.shard.now c.args.router _ c.requires.own ((c.widen.ensures.refused 0 c.in-Err-Fault.field-0-0).0 told)
