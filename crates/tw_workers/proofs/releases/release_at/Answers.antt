use Rattle.std.proofs.Common.{Err, ap, ◌∙◌}
use Rattle.tw_workers.proofs.Places.{no_release_refusal}
use Rattle.tw_workers.proofs.releases.release_at.Goals as goal

pub unreachable-requires : goal.unreachable-requires
unreachable-requires c =
    let told = c.in-Err-Fault.is ∙ ap (λ f. Err f) c.in-Err-Fault.field-0-is in
    no_release_refusal 0 c.args.shard.now c.args.router _ c.requires.own ((c.release.ensures.refused 0 c.in-Err-Fault.field-0-0).0 told)
