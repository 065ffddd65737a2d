use Rattle.std.proofs.Common.{Err, ap, ◌∙◌}
use Rattle.tw_workers.proofs.Commits.{no_refusal, ok_is}
use Rattle.tw_workers.proofs.committing.commit_at.Goals as goal

pub unreachable-requires : goal.unreachable-requires
unreachable-requires c =
    let told = c.in-Err-Fault.is ∙ ap (λ f. Err f) c.in-Err-Fault.field-0-is in
    no_refusal 0 c.args.shard.now c.args.router _ c.requires.own ((c.commit.ensures.refused 0 c.in-Err-Fault.field-0-0).0 told)

pub returns-in-Ok-clause-ok : goal.returns-in-Ok-clause-ok
returns-in-Ok-clause-ok c = λ stop. ok_is stop c.args.shard.now c.commit.new.self c.args.router c.requires.own (c.in-Ok.ensures.ok stop)
