use Rattle.std.proofs.Common.{Ok, ap, sym, ◌∙◌}
use Rattle.tw_shard.specs.Shard.{shard_core}
use Rattle.tw_shard.proofs.Releasing.{releases}
use Rattle.tw_shard.proofs.shard.Shard.release.Goals as goal

pub returns-clause-ok : goal.returns-clause-ok
returns-clause-ok c = λ stop.
    releases stop c.args.self.now c.args.router (sym c.owns.ensures.value ∙ c.if-not-owns.false) ∙ ap (λ s. Ok (shard_core stop s)) (sym c.in_ok-release_own.ensures.ok)
