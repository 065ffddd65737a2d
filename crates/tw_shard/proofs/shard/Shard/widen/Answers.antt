use Rattle.std.proofs.Common.{Ok, ap, sym, ◌∙◌}
use Rattle.tw_shard.specs.Shard.{shard_core}
use Rattle.tw_shard.proofs.Widening.{widens}
use Rattle.tw_shard.proofs.shard.Shard.widen.Goals as goal

pub returns-clause-ok : goal.returns-clause-ok
returns-clause-ok c = λ stop.
    let mine = sym c.owns.ensures.value ∙ c.if-not-owns.false in
    widens c.args.self.now c.args.router c.owns.ensures.whole mine stop ∙ ap (λ s. Ok (shard_core stop s)) (sym c.in_ok-widen_own.ensures.ok)
