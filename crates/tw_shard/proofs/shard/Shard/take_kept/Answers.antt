use Rattle.std.proofs.Common.{ap, ◌∙◌}
use Rattle.tw_shard.specs.Inside.{shard_of}
use Rattle.tw_shard.proofs.Arrivals.{not_there}
use Rattle.tw_shard.proofs.shard.Shard.take_kept.Goals as goal

pub returns-clause-none : goal.returns-clause-none
returns-clause-none c = λ none.
    let a = c.self.inside in
    let same = c.remove_one-is_taken.ensures.events ∙ not_there c.args.event.now a.kept.events (λ some. cc (c.remove_one-is_taken.ensures.found.1 some, none)) in
    ap (λ kept. record (shard_of a) { kept = kept }) same ∙ c.self.view_is
