use Rattle.std.proofs.Common.{ap, map, min, ◌∙◌}
use Rattle.std.specs.List.{reduce}
use Rattle.tw_core.specs.Steps.{from}
use Rattle.tw_model.specs.Case.{simulation}
use Rattle.tw_shard.specs.Shard.{Shard}
use Rattle.tw_shard.proofs.Reports.{least_sent}
use Rattle.tw_shard.proofs.shard.Shard.held_time.Goals as goal

pub returns : goal.returns
returns c =
    let a = c.self.inside in
    c.least_time_of.ensures
    ∙ (least_sent a.case.now c.self.invariant.whole.case c.args.router a.held.events c.self.invariant.whole.held
    ∙ ap (λ (s : Shard). reduce min (map (λ e. e.time) (from (simulation s.terms.case) c.args.router s.held))) c.self.view_is)
