use Rattle.std.proofs.Common.{filter, length, nat_lt, count_by, ◌+◌, ap, ap₂, ◌∙◌}
use Rattle.tw_shard.specs.Timeline.{Timeline, history}
use Rattle.tw_shard.proofs.Commits.{count_early}
use Rattle.tw_shard.proofs.timeline.Timeline.committed.Goals as goal

pub returns : goal.returns
returns c =
    let a = c.self.inside in
    let late = c.all_before.ensures.value ∙ ap (λ n. count_by (λ d. nat_lt d.event.time n) a.ahead) c.done.ensures in
    ap₂ (λ m n. m + n) c.len.ensures.value late
    ∙ (count_early a.past.done a.past.events a.ahead c.self.invariant.past
    ∙ ap (λ (t : Timeline). length (filter (λ e. nat_lt e.time t.done) (history t))) c.self.view_is)
