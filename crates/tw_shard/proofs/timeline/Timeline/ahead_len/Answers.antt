use Rattle.std.proofs.Common.{◌≡◌, ◌-◌, count_by, filter, length, nat_lt, reverse, ap, ◌∙◌, arith}
use Rattle.std.proofs.lemmas.List.{length-append}
use Rattle.tw_shard.specs.Timeline.{Timeline, events_of, history, timeline_of}
use Rattle.tw_shard.proofs.Commits.{count_early}
use Rattle.tw_shard.proofs.Histories.{length-events}
use Rattle.tw_shard.proofs.timeline.Timeline.ahead_len.Goals as goal

pub returns : goal.returns
returns c =
    let a = c.self.inside in
    let late = c.all_before.ensures.value ∙ ap (λ n. count_by (λ d. nat_lt d.event.time n) a.ahead) c.done.ensures in
    let early = count_early a.past.done a.past.events a.ahead c.self.invariant.past in
    let ahead = length-events a.ahead in
    let both = length-append (events_of (reverse a.ahead)) a.past.events in
    let len = c.len.ensures.value in
    let told : c.len.result - c.all_before.result ≡ length (history (timeline_of a)) - length (filter (λ e. nat_lt e.time a.past.done) (history (timeline_of a))) = omega arith in
    told ∙ ap (λ (t : Timeline). length (history t) - length (filter (λ e. nat_lt e.time t.done) (history t))) c.self.view_is
