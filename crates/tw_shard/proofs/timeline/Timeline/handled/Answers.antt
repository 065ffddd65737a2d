use Rattle.std.proofs.Common.{◌≡◌, ◌-◌, ◌≤◌, length, reverse, slice_get, ap, ◌∙◌, arith}
use Rattle.tw_shard.specs.Timeline.{Timeline, events_of, history}
use Rattle.tw_shard.proofs.Commits.{ahead_at}
use Rattle.tw_shard.proofs.timeline.Timeline.handled.Goals as goal

pub returns-else-k-len : goal.returns-else-k-len
returns-else-k-len c =
    let a = c.self.inside in
    let first = c.len.ensures.value in
    let second = c.len-else-k-len.ensures.value in
    let after : length a.past.events ≤ c.args.k = omega (arith, first) in
    let place : c.args.k - c.len-else-k-len.result ≡ c.args.k - length a.past.events = omega (arith, second) in
    c.event_at.ensures
    ∙ (ap (slice_get (events_of a.ahead)) place
    ∙ (ahead_at a.past.events a.ahead c.args.k after
    ∙ ap (λ (t : Timeline). slice_get (reverse (history t)) c.args.k) c.self.view_is))
