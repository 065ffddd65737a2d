use Rattle.std.proofs.Common.{◌≡◌, ◌++◌, map, min, ap, ◌∙◌}
use Rattle.std.specs.List.{reduce}
use Rattle.tw_event.specs.declared.event.Event.{Event}
use Rattle.tw_shard.specs.Shard.{Shard}
use Rattle.tw_shard.proofs.Reports.{least_first, times_of_all}
use Rattle.tw_shard.proofs.shard.Shard.report_time.Goals as goal

pub returns : goal.returns
returns c =
    let a = c.self.inside in
    let is = c.self.invariant.whole.case in
    let time = λ (e : Event). e.time in
    let pending : c.least_time.result ≡ reduce min (map time a.pending.events) =
    c.least_time.ensures ∙ least_first a.case.now is a.pending.events c.len.ensures.queue.rising in
    let kept : c.least_time-2.result ≡ reduce min (map time a.kept.events) =
    c.least_time-2.ensures ∙ least_first a.case.now is a.kept.events c.len-2.ensures.queue.rising in
    let held = c.least_time-3.ensures ∙ least_first a.case.now is a.held.events c.self.invariant.whole.held in
    let both = c.earlier-waiting.ensures (map time a.pending.events) (map time a.kept.events) pending kept in
    c.earlier.ensures (map time a.pending.events ++ map time a.kept.events) (map time a.held.events) both held
    ∙ (ap (reduce min) (times_of_all a.pending.events a.kept.events a.held.events)
    ∙ ap (λ (s : Shard). reduce min (map time (s.pending ++ s.kept ++ s.held))) c.self.view_is)
