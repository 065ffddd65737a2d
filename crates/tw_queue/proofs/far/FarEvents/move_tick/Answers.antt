use Rattle.std.proofs.Common.{◌≡◌, [], filter, ◌==◌, not, ap, ◌∙◌, get_or, arith}
use Rattle.std.proofs.lemmas.List.{get_or_read}
use Rattle.tw_event.specs.Order.{event_same}
use Rattle.tw_sim.specs.Ordered.{times}
use Rattle.tw_queue.proofs.Fars.{far_cut, tick_apart, tick_less, tick_moved}
use Rattle.tw_queue.proofs.far.FarEvents.move_tick.Goals as goal

-- what the bucket had
had : (c : goal.After-self-1) → get_or c.self.inside.buckets c.bucket_of-place.result c.index-self-place.result ≡ get_or c.self.inside.buckets c.bucket_of-place.result []
had c = grind (arith, get_or_read)

left : (c : goal.After-self-1) → (d : _) → times event_same d c.drop_tick.new.self ≡ times event_same d (filter (λ x. not (x.time == c.self.inside.soonest)) (get_or c.self.inside.buckets c.bucket_of-place.result []))
left c d = c.drop_tick.ensures d ∙ ap (λ xs. times event_same d (filter (λ x. not (x.time == c.self.inside.soonest)) xs)) (had c)

pub invariant_of-self-2 : goal.invariant_of-self-2
invariant_of-self-2 c =
    let a = c.self.inside in
    let at = c.bucket_of-place.ensures in
    let row = c.least_of_row-self-inside in
    let p = c.bucket_of-place.result in
    far_cut a c.self.invariant p (omega arith) c.drop_tick.new.self (tick_less a c.self.invariant p (omega arith) c.drop_tick.new.self at (left c)) c.least_time-time.result row.result c.least_time-time.ensures
    row.ensures.bound row.ensures.reached

near : (c : goal.After-self-1) → (d : _) → times event_same d c.copy_tick.new.queue ≡ times event_same d (filter (λ x. x.time == c.self.inside.soonest) (get_or c.self.inside.buckets c.bucket_of-place.result []))
near c d = grind (arith, filter, had)

pub returns-clause-all : goal.returns-clause-all
returns-clause-all c d = grind (arith, tick_moved, left, near)

pub returns-clause-apart : goal.returns-clause-apart
returns-clause-apart c = grind (arith, tick_apart, left, near)
