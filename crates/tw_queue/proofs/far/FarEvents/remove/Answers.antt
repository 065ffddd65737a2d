use Rattle.std.proofs.Common.{◌≡◌, [], ap, ◌∙◌, get_or, arith}
use Rattle.std.proofs.lemmas.List.{get_or_read}
use Rattle.tw_event.specs.Order.{event_same}
use Rattle.tw_sim.specs.Ordered.{take_out}
use Rattle.tw_queue.proofs.Fars.{far_cut, far_found, far_taken, one_less}
use Rattle.tw_queue.proofs.far.FarEvents.remove.Goals as goal

-- what the bucket had
had : (c : goal.After-self-1) → get_or c.self.inside.buckets c.bucket_of-place.result c.index-self-place.result ≡ get_or c.self.inside.buckets c.bucket_of-place.result []
had c = grind (arith, get_or_read)

less : (c : goal.After-self-1) → c.remove-removed.new.self ≡ take_out event_same c.args.event.now (get_or c.self.inside.buckets c.bucket_of-place.result [])
less c = c.remove-removed.ensures.events ∙ ap (take_out event_same c.args.event.now) (had c)

pub invariant_of-self : goal.invariant_of-self
invariant_of-self c =
    let a = c.self.inside in
    let at = c.bucket_of-place.ensures in
    let row = c.least_of_row-self-inside in
    let p = c.bucket_of-place.result in
    far_cut a c.self.invariant p (omega arith) c.remove-removed.new.self (one_less a c.self.invariant p (omega arith) c.remove-removed.new.self c.args.event.now at (less c)) c.least_time-least.result row.result
    c.least_time-least.ensures row.ensures.bound row.ensures.reached

pub returns-clause-found : goal.returns-clause-found
returns-clause-found c = grind (arith, had, far_found)

pub returns-clause-events : goal.returns-clause-events
returns-clause-events c = grind (arith, far_taken, less)
