-- The events that wait for one router: the first ones in a list, the others in buckets (own).
use Rattle.std.specs.Prelude.{◌++◌, List}
use Rattle.tw_event.specs.declared.event.Event.{Event}
use Rattle.tw_event.specs.Order.{event_before}
use Rattle.tw_ordered.specs.InOrder.{in_order}
use Rattle.tw_queue.specs.Times.{AreNearFirst, in_buckets}
use Rattle.tw_queue.specs.declared.bucket_queue.BucketQueue.TheInside.{Inside}

-- all events, in order
abbrev pub queue_events : Inside → List Event
queue_events a = in_order event_before (a.near ++ in_buckets a.far)

-- those in the list are before those in buckets
abbrev pub IsBucketQueue : Inside → Type 0
IsBucketQueue a = AreNearFirst a.near (in_buckets a.far)
