use Rattle.std.proofs.Common.{rules, of_calls, arith}
use Rattle.std.proofs.lemmas.List.Sorted.{IsPartitionPoint-from_clause}
use Rattle.tw_event.specs.Order.{event_before}
use Rattle.tw_ordered.proofs.Rows.{parted}
use Rattle.tw_ordered.proofs.ordered_queue.place_of.Goals as goal

pub returns : goal.returns
returns c =
    let xs = c.args.events.now.items in
    let e = c.args.event.now in
    let point = IsPartitionPoint-from_clause (λ x. event_before x e) _ _ c.partition_point.ensures.partitioned (parted e xs c.requires) (λ a r q k. search (rules, of_calls)) in
    record {
      within = omega (arith, c.args.events.now.ok.0, c.partition_point.ensures.bound);
      before = λ k d l. point.0 k d (omega arith) l;
      rest = λ k d l m. point.1 k d l m;
    }
