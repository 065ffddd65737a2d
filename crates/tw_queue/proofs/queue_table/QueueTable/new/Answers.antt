use Rattle.std.proofs.Common.{sym, ap, map, ◌∙◌}
use Rattle.tw_ordered.specs.Times.{first_time}
use Rattle.tw_ordered.proofs.Keyed.{empty_events, empty_placed, empty_rising}
use Rattle.tw_queue.proofs.Tables.{empty_early, empty_row}
use Rattle.tw_queue.proofs.queue_table.QueueTable.new.Goals as goal

pub invariant_of-result : goal.invariant_of-result
invariant_of-result c =
    let lists = c.in_ok-queues.queues.items in
    let n = c.args.routers in
    let are = c.in_ok-queues.ensures in
    record {
      placed = empty_placed n lists are (λ e. e.dst);
      rising = empty_rising n lists are;
      early = empty_early n lists are;
      first = c.in_ok-least_times.ensures ∙ empty_row n ∙ ap (map first_time) (sym are);
    }

pub returns-clause-empty : goal.returns-clause-empty
returns-clause-empty c = empty_events c.args.routers c.in_ok-queues.queues.items c.in_ok-queues.ensures
