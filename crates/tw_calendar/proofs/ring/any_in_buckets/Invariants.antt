use Rattle.std.proofs.Common.{◌≡◌, ◌*◌, drop}
use Rattle.std.specs.List.{list_any}
use Rattle.tw_ordered.specs.Queue.{is_before}
use Rattle.tw_calendar.proofs.ring.any_in_buckets.Given as goal

abbrev pub invariant-loop-word : goal.invariant-loop-word
invariant-loop-word l =
    list_any (λ events. list_any (is_before l.router l.limit) events) (drop (l.word * 64) l.buckets) ≡ list_any (λ events. list_any (is_before l.router l.limit) events) l.buckets
