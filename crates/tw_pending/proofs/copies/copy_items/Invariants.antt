use Rattle.std.proofs.Common.{◌≡◌, ◌+◌, ◌++◌, drop, map, vec_capacity, vec_len}
use Rattle.tw_pending.proofs.copies.copy_items.Given as goal

-- what is left goes behind, and has room
abbrev pub invariant-loop-item : goal.invariant-loop-item
invariant-loop-item g l = record {
  behind : l.events.items ++ map (λ x. x.0) (drop l.item-index l.items) ≡ l.fn.events.items ++ map (λ x. x.0) l.items;
  len : vec_len l.events ≡ vec_len l.fn.events + l.item-index;
  capacity : vec_capacity l.events ≡ vec_capacity l.fn.events;
}
