use Rattle.std.proofs.Common.{◌≡◌, ◌≤◌, ◌+◌, ◌++◌, drop, length, vec_capacity, vec_len}
use Rattle.tw_shape.proofs.builder.put_each.Given as goal

abbrev pub invariant-loop-item : goal.invariant-loop-item
invariant-loop-item g l = record {
  all : l.list.items ++ drop l.item-index l.items ≡ l.fn.list.items ++ l.items;
  room : vec_len l.list + length (drop l.item-index l.items) ≤ vec_capacity l.list;
}
