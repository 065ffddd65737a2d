use Rattle.std.proofs.Common.{◌≡◌, ◌+◌, ◌++◌, ◌≤◌, drop, filter, length, vec_capacity, vec_len}
use Rattle.tw_exchange.specs.Board.{is_to}
use Rattle.tw_table.proofs.hand.push_for.Given as goal

abbrev pub invariant-loop-message : goal.invariant-loop-message
invariant-loop-message l = record {
  pushed : l.to.items ++ filter (is_to l.router) (drop l.message-index l.messages) ≡ l.initial.to.items ++ filter (is_to l.router) l.messages;
  fits : vec_len l.to + length (filter (is_to l.router) (drop l.message-index l.messages)) ≤ vec_len l.initial.to + length l.messages;
  capacity : vec_capacity l.to ≡ vec_capacity l.initial.to;
}
