use Rattle.std.proofs.Common.{◌≡◌, ◌+◌, ◌≤◌, ◌++◌, drop, filter, length, not}
use Rattle.std.specs.Prelude.{vec_capacity, vec_len}
use Rattle.tw_shard.specs.Shard.{owns}
use Rattle.tw_workers.proofs.handling.sort.Given as goal

abbrev pub invariant-loop-message : goal.invariant-loop-message
invariant-loop-message l = record {
  mail : l.hand.mail.items ++ filter (λ m. owns l.shard m.event.dst) (drop l.message-index l.message-items)
      ≡ l.fn.hand.mail.items ++ filter (λ m. owns l.shard m.event.dst) l.message-items;
  out : l.hand.out.items ++ filter (λ m. not (owns l.shard m.event.dst)) (drop l.message-index l.message-items)
      ≡ l.fn.hand.out.items ++ filter (λ m. not (owns l.shard m.event.dst)) l.message-items;
  mail_room : vec_len l.hand.mail + length (drop l.message-index l.message-items) ≤ vec_capacity l.hand.mail;
  out_room : vec_len l.hand.out + length (drop l.message-index l.message-items) ≤ vec_capacity l.hand.out;
  next : l.hand.next ≡ l.fn.hand.next;
}
