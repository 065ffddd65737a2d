use Rattle.std.proofs.Common.{◌≡◌}
use Rattle.tw_exchange.specs.Rows.{items}
use Rattle.tw_exchange.proofs.Behind.{HasRoomUpTo}
use Rattle.tw_exchange.proofs.joining.make_room_behind.Given as goal

abbrev pub invariant-loop-worker : goal.invariant-loop-worker
invariant-loop-worker g l = record {
  same : items l.mail ≡ items l.initial.mail;
  room : HasRoomUpTo l.worker l.mail (items l.lists);
}
