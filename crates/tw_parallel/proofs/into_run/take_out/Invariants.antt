use Rattle.std.proofs.Common.{◌≡◌, ℕ, ◌<◌, ◌≤◌, get_or, is_some, length}
use Rattle.tw_exchange.specs.Board.{who}
use Rattle.tw_parallel.specs.Removal.{AreRemoved, MayLeave}
use Rattle.tw_shard.specs.Shard.{no_shard}
use Rattle.tw_parallel.proofs.into_run.take_out.Given as goal

abbrev pub invariant-loop-number : goal.invariant-loop-number
invariant-loop-number l = record {
  left : AreRemoved l.case l.exchange.stop l.case.net.nodes l.number l.removal;
  retains : is_some l.removal.logs ≡ is_some l.fn.removal.logs;
  count : length l.shards.items ≡ length l.fn.shards.items;
  each : (r : ℕ) → l.number ≤ r → r < l.case.net.nodes → MayLeave l.case l.exchange.stop r (is_some l.fn.removal.logs) (get_or l.shards.items (who l.exchange r) no_shard);
}
