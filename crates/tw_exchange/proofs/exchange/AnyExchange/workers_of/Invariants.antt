use Rattle.std.proofs.Common.{◌≡◌, ◌≤◌, map}
use Rattle.std.specs.List.{range_with_len}
use Rattle.std.specs.Prelude.{vec_capacity, vec_len}
use Rattle.tw_exchange.specs.AnyBoard.{who}
use Rattle.tw_exchange.proofs.exchange.AnyExchange.workers_of.Given as goal

abbrev pub invariant-loop-router : goal.invariant-loop-router
invariant-loop-router g l = record {
  items : l.list.items ≡ map (who l.self) (range_with_len 0 l.router);
  len : vec_len l.list ≡ l.router;
  room : l.routers ≤ vec_capacity l.list;
}
