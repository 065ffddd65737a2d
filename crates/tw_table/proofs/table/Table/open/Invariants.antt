use Rattle.std.proofs.Common.{◌≡◌, ◌≤◌, vec_len}
use Rattle.crossbeam_queue.specs.Passes.{IsPassOf}
use Rattle.std.specs.Vec.{vec_capacity}
use Rattle.tw_exchange.specs.Board.{workers}
use Rattle.tw_table.proofs.Deals.{IsDealt}
use Rattle.tw_table.specs.Shares.{shares_of}
use Rattle.tw_table.specs.Views.{opened}
use Rattle.tw_table.proofs.table.Table.open.Given as goal

-- what the push tells is that the pass stands for all workers
abbrev pub ghosts-lay-M-Outcome : goal.ghosts-lay-M-Outcome
ghosts-lay-M-Outcome g a = record { then = λ v x w. w ≡ opened (shares_of a.shards.now a.hands.now) x }

-- the first workers have their seats
abbrev pub invariant-loop-shard : goal.invariant-loop-shard
invariant-loop-shard g l =
    IsDealt (IsPassOf l.queue) (workers l.fn.exchange) l.fn.exchange.bound l.fn.exchange.stop l.fn.exchange.owners l.fn.exchange.halted (shares_of l.fn.shards l.fn.hands) l.shard-index l.pass l.seats.items
    × (vec_len l.seats ≡ l.shard-index)
    × (workers l.fn.exchange ≤ vec_capacity l.seats)
