-- What a call behind all messages on their way has left.
use Rattle.std.proofs.Common.{◌≡◌, ℕ, List, Ok, ap}
use Rattle.std.specs.Result.{result_and}
use Rattle.tw_core.specs.Steps.{after_arrival}
use Rattle.tw_event.specs.declared.event.Event.{Event}
use Rattle.tw_model.specs.Case.{simulation}
use Rattle.tw_shard.specs.Arrival.{receiving, refusing}
use Rattle.tw_shard.specs.Shard.{Shard, shard_core}
use Rattle.tw_sim.specs.declared.machine.Signed.{Signed}
use Rattle.tw_warp.specs.Warp.{behind}

-- once the messages are handed back, the shard behind them is the one that made the call
pub back_behind : (called back : Shard) (kept flight : List (Signed Event)) → back ≡ record called { outgoing = kept } → flight ≡ called.outgoing → behind back flight ≡ called
back_behind called back kept flight put taken = λ i. behind (put i) (taken i)

-- what may come is received
pub may_come : (s : Shard) (x : Signed Event) (stop : ℕ) → refusing s x.event ≡ Ok tt → receiving stop s x ≡ Ok (after_arrival (simulation s.terms.case) (shard_core stop s) x)
may_come s x stop welcome = ap (λ o. result_and o (Ok (after_arrival (simulation s.terms.case) (shard_core stop s) x))) welcome
