-- A message that comes to a shard (after Jefferson, Virtual Time, 1985).
use Rattle.std.specs.Prelude.{ℕ, Bool, not, Result, Ok, Err, nat_lt, if◌then◌else◌}
use Rattle.std.specs.Result.{result_and}
use Rattle.tw_core.specs.Machine.{Core}
use Rattle.tw_core.specs.Steps.{after_arrival}
pub use Rattle.tw_core.specs.Steps.{AreUndone, IsRolledBack}
use Rattle.tw_event.specs.declared.event.Event.{Event}
use Rattle.tw_event.specs.Order.{event_before}
use Rattle.tw_model.specs.Case.{simulation}
use Rattle.tw_model.specs.Effect.{suits}
use Rattle.tw_shard.specs.declared.rejection.Reach.{Reach}
use Rattle.tw_shard.specs.declared.rejection.Reach.TheVariants.{From, Later}
use Rattle.tw_shard.specs.declared.rejection.Rejection.{Rejection}
use Rattle.tw_shard.specs.declared.rejection.Rejection.TheVariants.{NotMine, Late, Foreign}
use Rattle.tw_shard.specs.Shard.{Shard, owns, shard_core}
use Rattle.tw_sim.specs.declared.machine.Signed.{Signed}

-- whether an event may come to a shard, or why not
abbrev pub refusing : Shard → Event → Result (Unit {0}) Rejection
refusing s e =
    if owns s e.dst
    then (if nat_lt e.time s.bound then Err (Late s.bound)
    else (if suits s.terms.case.net e.dst e then Ok tt else Err Foreign))
    else Err NotMine

-- a message comes to a shard: the machine of its routers afterwards, or why it is refused
abbrev pub receiving : ℕ → Shard → Signed Event → Result (Core Event) Rejection
receiving stop s x = result_and (refusing s x.event) (Ok (after_arrival (simulation s.terms.case) (shard_core stop s) x))

-- whether an event that was handled, the last one, is undone for the first one
abbrev pub rolls : Reach → Event → Event → Bool
rolls Later e x = event_before e x
rolls From e x = not (event_before x e)
