-- What all that is scripted happens before.
use Rattle.std.proofs.Common.{ℕ, ◌<◌, ◌≤◌, arith}
use Rattle.tw_event.specs.declared.event.Event.{Event}
use Rattle.tw_event.proofs.Order.{same_self}
use Rattle.tw_model.specs.Case.{Case, opening_events, simulation}
use Rattle.tw_sim.proofs.Members.{In, times_in}
use Rattle.tw_policy.specs.Elimination.{IsScriptedBefore, after_rounds}
use Rattle.tw_policy.proofs.Rests.{after_start}

pub scripted_before : (case : Case) (start : ℕ) → IsScriptedBefore case start → (e : Event) → In e (opening_events case.scenes) → e.time < start
scripted_before case start before e i = before e (times_in (simulation case) same_self e (opening_events case.scenes) i)

pub soon_ready : (start most t n : ℕ) → after_rounds start most n ≤ t → start ≤ t
soon_ready start most t n over = let later = after_start start most n in omega arith
