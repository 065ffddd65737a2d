-- What a call at one router of a shard does (after Jefferson, Virtual Time, 1985).
use Rattle.std.specs.Prelude.{ℕ, ◌≡◌, ◌<◌, ◌^◌, [], Result, Ok}
use Rattle.tw_core.specs.declared.refusal.Refusal.{Refusal}
use Rattle.tw_core.specs.Machine.{Core}
use Rattle.tw_core.specs.Steps.{at_router, from, step, with_room}
use Rattle.tw_event.specs.declared.event.Event.{Event}
use Rattle.tw_model.specs.Case.{simulation}
use Rattle.tw_shard.specs.Commit.{HasNothingToCommit, committing}
use Rattle.tw_shard.specs.Shard.{Shard, handling, releasing, timeline, undoing, widening}
use Rattle.tw_sim.specs.declared.machine.Step.TheVariants as steps
use Rattle.tw_sim.specs.Simulation.{Simulation}
use Rattle.tw_warp.specs.declared.calls.RouterCall.{RouterCall}
use Rattle.tw_warp.specs.declared.calls.RouterCall.TheVariants.{Commit, Handle, Release, Undo, Widen}
use Rattle.tw_warp.specs.Warp.{TakesNone}

-- the machine after a call at router r, or why it is refused: most calls are steps, and one gives the router more room
abbrev pub after_call : {S E : Type 0} → Simulation S E → RouterCall → ℕ → Core E → Result (Core E) Refusal
after_call m Handle r C = step m C (steps.Handle r)
after_call m Undo r C = step m C (steps.Undo r)
after_call m Commit r C = step m C (steps.Commit r)
after_call m Release r C = step m C (steps.Release r)
after_call m Widen r C = at_router m r (Ok (with_room m C r))

-- such a call that takes no memory; more room takes none where the number fits
abbrev pub CallTakesNone : {S E : Type 0} → Simulation S E → RouterCall → ℕ → Core E → Type 0
CallTakesNone m Handle r C = ⊥
CallTakesNone m Undo r C = ⊥
CallTakesNone m Commit r C = TakesNone m (steps.Commit r) C
CallTakesNone m Release r C = TakesNone m (steps.Release r) C
CallTakesNone m Widen r C = C.room r < 2 ^ 63

-- and at a shard
abbrev pub FreeAt : RouterCall → Shard → ℕ → Type 0
FreeAt Handle s r = ⊥
FreeAt Undo s r = ⊥
FreeAt Commit s r = HasNothingToCommit s r
FreeAt Release s r = from (simulation s.terms.case) r s.held ≡ []
FreeAt Widen s r = (timeline s r).room < 2 ^ 63

-- the shard's routers as a machine, to this stop, after a call at router r, or why it is refused
abbrev pub calling : RouterCall → ℕ → Shard → ℕ → Result (Core Event) Refusal
calling Handle stop s r = handling stop s r
calling Undo stop s r = undoing stop s r
calling Commit stop s r = committing stop s r
calling Release stop s r = releasing stop s r
calling Widen stop s r = widening stop s r
