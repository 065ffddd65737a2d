-- Which paths a router may come to use, whatever the delays: round by round fewer (after Griffin, Shepherd, Wilfong 2002, and
-- the games that are solved by elimination of Nisan, Schapira, Valiant, Zohar 2011; said for this protocol).
use Rattle.std.specs.Prelude.{ℕ, suc, zero, ◌+◌, ◌≡◌, ◌<◌, ◌≤◌, true}
use Rattle.tw_event.specs.declared.event.Event.{Event}
use Rattle.tw_event.specs.declared.event.PathNo.{PathNo}
use Rattle.tw_model.specs.Net.{Net}
use Rattle.tw_model.specs.State.{State, has_peer, hop, slot}
use Rattle.tw_model.specs.Case.{Case, opening_events, simulation}
use Rattle.tw_model.specs.Quiet.{stable_path}
use Rattle.tw_sim.specs.Simulation.{times}

module _ (net : Net) (states : ℕ → State) where
  -- at first any path; after one more round, what is best for some choice of paths that the others may use
  abbrev pub MayUse : ℕ → ℕ → PathNo → Type 0
  MayUse zero v q = Unit {0}
  MayUse (suc n) v q = (ribs : ℕ → PathNo) × ((w : ℕ) → MayUse n w (ribs w)) × (q ≡ stable_path net ribs v (states v))

  -- after so many rounds no router has a choice
  abbrev pub IsSolvedIn : ℕ → Type 0
  IsSolvedIn n = (v : ℕ) → v < net.nodes → (p q : PathNo) → MayUse n v p → MayUse n v q → p ≡ q

-- all that is scripted happens before this time
abbrev pub IsScriptedBefore : Case → ℕ → Type 0
IsScriptedBefore case start = (e : Event) → 0 < times (simulation case) e (opening_events case.scenes) → e.time < start

-- no link takes longer, in either direction
abbrev pub IsAtMost : Net → ℕ → Type 0
IsAtMost net most = (v w : ℕ) → has_peer net v w ≡ true → (hop net v (slot net v w)).delay ≤ most

-- the time so many times the longest delay after the start
abbrev pub after_rounds : ℕ → ℕ → ℕ → ℕ
after_rounds start most zero = start
after_rounds start most (suc n) = after_rounds start most n + most
