-- A router with the events that it has handled and not undone (after Jefferson, Virtual Time, 1985).
use Rattle.std.specs.Prelude.{ℕ, ◌≡◌, ◌<◌, ◌==◌, Bool, not, List, [], ◌∷◌, ◌++◌, map, reverse, if◌then◌else◌}
use Rattle.std.specs.List.{AllByRecursion}
use Rattle.tw_core.specs.declared.limits.TheConstants.{OPENING_ROOM}
use Rattle.tw_event.specs.declared.event.Event.{Event}
use Rattle.tw_handlers.specs.Record.{IsHandled}
use Rattle.tw_model.specs.Case.{Case, IsCase, simulation}
use Rattle.tw_model.specs.Effect.{effect}
use Rattle.tw_model.specs.Net.{Net}
use Rattle.tw_model.specs.State.{Router, State, opening}
use Rattle.tw_shard.specs.declared.timeline.HandledEvent.{HandledEvent}
use Rattle.tw_shard.specs.declared.timeline.Timeline.TheInside.{Inside}
use Rattle.tw_shard.specs.Past.{own_run}
use Rattle.tw_sim.specs.declared.machine.Signed.{Signed}
use Rattle.tw_sim.specs.Simulation.{IsFalling, below}

-- the router of this number, the events that it can undo and those that are committed, the newest first, and the bound at its latest commit
pub record Timeline : Type 0 where
  pub net : Net
  pub node : ℕ
  pub ahead : List Event
  pub past : List Event
  pub done : ℕ
  -- how many events that are not committed it may have handled
  pub room : ℕ
  -- the case that it is a router of
  pub case : Case
  -- whether it retains its committed events, or lets them go
  pub retains : Bool

-- all that the router has handled and not undone
abbrev pub history : Timeline → List Event
history t = t.ahead ++ t.past

-- what a router knows after a history
abbrev pub known : Net → ℕ → List Event → State
known net v [] = opening net v
known net v (e ∷ older) = (effect net e.dst (known net v older) e).state

-- whether the newest event of a history changed the router's path
abbrev pub changes_path : Net → ℕ → Event → List Event → Bool
changes_path net v e older = not ((known net v older).rib.0 == (known net v (e ∷ older)).rib.0)

-- the time of the last event of a history that changed the router's path, or 0
abbrev pub last_change_at : Net → ℕ → List Event → ℕ
last_change_at net v [] = 0
last_change_at net v (e ∷ older) = if changes_path net v e older then e.time else last_change_at net v older

-- the router as its history leaves it
abbrev pub router_of : Timeline → Router
router_of t = record { net = t.net; node = t.node; state = known t.net t.node (history t) }

-- nothing is handled
abbrev pub opening_timeline : Case → Bool → ℕ → Timeline
opening_timeline case retains v = record { net = case.net; node = v; ahead = []; past = []; done = 0; room = OPENING_ROOM; case = case; retains = retains }

-- what e sends, or sent, after this history
abbrev pub sends_after : Timeline → List Event → Event → List Event
sends_after t older e = (effect t.net t.node (known t.net t.node older) e).sends

-- e as a message, or as its antimessage
abbrev pub signed : Bool → Event → Signed Event
signed plus e = record { plus = plus; event = e }

-- the events of steps
abbrev pub events_of : List HandledEvent → List Event
events_of steps = map (λ d. d.event) steps

-- each event, the newest first, was handled with its record after the older ones
abbrev pub AreNoted : Net → ℕ → List Event → List HandledEvent → Type 0
AreNoted net v past [] = Unit {0}
AreNoted net v past (d ∷ older) =
    IsHandled net v (known net v (events_of older ++ past)) d.event d.note (known net v (d.event ∷ events_of older ++ past)) × AreNoted net v past older

-- the time of the last of these steps, the oldest first, that changed the router's path, or this time where none did
abbrev pub noted_change : ℕ → List HandledEvent → ℕ
noted_change time [] = time
noted_change time (d ∷ newer) = noted_change (if d.note.changed then d.event.time else time) newer

-- the timeline that the fields stand for
abbrev pub timeline_of : Inside → Timeline
timeline_of a = record {
  net = a.router.net;
  node = a.router.node;
  ahead = events_of (reverse a.ahead);
  past = a.past.events;
  done = a.past.done;
  room = a.room;
  case = a.past.case;
  retains = a.past.retains;
}

-- the router and the records are those of the history, committed events are before the bound at the latest commit, and the time of
-- the last change is theirs
pub record IsTimeline (a : Inside) : Type 0 where
  pub state : a.router.state ≡ known a.router.net a.router.node (history (timeline_of a))
  pub noted : AreNoted a.router.net a.router.node a.past.events (reverse a.ahead)
  pub past : AllByRecursion (λ e. e.time < a.past.done) a.past.events
  pub change : a.past_change ≡ last_change_at a.router.net a.router.node a.past.events
  pub node : a.past.node ≡ a.router.node
  pub is_case : IsCase a.past.case

-- the history is in order, and before this time it is that of the one-thread run
pub record IsRunUntil (time : ℕ) (t : Timeline) : Type 0 where
  pub falling : IsFalling (simulation t.case) (history t)
  pub run : below (simulation t.case) time (history t) ≡ own_run t.case t.node time
