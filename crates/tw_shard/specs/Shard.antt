-- One worker's routers, seen as a machine of their own (after Jefferson, Virtual Time, 1985).
use Rattle.std.specs.Prelude.{ℕ, ◌≡◌, ◌*◌, ◌<◌, ◌≤◌, ◌==◌, Bool, true, false, ◌&&◌, List, [], ◌∷◌, ◌++◌, filter, length, map, nat_lt, slice_index_or, slice_set, Some, Result, Err, Ok, if◌then◌else◌}
use Rattle.std.specs.List.{AllByRecursion, range_with_len}
use Rattle.std.specs.Option.{option_map_or}
use Rattle.tw_core.specs.declared.limits.TheConstants.{OPENING_ROOM}
use Rattle.tw_core.specs.declared.refusal.Refusal.{Refusal}
use Rattle.tw_core.specs.declared.refusal.Refusal.TheVariants.{NotMine, Nothing, Double, AheadFull}
use Rattle.tw_core.specs.Machine.{Core}
use Rattle.tw_core.specs.Steps.{first_pending, from, from_others, handle, held_back, is_newest, sent_back, still_held, to_send, undo, with_release, with_room}
use Rattle.tw_event.specs.declared.event.Event.{Event}
use Rattle.tw_event.specs.Order.{event_before, event_same}
use Rattle.tw_model.specs.Case.{Case, IsCase, no_case, opening_events, simulation}
use Rattle.tw_model.specs.Effect.{suits}
use Rattle.tw_model.specs.Net.{no_net}
use Rattle.tw_shard.specs.Past.{own_run}
use Rattle.tw_shard.specs.Roster.{StandOnce, has, place_in}
use Rattle.tw_shard.specs.Timeline.{Timeline, history, opening_timeline, sends_after, signed}
use Rattle.tw_sim.specs.declared.machine.Cancel.{Cancel}
use Rattle.tw_sim.specs.declared.machine.Cancel.TheVariants.{Aggressive}
use Rattle.tw_sim.specs.declared.machine.Signed.{Signed}
use Rattle.tw_sim.specs.Ordered.{insert, insert_all, least, take_out}
use Rattle.tw_sim.specs.Rising.{IsRising}
use Rattle.tw_sim.specs.Owners.{owner}
use Rattle.tw_sim.specs.Simulation.{IsFalling, below}

-- on what terms a worker has its routers: these stay, whatever it does
pub record Terms : Type 0 where
  pub case : Case
  -- which worker it is, from 0, of how many
  pub worker : ℕ
  pub workers : ℕ
  -- whether its routers retain their committed events
  pub retains : Bool
  -- when what an undone event has sent is taken back
  pub cancel : Cancel

-- the routers of one worker, with what waits for them and what they have sent
pub record Shard : Type 0 where
  pub terms : Terms
  -- its routers, and the timeline of each
  pub routers : List ℕ
  pub timelines : List Timeline
  pub pending : List Event
  -- the antimessages that came before their message
  pub kept : List Event
  -- what waits to be sent, in order
  pub outgoing : List (Signed Event)
  -- what events that were undone had sent, and what was neither sent again nor taken back
  pub held : List Event
  pub bound : ℕ

-- whether r is one of its routers
abbrev pub owns : Shard → ℕ → Bool
owns s r = has s.routers r

-- its routers, in the order of their timelines
abbrev pub routers : Shard → List ℕ
routers s = s.routers

-- where the timeline of router r stands
abbrev pub place : Shard → ℕ → ℕ
place s r = place_in s.routers r

-- what stands where there is no router
abbrev pub no_timeline : Timeline
no_timeline = record {
  net = no_net;
  node = 0;
  ahead = [];
  past = [];
  done = 0;
  room = OPENING_ROOM;
  case = no_case;
  retains = true;
}

-- what stands where there is no shard
abbrev pub no_shard : Shard
no_shard = record {
  terms = record { case = no_case; worker = 0; workers = 0; retains = true; cancel = Aggressive };
  routers = [];
  timelines = [];
  pending = [];
  kept = [];
  outgoing = [];
  held = [];
  bound = 0;
}

-- router r, which is one of its own
abbrev pub timeline : Shard → ℕ → Timeline
timeline s r = slice_index_or s.timelines (place s r) no_timeline

-- the shard as a machine of its own routers, to this stop: what it sends stays in flight
abbrev pub shard_core : ℕ → Shard → Core Event
shard_core stop s = record {
  history = λ r. if owns s r then history (timeline s r) else [];
  pending = s.pending;
  kept = s.kept;
  flight = s.outgoing;
  held = s.held;
  done = λ r. if owns s r then (timeline s r).done else 0;
  past = λ r. if owns s r then length (timeline s r).past else 0;
  room = λ r. if owns s r then (timeline s r).room else OPENING_ROOM;
  bound = s.bound;
  stop = stop;
  cancel = s.terms.cancel;
}

-- a machine of the routers of worker k, by the worker of each router, which has handled nothing: the opening events for them are pending
abbrev pub opening_core_by : Case → (ℕ → ℕ) → ℕ → Cancel → ℕ → Core Event
opening_core_by case who k cancel stop = record {
  history = λ r. [];
  pending = insert_all event_before (filter (λ e. who e.dst == k) (opening_events case.scenes)) [];
  kept = [];
  flight = [];
  held = [];
  done = λ r. 0;
  past = λ r. 0;
  room = λ r. OPENING_ROOM;
  bound = 0;
  stop = stop;
  cancel = cancel;
}

-- and where routers are dealt out in turn to so many workers
abbrev pub opening_core : Case → ℕ → ℕ → Cancel → ℕ → Core Event
opening_core case worker workers cancel stop = opening_core_by case (owner workers) worker cancel stop

-- worker k's shard, of so many, as it begins, by the worker of each router; its routers retain their committed events, or let them go, and
-- it takes back what undone events have sent as this says
pub record IsOpeningBy (case : Case) (who : ℕ → ℕ) (k workers : ℕ) (retains : Bool) (cancel : Cancel) (s : Shard) : Type 0 where
  -- it is that machine
  pub core_is : (stop : ℕ) → shard_core stop s ≡ opening_core_by case who k cancel stop
  -- it has the worker's routers of the case, in rising order
  pub owns_are : (r : ℕ) → owns s r ≡ (nat_lt r case.net.nodes && (who r == k))
  pub order : s.routers ≡ filter (λ r. who r == k) (range_with_len 0 case.net.nodes)
  -- and they have handled nothing
  pub routers : (r : ℕ) → owns s r ≡ true → timeline s r ≡ opening_timeline case retains r
  pub terms : s.terms ≡ record { case = case; worker = k; workers = workers; retains = retains; cancel = cancel }

-- and where routers are dealt out in turn
abbrev pub IsOpeningShard : Case → ℕ → ℕ → Bool → Cancel → Shard → Type 0
IsOpeningShard case k workers retains cancel s = IsOpeningBy case (owner workers) k workers retains cancel s

-- a step at router r, refused where r is not one of its own
abbrev pub at_own : Shard → ℕ → Result (Core Event) Refusal → Result (Core Event) Refusal
at_own s r outcome = if owns s r then outcome else Err NotMine

-- router r handles its first pending event
abbrev pub handling : ℕ → Shard → ℕ → Result (Core Event) Refusal
handling stop s r = let m = simulation s.terms.case in at_own s r (handle m (shard_core stop s) r (first_pending m (shard_core stop s) r))

-- the router of the least of all pending events handles it, where that one is before the stop
abbrev pub handling_least : ℕ → Shard → Result (Core Event) Refusal
handling_least stop s =
    option_map_or (λ e. if nat_lt e.time stop then handling stop s e.dst else Err Nothing) (least event_before s.pending) (Err Nothing)

-- router r undoes the newest event of its history
abbrev pub undoing : ℕ → Shard → ℕ → Result (Core Event) Refusal
undoing stop s r = let m = simulation s.terms.case in at_own s r (undo m (shard_core stop s) r ((shard_core stop s).history r))

-- what router r holds is taken back
abbrev pub releasing : ℕ → Shard → ℕ → Result (Core Event) Refusal
releasing stop s r = at_own s r (Ok (with_release (simulation s.terms.case) (shard_core stop s) r))

-- router r has twice the room
abbrev pub widening : ℕ → Shard → ℕ → Result (Core Event) Refusal
widening stop s r = at_own s r (Ok (with_room (simulation s.terms.case) (shard_core stop s) r))

-- the later shard has the same routers, on the same terms
pub record IsSameShare (s t : Shard) : Type 0 where
  pub terms : t.terms ≡ s.terms
  pub routers : t.routers ≡ s.routers

-- with another timeline of router r
abbrev pub with_timeline : Shard → ℕ → Timeline → Shard
with_timeline s r t = record s { timelines = slice_set s.timelines (place s r) t }

-- router r has twice the room
abbrev pub widened_at : Shard → ℕ → Shard
widened_at s r = with_timeline s r (record (timeline s r) { room = 2 * (timeline s r).room })

-- what e sends, or sent, at router r after this history
abbrev pub sends_of : Shard → ℕ → List Event → Event → List Event
sends_of s r older e = sends_after (timeline s r) older e

-- router r has handled e, which was pending: what e sends goes out, but for what is held
abbrev pub handled_at : Shard → ℕ → Event → Shard
handled_at s r e = record s {
  timelines = slice_set s.timelines (place s r) (record (timeline s r) { ahead = e ∷ (timeline s r).ahead });
  pending = take_out event_same e s.pending;
  outgoing = s.outgoing ++ map (signed true) (to_send (simulation s.terms.case) (sends_of s r (history (timeline s r)) e) s.held);
  held = still_held (simulation s.terms.case) (sends_of s r (history (timeline s r)) e) s.held;
}

-- router r has undone e, its newest event, of which older are those that it can undo as well: what e had sent is taken back, or held
abbrev pub undone_at : Shard → ℕ → Event → List Event → Shard
undone_at s r e older = record s {
  timelines = slice_set s.timelines (place s r) (record (timeline s r) { ahead = older });
  pending = insert event_before e s.pending;
  outgoing = s.outgoing ++ sent_back (simulation s.terms.case) s.terms.cancel (sends_of s r (older ++ (timeline s r).past) e);
  held = held_back (simulation s.terms.case) s.terms.cancel (sends_of s r (older ++ (timeline s r).past) e) s.held;
}

-- what is held for router r is taken back
abbrev pub released_at : Shard → ℕ → Shard
released_at s r = record s {
  outgoing = s.outgoing ++ map (signed false) (from (simulation s.terms.case) r s.held);
  held = from_others (simulation s.terms.case) r s.held;
}

-- whether router r may handle e, its first pending event, if no counter is full; or why not
abbrev pub may_handle : Shard → ℕ → Event → Result (Unit {0}) Refusal
may_handle s r e =
    if is_newest (simulation s.terms.case) e (history (timeline s r)) then Err Double
    else (if nat_lt (length (timeline s r).ahead) (timeline s r).room then Ok tt
    else Err AheadFull)

-- e is what router r is to handle next, to this stop, if no counter is full
pub record HandlesNext (stop : ℕ) (s : Shard) (r : ℕ) (e : Event) : Type 0 where
  -- r is one of its own
  pub own : owns s r ≡ true
  -- e is its first pending event
  pub first : first_pending (simulation s.terms.case) (shard_core stop s) r ≡ Some e
  -- before the stop
  pub soon : e.time < stop
  -- it is not the event that r handled last, and r has room for it
  pub free : may_handle s r e ≡ Ok tt
  -- and e suits it
  pub suit : suits s.terms.case.net r e ≡ true

-- router r has undone its newest event
abbrev pub IsUndone : ℕ → Shard → Shard → Type 0
IsUndone r s t = (e : Event) × (older : List Event) × ((timeline s r).ahead ≡ e ∷ older) × (e.dst ≡ r) × (t ≡ undone_at s r e older)

-- a router of the shard's is one of the case's, and there is a timeline for it, whose latest commit was not beyond the bound
pub record HasTimeline (s : Shard) (r : ℕ) : Type 0 where
  pub known : r < s.terms.case.net.nodes
  pub within : place s r < length s.timelines
  pub net : (timeline s r).net ≡ s.terms.case.net
  pub node : (timeline s r).node ≡ r
  pub done : (timeline s r).done ≤ s.bound
  pub case : (timeline s r).case ≡ s.terms.case
  pub retains : (timeline s r).retains ≡ s.terms.retains

-- the history of router r is in order, and before the bound it is that of the one-thread run
pub record FollowsRun (s : Shard) (r : ℕ) : Type 0 where
  pub falling : IsFalling (simulation s.terms.case) ((shard_core 0 s).history r)
  pub run : below (simulation s.terms.case) s.bound ((shard_core 0 s).history r) ≡ own_run s.terms.case r s.bound

-- each of its routers is there once, what is pending suits its receiver, and what is held is in order
pub record IsSoundShard (s : Shard) : Type 0 where
  pub case : IsCase s.terms.case
  pub worker : s.terms.worker < s.terms.workers
  pub apart : StandOnce s.routers
  pub long : length s.timelines ≡ length s.routers
  pub routers : (r : ℕ) → owns s r ≡ true → HasTimeline s r
  pub pending : AllByRecursion (λ e. suits s.terms.case.net e.dst e ≡ true) s.pending
  pub held : IsRising event_before event_same s.held
