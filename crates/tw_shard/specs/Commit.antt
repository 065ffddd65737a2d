-- What a commit does at a router (after Jefferson, Virtual Time, 1985).
use Rattle.std.specs.Prelude.{ℕ, ◌≡◌, ◌≤◌, ◌-◌, not, List, [], ◌∷◌, ◌++◌, drop, filter, length, nat_lt, take, Result, Ok}
use Rattle.std.specs.List.{suffix_len}
use Rattle.tw_core.specs.declared.refusal.Refusal.{Refusal}
use Rattle.tw_core.specs.Machine.{Core}
use Rattle.tw_core.specs.Steps.{with_commit}
use Rattle.tw_event.specs.declared.event.Event.{Event}
use Rattle.tw_model.specs.Case.{simulation}
use Rattle.tw_shard.specs.Shard.{Shard, at_own, shard_core, timeline, with_timeline}
use Rattle.tw_shard.specs.Timeline.{Timeline}

-- how many events are left of a list, which has the newest first, once the oldest are gone as far as each is before this time
abbrev pub count_left : ℕ → List Event → ℕ
count_left time events = length events - suffix_len (λ e. nat_lt e.time time) events

-- the oldest events that can be undone become committed, as far as each is before the bound
abbrev pub committed_to : ℕ → Timeline → Timeline
committed_to bound t = record t {
  ahead = take (count_left bound t.ahead) t.ahead;
  past = drop (count_left bound t.ahead) t.ahead ++ t.past;
  done = bound;
}

-- the events that are not before this time
abbrev pub not_before : ℕ → List Event → List Event
not_before time events = filter (λ e. not (nat_lt e.time time)) events

-- the oldest event of a list, which has the newest first, is not before this time, if there is one
abbrev pub BeginsFrom : ℕ → List Event → Type 0
BeginsFrom time events = (newer : List Event) (oldest : Event) → events ≡ newer ++ oldest ∷ [] → time ≤ oldest.time

-- none of the events that router r can undo becomes committed
abbrev pub HasNothingToCommit : Shard → ℕ → Type 0
HasNothingToCommit s r = BeginsFrom s.bound (timeline s r).ahead

-- router r has committed its events before the bound
abbrev pub committed_at : Shard → ℕ → Shard
committed_at s r = with_timeline s r (committed_to s.bound (timeline s r))

-- the events of router r before the bound are committed
abbrev pub committing : ℕ → Shard → ℕ → Result (Core Event) Refusal
committing stop s r = at_own s r (Ok (with_commit (simulation s.terms.case) (shard_core stop s) r))
