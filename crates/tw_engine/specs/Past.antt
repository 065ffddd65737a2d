-- What a logical process has handled, and what it can be taken back by (own, after Jefferson, Virtual Time, 1985).
use Rattle.std.specs.Prelude.{◌++◌, ◌-◌, ◌≡◌, ◌<◌, ℕ, true, false, not, List, [], ◌∷◌, drop, filter, length, map, nat_lt, reverse, take}
use Rattle.std.specs.List.{AllByRecursion, suffix_len}
use Rattle.tw_engine.specs.declared.past.Done.{Done}
use Rattle.tw_process.specs.declared.limits.TheConstants.{LATEST}
use Rattle.tw_sim.specs.Seq.{seq, turns}
use Rattle.tw_sim.specs.Simulation.{Simulation, only, state}

-- a process of a model, by its number, with the events that it has handled and not undone
pub record Handled (M E : Type 0) : Type 0 where
  pub model : M
  pub number : ℕ
  -- those that it can undo, and those that are committed, the newest first
  pub ahead : List E
  pub past : List E
  -- the bound at its latest commit
  pub done : ℕ

-- a process of a model, by its number, with what it has committed, the newest first
pub record Settled (M E : Type 0) : Type 0 where
  pub model : M
  pub number : ℕ
  pub past : List E

-- the events of what was handled, the newest first
abbrev pub events_of : {E N : Type 0} → List (Done E N) → List E
events_of steps = map (λ d. d.event) steps

module _ {S E N : Type 0} (m : Simulation S E) (latest : ℕ) (is_note : S → E → N → Type 0) (r : ℕ) (past : List E) where
  -- each event was one for this process, before the latest time and not refused, and has the note that handling it gave, after the committed ones
  abbrev pub AreNoted : List (Done E N) → Type 0
  AreNoted [] = Unit {0}
  AreNoted (d ∷ older) =
      is_note (state m r (events_of older ++ past)) d.event d.note × (m.full (state m r (events_of older ++ past)) d.event ≡ false) × (m.dst d.event ≡ r)
      × (m.suits d.event ≡ true) × (m.time d.event < latest) × AreNoted older

  -- what a process knows, with what it can undo, the oldest first, and the bound at its latest commit
  pub record IsPast (knows : S) (done : ℕ) (steps : List (Done E N)) : Type 0 where
    -- it is a process that is there
    pub here : r < m.routers
    -- it knows what its history leads to
    pub known : knows ≡ state m r (events_of (reverse steps) ++ past)
    -- each step can be taken back
    pub noted : AreNoted (reverse steps)
    -- and what is committed was before the bound
    pub early : AllByRecursion (λ e. m.time e < done) past

module _ {S E : Type 0} (m : Simulation S E) where
  -- the events of the sequential run, all before a time and those of so many turns behind them, the newest first
  abbrev pub log_after : ℕ → ℕ → List E
  log_after since count = (turns m count LATEST (seq m since)).log

  -- what process r has committed: its events of the sequential run so far, and later ones, in the order handled; the newest first
  abbrev pub committed_after : ℕ → ℕ → ℕ → List E → List E
  committed_after r since count later = reverse later ++ only m r (log_after since count)

  -- how many events are left of a list, which has the newest first, once the oldest are gone as far as each is before this time
  abbrev pub count_left : ℕ → List E → ℕ
  count_left time events = length events - suffix_len (λ e. nat_lt (m.time e) time) events

  -- the oldest events that can be undone become committed, as far as each is before the bound
  abbrev pub committed_to : {M : Type 0} → ℕ → Handled M E → Handled M E
  committed_to bound p = record p {
    ahead = take (count_left bound p.ahead) p.ahead;
    past = drop (count_left bound p.ahead) p.ahead ++ p.past;
    done = bound;
  }

  -- the events that are not before this time
  abbrev pub not_before : ℕ → List E → List E
  not_before time events = filter (λ e. not (nat_lt (m.time e) time)) events

  -- a process has undone the newest event that it could undo, and what that had sent stands behind what stood there
  pub record IsUndone (r : ℕ) (past ahead left before sends : List E) : Type 0 where
    -- the event
    pub newest : E
    pub was : ahead ≡ newest ∷ left
    pub sent : sends ≡ before ++ m.sends (state m r (left ++ past)) newest
