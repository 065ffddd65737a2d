-- The state of the machine whose routers run ahead and are rolled back, and how often an event stands in it (after Jefferson,
-- Virtual Time, 1985).
use Rattle.std.specs.Prelude.{ℕ, ◌+◌, ◌-◌, ◌≡◌, ◌<◌, cond, List, [], ◌∷◌, length}
use Rattle.tw_core.specs.declared.limits.TheConstants.{OPENING_ROOM}
use Rattle.tw_sim.specs.declared.machine.Cancel.{Cancel}
use Rattle.tw_sim.specs.declared.machine.Signed.{Signed}
use Rattle.tw_sim.specs.Simulation.{Simulation, below, one, times}

-- the whole machine between two steps
pub record Core (E : Type 0) : Type 0 where
  -- what each router has handled and not undone, the newest event first
  pub history : ℕ → List E
  -- the events that wait to be handled
  pub pending : List E
  -- the antimessages that came before their message
  pub kept : List E
  -- the messages on their way, in the order sent
  pub flight : List (Signed E)
  -- what events that were undone had sent and was not taken back, in order: for each of them an antimessage waits to go out
  pub held : List E
  -- the bound at each router's latest commit
  pub done : ℕ → ℕ
  -- how many events of its history, the oldest ones, each router has committed
  pub past : ℕ → ℕ
  -- how many others it may have handled
  pub room : ℕ → ℕ
  -- nothing loose is before this time, so that what is handled before it stays
  pub bound : ℕ
  -- nothing at or after this time is handled
  pub stop : ℕ
  -- when what an undone event has sent is taken back
  pub cancel : Cancel

-- how many events a router has handled and not committed
abbrev pub count_ahead : {E : Type 0} → Core E → ℕ → ℕ
count_ahead C r = length (C.history r) - C.past r

module _ {S E : Type 0} (m : Simulation S E) where
  -- how often e is on its way as a message
  abbrev pub messages : E → List (Signed E) → ℕ
  messages e [] = 0
  messages e (x ∷ xs) = cond x.plus (one m e x.event) 0 + messages e xs

  -- how often e is on its way as an antimessage
  abbrev pub antimessages : E → List (Signed E) → ℕ
  antimessages e [] = 0
  antimessages e (x ∷ xs) = cond x.plus 0 (one m e x.event) + antimessages e xs

  -- how often its router has handled e
  abbrev pub times_handled : Core E → E → ℕ
  times_handled C e = times m e (C.history (m.dst e))

  -- how often e is loose: pending, kept, on its way with either sign, or held
  abbrev pub times_loose : Core E → E → ℕ
  times_loose C e = times m e C.pending + times m e C.kept + (messages e C.flight + antimessages e C.flight) + times m e C.held

  -- the committed part of a router's history: its events before the bound of its latest commit
  abbrev pub committed : Core E → ℕ → List E
  committed C r = below m (C.done r) (C.history r)

  -- as many events of each router are counted as committed as are committed, so that it has room for just so many others as it is told
  abbrev pub AreCounted : Core E → Type 0
  AreCounted C = (r : ℕ) → C.past r ≡ length (committed C r)

  -- a machine that begins
  pub record IsOpening (C : Core E) : Type 0 where
    -- no router has handled anything
    pub history : (r : ℕ) → C.history r ≡ []
    -- each opening event is pending, as often as it opens
    pub pending : (e : E) → times m e C.pending ≡ times m e m.opening
    -- nothing is kept, in flight or held
    pub kept : C.kept ≡ []
    pub flight : C.flight ≡ []
    pub held : C.held ≡ []
    -- nothing is committed
    pub done : (r : ℕ) → C.done r ≡ 0
    pub past : (r : ℕ) → C.past r ≡ 0
    pub bound : C.bound ≡ 0
    -- and each router has the same room
    pub room : (r : ℕ) → C.room r ≡ OPENING_ROOM

  -- two machines are the same but for the order of their lists: each router has handled and committed the same and has the same room, each
  -- event waits, is kept, is on its way with either sign and is held as often, and bound and stop are the same
  pub record IsSameMachine (C D : Core E) : Type 0 where
    pub history : (r : ℕ) → r < m.routers → D.history r ≡ C.history r
    pub done : (r : ℕ) → r < m.routers → D.done r ≡ C.done r
    pub past : (r : ℕ) → r < m.routers → D.past r ≡ C.past r
    pub room : (r : ℕ) → r < m.routers → D.room r ≡ C.room r
    pub pending : (e : E) → times m e D.pending ≡ times m e C.pending
    pub kept : (e : E) → times m e D.kept ≡ times m e C.kept
    pub plus : (e : E) → messages e D.flight ≡ messages e C.flight
    pub minus : (e : E) → antimessages e D.flight ≡ antimessages e C.flight
    pub held : (e : E) → times m e D.held ≡ times m e C.held
    pub bound : D.bound ≡ C.bound
    pub stop : D.stop ≡ C.stop
