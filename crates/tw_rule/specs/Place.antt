-- What one worker has: its routers, and the messages in its hand. What a call at it keeps (own, after Jefferson, Virtual Time, 1985).
use Rattle.std.specs.Prelude.{ℕ, ◌+◌, ◌≡◌, ◌<◌, ◌≤◌, Bool, true, List, [], ◌++◌, Option, map, min}
use Rattle.std.specs.List.{reduce}
use Rattle.std.specs.Option.{IsSomeAnd}
use Rattle.tw_core.specs.Good.{IsGoodPart}
use Rattle.tw_core.specs.Machine.{AreCounted, Core, times_loose}
use Rattle.tw_core.specs.Parts.{Part, SameSurplus}
use Rattle.tw_rule.specs.Board.{least_report, times_among}
use Rattle.tw_sim.specs.declared.machine.Cancel.{Cancel}
use Rattle.tw_sim.specs.declared.machine.Signed.{Signed}
use Rattle.tw_sim.specs.Seq.{log}
use Rattle.tw_sim.specs.Simulation.{Simulation, below, only, times}

-- a worker's routers with what waits for them, and the messages in its hand
pub record Place (E : Type 0) : Type 0 where
  pub worker : ℕ
  -- which routers it has
  pub owns : ℕ → Bool
  -- what each of these has handled and not undone, the newest event first
  pub history : ℕ → List E
  pub pending : List E
  -- the antimessages that came before their message
  pub kept : List E
  -- what its routers have sent
  pub outgoing : List (Signed E)
  -- what events that they have undone had sent and was not taken back
  pub held : List E
  -- the bound at each router's latest commit, how many of its events it has committed, and how many others it may have handled
  pub done : ℕ → ℕ
  pub past : ℕ → ℕ
  pub room : ℕ → ℕ
  -- the bound that it knows
  pub bound : ℕ
  -- when what an undone event has sent is taken back
  pub cancel : Cancel
  -- what it was handed and has not received
  pub mail : List (Signed E)
  -- what it took from the outgoing messages and has not deposited
  pub unsent : List (Signed E)

module _ {E : Type 0} where
  -- its routers as a machine of their own, to this stop: what they send stays in flight
  abbrev pub place_core : ℕ → Place E → Core E
  place_core stop p = record {
    history = p.history;
    pending = p.pending;
    kept = p.kept;
    flight = p.outgoing;
    held = p.held;
    done = p.done;
    past = p.past;
    room = p.room;
    bound = p.bound;
    stop = stop;
    cancel = p.cancel;
  }

  -- the messages of its own that are on their way
  abbrev pub in_hand : Place E → List (Signed E)
  in_hand p = (p.mail ++ p.unsent) ++ p.outgoing

  -- that machine with all of these in flight
  abbrev pub whole : ℕ → Place E → Core E
  whole stop p = record (place_core stop p) { flight = in_hand p }

  -- it as a part of the machine of all routers
  abbrev pub part_of : ℕ → Place E → Part E
  part_of stop p = record { owns = p.owns; core = whole stop p }

  -- the same place where its routers have become this machine
  abbrev pub with_core : Core E → Place E → Place E
  with_core C p = record p {
    history = C.history;
    pending = C.pending;
    kept = C.kept;
    outgoing = C.flight;
    held = C.held;
    done = C.done;
    past = C.past;
    room = C.room;
    bound = C.bound;
    cancel = C.cancel;
  }

  -- the same place where messages have gone from the outgoing ones to the unsent ones, or back
  abbrev pub with_unsent : List (Signed E) → List (Signed E) → Place E → Place E
  with_unsent unsent outgoing p = record p { unsent = unsent; outgoing = outgoing }

  -- the same place after a visit, which took what was unsent and handed it mail, and told it this bound
  abbrev pub after_visit : List (Signed E) → ℕ → Place E → Place E
  after_visit mail bound p = record p { mail = p.mail ++ mail; unsent = []; bound = bound }

module _ {S E : Type 0} (m : Simulation S E) where
  -- nothing loose at a place is before t
  abbrev pub NoneLooseBefore : ℕ → Place E → Type 0
  NoneLooseBefore t p = (e : E) → 0 < times_loose m (whole 0 p) e → t ≤ m.time e

  -- what a worker keeps at its place, to this stop
  pub record IsPlace (stop : ℕ) (p : Place E) : Type 0 where
    -- it is good as a part by itself
    pub good : IsGoodPart m 0 (whole stop p)
    -- no other router has handled anything here
    pub history : (r : ℕ) (e : E) → 0 < times m e (p.history r) → p.owns r ≡ true
    -- and nothing waits here for another
    pub waiting : (e : E) → 0 < times m e p.pending + times m e p.kept + times_among m e p.mail → p.owns (m.dst e) ≡ true
    -- nor is anything held here that another sent
    pub held : (e : E) → 0 < times m e p.held → p.owns (m.src e) ≡ true
    -- no commit was beyond the bound that it knows, and nothing loose is before that
    pub done : (r : ℕ) → p.done r ≤ p.bound
    pub late : NoneLooseBefore p.bound p
    -- as many events of each router are counted as committed as are committed, so that it has room for just so many others as it is told
    pub counted : AreCounted m (place_core stop p)

  -- before t, the routers of a place have handled what the one-thread run has
  abbrev pub IsRunBefore : ℕ → Place E → Type 0
  IsRunBefore t p = (r : ℕ) → r < m.routers → p.owns r ≡ true → below m t (p.history r) ≡ only m r (log m t)

  -- what a call at a place keeps
  pub record PreservesPlace (stop : ℕ) (p q : Place E) : Type 0 where
    -- the same worker's, with the same routers
    pub worker : q.worker ≡ p.worker
    pub owns : q.owns ≡ p.owns
    pub place : IsPlace stop q
    -- where nothing loose was before a time, nothing loose is
    pub late : (t : ℕ) → NoneLooseBefore t p → NoneLooseBefore t q
    -- nothing is lost or invented
    pub surplus : SameSurplus m (whole 0 p) (whole 0 q)
    -- no commit is taken back
    pub done : (r : ℕ) → p.done r ≤ q.done r
    pub bound : q.bound ≡ p.bound

  -- the least time of all that waits at a place, if anything does: pending, kept, held, or as a message that it was handed
  abbrev pub report_time : Place E → Option ℕ
  report_time p = least_report m (reduce min (map (λ e. m.time e) (p.pending ++ p.kept ++ p.held))) p.mail

  -- a report tells of all that waits at a place: there is one where something waits, and nothing that waits is before it
  abbrev pub Tells : Option ℕ → Place E → Type 0
  Tells report p = (e : E) → 0 < times m e p.pending + times m e p.kept + times_among m e p.mail + times m e p.held → IsSomeAnd report (λ time. time ≤ m.time e)
