-- A machine in parts, each of which owns some of its routers (own).
use Rattle.std.specs.Prelude.{ℕ, ◌+◌, ◌≡◌, ◌<◌, ◌≤◌, Bool, true, cond, List, [], ◌∷◌, ◌++◌, Option, find}
use Rattle.std.specs.List.{AllByRecursion, flat_map}
use Rattle.std.specs.Option.{option_map_or}
use Rattle.tw_core.specs.Good.{IsGoodPart, times_taken_back, times_there}
use Rattle.tw_core.specs.declared.limits.TheConstants.{OPENING_ROOM}
use Rattle.tw_core.specs.Machine.{Core, antimessages, messages}
use Rattle.tw_sim.specs.declared.machine.Cancel.TheVariants.{Aggressive}
use Rattle.tw_sim.specs.declared.machine.Signed.{Signed}
use Rattle.tw_sim.specs.Simulation.{Simulation, sent, times}

-- some routers by themselves
pub record Part (E : Type 0) : Type 0 where
  -- which routers it owns
  pub owns : ℕ → Bool
  -- what these have handled, and what waits for them
  pub core : Core E

-- what the parts share
pub record Shared (E : Type 0) : Type 0 where
  -- what is on its way between them, and in the flight of none
  pub mail : List (Signed E)
  -- the bound and the stop of the whole
  pub bound : ℕ
  pub stop : ℕ

-- the sum over all of a list
abbrev pub total : {X : Type 0} → (X → ℕ) → List X → ℕ
total f [] = 0
total f (x ∷ xs) = f x + total f xs

module _ {E : Type 0} where
  -- the part that owns r, if one does
  abbrev pub owning_part : ℕ → List (Part E) → Option (Part E)
  owning_part r parts = find (λ p. p.owns r) parts

  -- what is read of the owner of r, or none where r has no owner
  abbrev pub at_owner : {X : Type 0} → (Core E → X) → X → List (Part E) → ℕ → X
  at_owner read none parts r = option_map_or (λ p. read p.core) (owning_part r parts) none

  -- the parts and what they share, as one machine
  abbrev pub assembled : Shared E → List (Part E) → Core E
  assembled shared parts = record {
    history = λ r. at_owner (λ C. C.history r) [] parts r;
    pending = flat_map (λ p. p.core.pending) parts;
    kept = flat_map (λ p. p.core.kept) parts;
    flight = shared.mail ++ flat_map (λ p. p.core.flight) parts;
    held = flat_map (λ p. p.core.held) parts;
    done = λ r. at_owner (λ C. C.done r) 0 parts r;
    past = λ r. at_owner (λ C. C.past r) 0 parts r;
    room = λ r. at_owner (λ C. C.room r) OPENING_ROOM parts r;
    bound = shared.bound;
    stop = shared.stop;
    cancel = at_owner (λ C. C.cancel) Aggressive parts 0;
  }

module _ {S E : Type 0} (m : Simulation S E) where
  -- how often e is wanted of the others: sent by its source here, or taken back
  abbrev pub times_wanted : Core E → E → ℕ
  times_wanted C e = times m e (sent m (m.src e) (C.history (m.src e))) + times_taken_back m C e

  -- the surplus of e, how often it is wanted less how often it is there, is the same in two states
  abbrev pub SameSurplus : Core E → Core E → Type 0
  SameSurplus C D = (e : E) → times_wanted D e + times_there m C e ≡ times_wanted C e + times_there m D e

  -- what a call at some routers keeps of their part of a good state, in which nothing loose was before t
  pub record PreservesPart (t : ℕ) (C D : Core E) : Type 0 where
    -- it is good still, and nothing loose is before t
    pub part : IsGoodPart m t D
    -- and nothing is lost or invented
    pub surplus : SameSurplus C D
    -- the rest stays
    pub done : D.done ≡ C.done
    pub past : D.past ≡ C.past
    pub bound : D.bound ≡ C.bound
    pub stop : D.stop ≡ C.stop
    pub cancel : D.cancel ≡ C.cancel

  -- all that is handled, waits or is kept is for some routers alone, and all that is held was sent by them
  pub record IsOwn (owns : ℕ → Bool) (C : Core E) : Type 0 where
    -- no other router has handled anything
    pub history : (r : ℕ) (e : E) → 0 < times m e (C.history r) → owns r ≡ true
    -- and nothing waits for another
    pub waiting : (e : E) → 0 < times m e C.pending + times m e C.kept → owns (m.dst e) ≡ true
    -- nor is anything held that another sent
    pub held : (e : E) → 0 < times m e C.held → owns (m.src e) ≡ true

  -- what each part keeps by itself
  pub record IsPart (shared : Shared E) (p : Part E) : Type 0 where
    -- its part of a good state, to the stop that all share; nothing of its own that is loose is before the bound that all share
    pub good : IsGoodPart m shared.bound (record p.core { stop = shared.stop })
    -- no commit was beyond that bound
    pub done : (r : ℕ) → p.core.done r ≤ shared.bound
    -- it has only what is for routers that it owns
    pub own : IsOwn p.owns p.core

  -- the parts add up to a machine
  pub record AddUp (shared : Shared E) (parts : List (Part E)) : Type 0 where
    -- each router has one owner
    pub once : (r : ℕ) → r < m.routers → total (λ p. cond (p.owns r) 1 0) parts ≡ 1
    -- each part keeps its own
    pub each : AllByRecursion (IsPart shared) parts
    -- the bound is not beyond the stop
    pub bound : shared.bound ≤ shared.stop
    -- no mail is before the bound, and each suits its receiver
    pub late : (e : E) → 0 < messages m e shared.mail + antimessages m e shared.mail → shared.bound ≤ m.time e
    pub suit : (e : E) → 0 < messages m e shared.mail + antimessages m e shared.mail → m.suits e ≡ true
    -- the surpluses of all parts and the opening events add up to the mail
    pub balance : (e : E) → total (λ p. times_wanted p.core e) parts + times m e m.opening + antimessages m e shared.mail
        ≡ total (λ p. times_there m p.core e) parts + messages m e shared.mail
