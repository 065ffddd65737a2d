-- A logical process, and the state of the machine that it is (own, after Jefferson, Virtual Time, 1985).
use Rattle.std.specs.Prelude.{◌≡◌, ◌^◌, ◌+◌, ◌++◌, ℕ, true, false, not, Bool, List, [], ◌∷◌, drop, length, map, max, nat_lt, take}
use Rattle.std.specs.List.{AllByRecursion}
use Rattle.tw_core.specs.Machine.{Core}
use Rattle.tw_core.specs.Steps.{antimessage, put}
use Rattle.tw_engine.specs.Past.{Handled, count_left}
use Rattle.tw_engine.specs.declared.reach.Reach.{Reach}
use Rattle.tw_engine.specs.declared.reach.Reach.TheVariants.{From, Later, Since}
use Rattle.tw_sim.specs.declared.machine.Cancel.TheVariants.{Aggressive}
use Rattle.tw_sim.specs.declared.machine.Signed.{Signed}
use Rattle.tw_sim.specs.Seq.{insert}
use Rattle.tw_sim.specs.Simulation.{Simulation, state}

-- a process of a model, by its number
pub record Logical (M E : Type 0) : Type 0 where
  pub model : M
  pub number : ℕ
  -- what it has handled and not undone: the events that it can undo, and those that are committed, the newest first
  pub ahead : List E
  pub past : List E
  -- what waits for it, the least first
  pub pending : List E
  -- the antimessages that came before their message, the least first
  pub kept : List E
  -- the messages and antimessages that it has sent, in the order sent, and that were not taken out
  pub flight : List (Signed E)
  -- the bound at its latest commit
  pub done : ℕ
  -- nothing that comes is before this time
  pub bound : ℕ

-- all that a process has handled and not undone, the newest first
abbrev pub history : {M E : Type 0} → Logical M E → List E
history p = p.ahead ++ p.past

-- a process with what waits for it, the antimessages that it keeps, what it has sent and the bound
abbrev pub joined : {M E : Type 0} → Handled M E → List E → List E → List (Signed E) → ℕ → Logical M E
joined p pending kept flight bound = record {
  model = p.model;
  number = p.number;
  ahead = p.ahead;
  past = p.past;
  pending = pending;
  kept = kept;
  flight = flight;
  done = p.done;
  bound = bound;
}

-- a machine in which no other process has handled or committed anything, and what is undone is taken back at once
abbrev pub process_core : {M E : Type 0} → ℕ → Logical M E → Core E
process_core stop p = record {
  history = put (λ r. []) p.number (history p);
  pending = p.pending;
  kept = p.kept;
  flight = p.flight;
  held = [];
  done = put (λ r. 0) p.number p.done;
  past = put (λ r. 0) p.number (length p.past);
  room = λ r. 2 ^ 64;
  bound = p.bound;
  stop = stop;
  cancel = Aggressive;
}

-- the later process is the same one, has committed the same, and has the same bound
pub record IsSameProcess {M E : Type 0} (p q : Logical M E) : Type 0 where
  pub model : q.model ≡ p.model
  pub number : q.number ≡ p.number
  pub past : q.past ≡ p.past
  pub done : q.done ≡ p.done
  pub bound : q.bound ≡ p.bound

module _ {S E : Type 0} (m : Simulation S E) where
  -- events that are for a process, and suit it
  abbrev pub AreOwn : ℕ → List E → Type 0
  AreOwn r events = AllByRecursion (λ e. (m.dst e ≡ r) × (m.suits e ≡ true)) events

  -- whether an event is at this time or later
  abbrev pub is_from : ℕ → E → Bool
  is_from time e = not (nat_lt (m.time e) time)

  -- whether an event that was handled is undone
  abbrev pub rolls : Reach E → E → Bool
  rolls (Later e) x = m.before e x
  rolls (From e) x = not (m.before x e)
  rolls (Since time) x = is_from time x

  -- no event that is undone is before this time
  abbrev pub begins : Reach E → ℕ
  begins (Later e) = m.time e
  begins (From e) = m.time e
  begins (Since time) = time

  module _ {M : Type 0} where
    -- a process has undone e, its newest event, of which older are those that it can undo as well: what e had sent is taken back
    abbrev pub undone_at : Logical M E → E → List E → Logical M E
    undone_at p e older = record p {
      ahead = older;
      pending = insert m e p.pending;
      flight = p.flight ++ map antimessage (m.sends (state m p.number (older ++ p.past)) e);
    }

    -- its oldest events become committed, as far as each is before the bound
    abbrev pub committed_at : Logical M E → Logical M E
    committed_at p = record p {
      ahead = take (count_left m p.bound p.ahead) p.ahead;
      past = drop (count_left m p.bound p.ahead) p.ahead ++ p.past;
      done = p.bound;
    }

    -- it has handled an event and committed it at once: its bound is behind the event
    abbrev pub handled_in_turn : E → Logical M E → Logical M E
    handled_in_turn e p = record p {
      past = e ∷ p.past;
      done = max p.done (m.time e + 1);
      bound = max p.bound (m.time e + 1);
    }

    -- a process has undone the newest event that it could undo
    abbrev pub IsOneUndone : Logical M E → Logical M E → Type 0
    IsOneUndone p q = (e : E) × (older : List E) × (p.ahead ≡ e ∷ older) × (q ≡ undone_at p e older)

-- whether the newest event of a list passes a test
abbrev pub has_newest : {E : Type 0} → (E → Bool) → List E → Bool
has_newest test [] = false
has_newest test (e ∷ older) = test e
