-- What a model does, and what every model keeps (own, after Jefferson, Virtual Time, 1985).
use Rattle.std.specs.Prelude.{ℕ, ◌+◌, ◌≡◌, ◌≤◌, ◌<◌, Bool, true, List, length}
use Rattle.std.specs.Ordering.{is_lt, is_eq}
use Rattle.std.specs.declared.cmp.Ordering.{Ordering}
use Rattle.tw_process.specs.Parts.{Parts}
use Rattle.tw_sim.specs.Simulation.{Simulation, state, times}

-- S is what a process knows, E an event
pub record Behaviour (S E : Type 0) : Type 0 where
  -- processes 0 to processes - 1 are there
  pub processes : ℕ
  -- what a process knows when it begins, what it knows after an event, and what it sends for it
  pub start : ℕ → S
  pub after : S → E → S
  pub sends : S → E → List E
  -- the events that nobody sent
  pub opening : List E
  -- how many events one event sends at most
  pub most : ℕ
  -- whether an event suits its receiver
  pub suits : E → Bool
  -- how many events a process has sent, and how many it sends at most
  pub number : S → ℕ
  pub limit : ℕ
  -- whether handling the event would pass a counter's limit
  pub full : S → E → Bool
  -- what is sent is at least so much later than the event that sends it, in ticks
  pub lookahead : ℕ
  -- no event at or after this time is handled, in ticks
  pub latest : ℕ

-- the simulation of a model whose events have these parts and this order
abbrev pub simulation_of : {S E : Type 0} → Parts E → (E → E → Ordering) → Behaviour S E → Simulation S E
simulation_of parts cmp b = record {
  time = parts.time;
  dst = parts.dst;
  src = parts.src;
  seq = parts.seq;
  same = λ d e. is_eq (cmp d e);
  before = λ d e. is_lt (cmp d e);
  start = b.start;
  after = b.after;
  sends = b.sends;
  opening = b.opening;
  routers = b.processes;
  most = b.most;
  suits = b.suits;
  number = b.number;
  limit = b.limit;
  full = b.full;
}

-- what is sent is at least so much later than the event that sends it
abbrev pub IsLookahead : {S E : Type 0} → Simulation S E → ℕ → Type 0
IsLookahead {S} {E} m lookahead = (s : S) (e x : E) → 0 < times m x (m.sends s e) → m.time e + lookahead ≤ m.time x

-- what every model keeps, beside the order of its events
pub record IsBehaved {S E : Type 0} (m : Simulation S E) (lookahead : ℕ) : Type 0 where
  -- what an event sends is later than it, by the lookahead at least, and comes from the process that handled it
  pub positive : 0 < lookahead
  pub ahead : IsLookahead m lookahead
  pub sender : (s : S) (e x : E) → 0 < times m x (m.sends s e) → m.src x ≡ m.dst e
  -- an event sends at most so many
  pub few : (s : S) (e : E) → length (m.sends s e) ≤ m.most
  -- an opening event suits its receiver, and so does what a process sends that has handled what suits it
  pub suit_opening : (e : E) → 0 < times m e m.opening → m.suits e ≡ true
  pub suit_sends : (e x : E) (older : List E) → ((y : E) → 0 < times m y older → (m.dst y ≡ m.dst e) × (m.suits y ≡ true)) → m.suits e ≡ true
      → 0 < times m x (m.sends (state m (m.dst e) older) e) → m.suits x ≡ true
  -- what suits is for a process that is there, and an opening event comes from one
  pub receiver : (e : E) → m.suits e ≡ true → m.dst e < m.routers
  pub opener : (e : E) → 0 < times m e m.opening → m.src e < m.routers
