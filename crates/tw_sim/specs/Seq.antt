-- The sequential run: again and again the least pending event is handled, and its sends are added (own, after Griffin,
-- Shepherd, Wilfong 2002).
use Rattle.std.specs.Prelude.{ℕ, suc, zero, ◌+◌, ◌-◌, ◌^◌, cond, List, [], ◌∷◌, nat_lt, if◌then◌else◌}
use Rattle.tw_sim.specs.Ordered as ordered
use Rattle.tw_sim.specs.Simulation.{Simulation, state, only}

-- the events handled, newest first, and the events pending, the least first
pub record World (E : Type 0) : Type 0 where
  pub log : List E
  pub rest : List E

module _ {S E : Type 0} (m : Simulation S E) where
  -- into its place in the order
  abbrev pub insert : E → List E → List E
  insert e xs = ordered.insert m.before e xs

  -- each into its place
  abbrev pub insert_all : List E → List E → List E
  insert_all es xs = ordered.insert_all m.before es xs

  -- the least pending event is handled, where its time is below t
  abbrev pub turn : ℕ → List E → List E → World E
  turn t log [] = record { log = log; rest = [] }
  turn t log (x ∷ rest) =
      if nat_lt (m.time x) t
      then record { log = x ∷ log; rest = insert_all (m.sends (state m (m.dst x) (only m (m.dst x) log)) x) rest }
      else record { log = log; rest = x ∷ rest }

  -- so many turns
  abbrev pub turns : ℕ → ℕ → World E → World E
  turns zero t w = w
  turns (suc n) t w = turns n t (turn t w.log w.rest)

  -- nothing is handled, and the opening events are pending
  abbrev pub begin : World E
  begin = record { log = []; rest = insert_all m.opening [] }

  -- a bound on the turns that are left: an event sends at most so many, each later than itself
  abbrev pub weight : ℕ → List E → ℕ
  weight t [] = 0
  weight t (x ∷ xs) = cond (nat_lt (m.time x) t) ((m.most + 1) ^ (t - m.time x)) 0 + weight t xs

  -- when no pending event is below t any more
  unfoldable pub finished : ℕ → World E → World E
  finished t w = turns (weight t w.rest) t w

  -- the run to t, from its begin
  abbrev pub seq : ℕ → World E
  seq t = finished t begin

  -- the events before t in the order handled, the newest first
  abbrev pub log : ℕ → List E
  log t = (seq t).log

  -- the events that are pending when all before t are handled, the least first
  abbrev pub rest : ℕ → List E
  rest t = (seq t).rest

  -- what router r knows after the events before t
  abbrev pub at : ℕ → ℕ → S
  at t r = state m r (only m r (log t))
