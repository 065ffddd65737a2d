-- What is simulated: routers that handle events and send others, whatever they know (own, after Jefferson 1985). Said once for
-- every protocol.
use Rattle.std.specs.Prelude.{ℕ, ◌+◌, ◌≡◌, ◌≤◌, ◌<◌, ◌==◌, Bool, true, false, List, [], ◌∷◌, ◌++◌, length, nat_lt, ◌↔◌}
use Rattle.std.specs.List.{filter}
use Rattle.tw_sim.specs.Ordered as ordered

-- S is what a router knows, E an event
pub record Simulation (S E : Type 0) : Type 0 where
  -- when an event happens, which router handles it, which sent it, and the sender's number for it
  pub time : E → ℕ
  pub dst : E → ℕ
  pub src : E → ℕ
  pub seq : E → ℕ
  -- whether two events are one, and whether the first is handled before the second
  pub same : E → E → Bool
  pub before : E → E → Bool
  -- what a router knows when it begins, what it knows after an event, and what it sends for it
  pub start : ℕ → S
  pub after : S → E → S
  pub sends : S → E → List E
  -- the events that nobody sent
  pub opening : List E
  -- routers 0 to routers - 1 are there
  pub routers : ℕ
  -- how many events one event sends at most
  pub most : ℕ
  -- whether an event suits its receiver
  pub suits : E → Bool
  -- how many events a router has sent
  pub number : S → ℕ
  -- how many events a router sends at most
  pub limit : ℕ
  -- whether handling the event would pass a counter's limit
  pub full : S → E → Bool

module _ {S E : Type 0} (m : Simulation S E) where
  -- 1 where the events are the same, else 0
  abbrev pub one : E → E → ℕ
  one e x = ordered.one m.same e x

  -- how often e stands in a list
  abbrev pub times : E → List E → ℕ
  times e xs = ordered.times m.same e xs

  -- what router r knows after a history, the newest event first
  abbrev pub state : ℕ → List E → S
  state r [] = m.start r
  state r (e ∷ older) = m.after (state r older) e

  -- what the events of a history sent
  abbrev pub sent : ℕ → List E → List E
  sent r [] = []
  sent r (e ∷ older) = m.sends (state r older) e ++ sent r older

  -- newest first, no event twice
  abbrev pub IsFalling : List E → Type 0
  IsFalling [] = Unit {0}
  IsFalling (x ∷ xs) = ((e : E) → 0 < times e xs → m.before e x ≡ true) × IsFalling xs

  -- the events before time t
  abbrev pub below : ℕ → List E → List E
  below t xs = filter (λ x. nat_lt (m.time x) t) xs

  -- the events that r handles
  abbrev pub only : ℕ → List E → List E
  only r xs = filter (λ x. m.dst x == r) xs

  -- an opening event, or one that its source sent by these histories
  abbrev pub IsAsked : (ℕ → List E) → E → Type 0
  IsAsked hist e = 0 < times e m.opening + times e (sent (m.src e) (hist (m.src e)))

  -- histories that hold, of the events before t, exactly the opening ones and those that they send
  pub record AreClosed (t : ℕ) (hist : ℕ → List E) : Type 0 where
    -- each has its newest event first, and no event twice
    pub falling : (r : ℕ) → IsFalling (hist r)
    -- a router handles events for itself
    pub home : (r : ℕ) (e : E) → 0 < times e (hist r) → m.dst e ≡ r
    -- and before t alone
    pub soon : (r : ℕ) (e : E) → 0 < times e (hist r) → m.time e < t
    -- nothing is handled that was not asked for
    pub sent_in : (e : E) → 0 < times e (hist (m.dst e)) → IsAsked hist e
    -- and all that was asked for before t is handled
    pub all_in : (e : E) → m.time e < t → IsAsked hist e → 0 < times e (hist (m.dst e))

  -- what the events of a list sent, each at its own router after that router's older ones
  abbrev pub all_sent : List E → List E
  all_sent [] = []
  all_sent (f ∷ older) = m.sends (state (m.dst f) (only (m.dst f) older)) f ++ all_sent older

  -- a list, newest first, of exactly the events before t that are opening ones or sent by others of the list
  pub record IsClosed (t : ℕ) (events : List E) : Type 0 where
    pub falling : IsFalling events
    pub exact : (e : E) → (0 < times e events) ↔ ((m.time e < t) × (0 < times e m.opening + times e (all_sent events)))

-- an order of events, and what every protocol keeps
pub record IsLawful {S E : Type 0} (m : Simulation S E) : Type 0 where
  -- what is the same is equal
  pub same_is : (x y : E) → m.same x y ≡ true → x ≡ y
  -- each event is the same as itself
  pub same_self : (x : E) → m.same x x ≡ true
  -- no event is before itself
  pub not_self : (x : E) → m.before x x ≡ false
  -- what is before an event is before all that come after that one
  pub trans : (x y z : E) → m.before x y ≡ true → m.before y z ≡ true → m.before x z ≡ true
  -- of two events one is before the other, or they are equal
  pub total : (x y : E) → m.before x y ≡ false → m.before y x ≡ false → x ≡ y
  -- an event is no later than those that it is before
  pub timely : (x y : E) → m.before x y ≡ true → m.time x ≤ m.time y
  -- what an event sends is later than it
  pub later : (s : S) (e x : E) → 0 < times m x (m.sends s e) → m.time e < m.time x
  -- and comes from the router that handled it
  pub sender : (s : S) (e x : E) → 0 < times m x (m.sends s e) → m.src x ≡ m.dst e
  -- an event sends at most so many
  pub few : (s : S) (e : E) → length (m.sends s e) ≤ m.most
  -- an opening event suits its receiver
  pub suit_opening : (e : E) → 0 < times m e m.opening → m.suits e ≡ true
  -- and so does what a router sends that has handled what suits it
  pub suit_sends : (e x : E) (older : List E) → ((y : E) → 0 < times m y older → (m.dst y ≡ m.dst e) × (m.suits y ≡ true)) → m.suits e ≡ true
      → 0 < times m x (m.sends (state m (m.dst e) older) e) → m.suits x ≡ true
  -- what suits is for a router that is there
  pub receiver : (e : E) → m.suits e ≡ true → m.dst e < m.routers
  -- an opening event comes from a router that is there
  pub opener : (e : E) → 0 < times m e m.opening → m.src e < m.routers

-- a router numbers what it sends, and opening events are nobody's
pub record IsNumbered {S E : Type 0} (m : Simulation S E) : Type 0 where
  -- what is sent has numbers from the sender's count before to its count afterwards
  pub numbered : (s : S) (e x : E) → 0 < times m x (m.sends s e) → (m.number s ≤ m.seq x) × (m.seq x < m.number (m.after s e))
  -- the count never falls
  pub rising : (s : S) (e : E) → m.number s ≤ m.number (m.after s e)
  -- and stays within its limit where the event is not full
  pub within : (s : S) (e : E) → m.full s e ≡ false → m.number (m.after s e) ≤ m.limit
  -- no event is sent twice by one event
  pub once : (s : S) (e x : E) → times m x (m.sends s e) ≤ 1
  -- no event opens twice
  pub opening_once : (x : E) → times m x m.opening ≤ 1
  -- nothing that is sent is an opening event
  pub strange : (s : S) (e x : E) → 0 < times m x (m.sends s e) → times m x m.opening ≡ 0
