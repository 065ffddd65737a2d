-- A logical process with what its share has to send on, as a place of the rule (own, after Jefferson, Virtual Time, 1985).
use Rattle.std.specs.Prelude.{ℕ, ◌==◌, ◌≡◌, ◌≤◌, ◌^◌, List, [], ◌∷◌, ◌++◌, Err, length, max}
use Rattle.tw_core.specs.Steps.{first_pending, handle, put}
use Rattle.tw_core.specs.declared.refusal.Refusal.TheVariants.{CounterFull}
use Rattle.tw_engine.specs.Process.{Logical, history, process_core}
use Rattle.tw_rule.specs.Place.{IsPlace, Place, PreservesPlace}
use Rattle.tw_sim.specs.declared.machine.Cancel.TheVariants.{Aggressive}
use Rattle.tw_sim.specs.declared.machine.Signed.{Signed}
use Rattle.tw_sim.specs.Seq.{insert}
use Rattle.tw_sim.specs.Simulation.{IsLawful, Simulation}

-- a process, the messages that it was handed and has not received, and those that it has to send on, and the time that it
-- tells for its share
pub record Mailed (M E : Type 0) : Type 0 where
  pub process : Logical M E
  -- the one that is received first stands last
  pub mail : List (Signed E)
  pub outbox : List (Signed E)
  pub least : ℕ

module _ {M E : Type 0} where
  -- the process as a place of its own, whose worker has its number
  abbrev pub place_of : Mailed M E → Place E
  place_of x = record {
    worker = x.process.number;
    owns = λ r. r == x.process.number;
    history = put (λ r. []) x.process.number (history x.process);
    pending = x.process.pending;
    kept = x.process.kept;
    outgoing = x.process.flight;
    held = [];
    done = put (λ r. 0) x.process.number x.process.done;
    past = put (λ r. 0) x.process.number (length x.process.past);
    room = λ r. 2 ^ 64;
    bound = x.process.bound;
    cancel = Aggressive;
    mail = x.mail;
    unsent = x.outbox;
  }

  -- the process of this number, before its opening events
  abbrev pub beginning_of : M → ℕ → Mailed M E
  beginning_of model number = record {
    process = record { model = model; number = number; ahead = []; past = []; pending = []; kept = []; flight = []; done = 0; bound = 0 };
    mail = [];
    outbox = [];
    least = 0;
  }

  -- the process knows this bound, or its own where that is later
  abbrev pub raised : ℕ → Mailed M E → Mailed M E
  raised bound x = record x { process = record x.process { bound = max x.process.bound bound } }

  -- what it has sent is taken out of it
  abbrev pub taken_out : Mailed M E → Mailed M E
  taken_out x = record x { process = record x.process { flight = [] } }

  -- it is handed a message
  abbrev pub handed : Signed E → Mailed M E → Mailed M E
  handed s x = record x { mail = x.mail ++ s ∷ [] }

  -- what it has to send on is taken out of it
  abbrev pub sent_on : Mailed M E → Mailed M E
  sent_on x = record x { outbox = [] }

  -- all that it has handled is committed, and nothing that it has sent is left with it
  pub record IsSettled (x : Mailed M E) : Type 0 where
    pub ahead : x.process.ahead ≡ []
    pub flight : x.process.flight ≡ []
    pub mail : x.mail ≡ []
    pub outbox : x.outbox ≡ []

module _ {S M E : Type 0} (m : Simulation S E) where
  -- an event more waits for a process
  abbrev pub awaiting : E → Mailed M E → Mailed M E
  awaiting e x = record x { process = record x.process { pending = insert m e x.process.pending } }

  -- a process is a place of the rule, to this stop
  pub record IsSound (stop : ℕ) (x : Mailed M E) : Type 0 where
    pub law : IsLawful m
    pub place : IsPlace m stop (place_of x)

  -- what a call at a process keeps, to this stop: it is the same process, what it has to send on, and what a call at a place keeps
  pub record Keeps (stop : ℕ) (x y : Mailed M E) : Type 0 where
    pub model : y.process.model ≡ x.process.model
    pub number : y.process.number ≡ x.process.number
    pub outbox : y.outbox ≡ x.outbox
    pub place : PreservesPlace m stop (place_of x) (place_of y)

  -- what a call keeps that handles events before a limit alone, whatever the stop beyond it
  abbrev pub KeepsTo : ℕ → Mailed M E → Mailed M E → Type 0
  KeepsTo limit x y = (stop : ℕ) → limit ≤ stop → IsSound stop x → Keeps stop x y

  -- a process is refused to handle its first pending event, which is before this time, since a counter is full
  abbrev pub IsFullBefore : ℕ → Logical M E → Type 0
  IsFullBefore time p = handle m (process_core time p) p.number (first_pending m (process_core time p) p.number) ≡ Err CounterFull
