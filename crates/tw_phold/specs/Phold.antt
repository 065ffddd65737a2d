-- PHOLD (Fujimoto, Performance of Time Warp under synthetic workloads, 1990): each job that comes to a process goes on, after a
-- random delay.
use Rattle.std.specs.Prelude.{ℕ, ◌+◌, ◌-◌, ◌*◌, ◌/◌, ◌%◌, ◌^◌, bit_xor, not, List, [], ◌∷◌, nat_lt, if◌then◌else◌}
use Rattle.std.specs.List.{fold}
use Rattle.std.specs.declared.cmp.Ordering.{Ordering}
use Rattle.std.specs.declared.cmp.Ordering.TheVariants.{Equal}
use Rattle.tw_process.specs.Behaviour.{Behaviour, simulation_of}
use Rattle.tw_process.specs.First.{first}
use Rattle.tw_process.specs.Order.{event_cmp, event_parts}
use Rattle.tw_process.specs.declared.event.Event.{Event}
use Rattle.tw_process.specs.declared.limits.TheConstants.{LATEST}
use Rattle.tw_phold.specs.Random.{stepped, word_of}
use Rattle.tw_phold.specs.declared.phold.Phold.{Phold}
use Rattle.tw_phold.specs.declared.state.State.{State}
use Rattle.tw_phold.specs.declared.state.TheConstants.{MOST_HANDLED}
use Rattle.tw_sim.specs.Simulation.{Simulation}

-- a job carries nothing
abbrev pub Job : Type 0
Job = Event (Unit {0})

-- the delay that a random word gives: from the lookahead to the longest delay
abbrev pub delay_by : Phold → ℕ → ℕ
delay_by m word = m.lookahead + word % (m.longest - m.lookahead + 1)

-- where a job at this process goes by two random words: to any process, or it stays
abbrev pub target_by : Phold → ℕ → ℕ → ℕ → ℕ
target_by m here choice word = if nat_lt (choice % 1000) m.remote then word % m.processes else here

-- the job that goes on, by the next three words; a process's own opening jobs have its first numbers
abbrev pub job : Phold → State → Job → Job
job m s e = record {
  time = e.time + delay_by m (word_of (stepped s.random));
  dst = target_by m e.dst (word_of (stepped (stepped s.random))) (word_of (stepped (stepped (stepped s.random))));
  src = e.dst;
  seq = m.jobs + s.handled;
  body = tt;
}

-- the state that handling a job leaves
abbrev pub handled_one : State → State
handled_one s = record { random = stepped (stepped (stepped s.random)); handled = s.handled + 1 }

-- the word that the seed gives for a number
abbrev pub seeded : Phold → ℕ → ℕ
seeded m k = word_of ((m.seed + k) % 2 ^ 64)

-- the opening jobs are dealt out to the processes in turn
abbrev pub opening_job : Phold → ℕ → Job
opening_job m i = record {
  time = delay_by m (seeded m i);
  dst = i % m.processes;
  src = i % m.processes;
  seq = i / m.processes;
  body = tt;
}

-- what PHOLD does
abbrev pub behaviour_of : Phold → Behaviour State Job
behaviour_of m = record {
  processes = m.processes;
  start = λ r. record { random = seeded m r; handled = 0 };
  after = λ s e. handled_one s;
  sends = λ s e. job m s e ∷ [];
  opening = first (opening_job m) (m.processes * m.jobs);
  most = 1;
  suits = λ e. nat_lt e.dst m.processes;
  number = λ s. m.jobs + s.handled;
  limit = m.jobs + MOST_HANDLED;
  full = λ s e. not (nat_lt s.handled MOST_HANDLED);
  lookahead = m.lookahead;
  latest = LATEST;
}

-- jobs are ordered by time, receiver, sender and number
abbrev pub job_cmp : Job → Job → Ordering
job_cmp = event_cmp (λ a b. Equal)

-- PHOLD as a simulation
abbrev pub simulation : Phold → Simulation State Job
simulation m = simulation_of event_parts job_cmp (behaviour_of m)

-- of some states one word: of each state its random word and its count are mixed into what the states before it gave
abbrev pub mixed_in : ℕ → State → ℕ
mixed_in sum s = word_of ((bit_xor sum s.random + s.handled) % 2 ^ 64)

abbrev pub checksum : List State → ℕ
checksum states = fold mixed_in 0 states
