-- What a run leaves at its stop, and who ran it (own).
use Rattle.std.specs.Prelude.{ℕ, ◌≡◌, ◌<◌, ◌≤◌, true, Some, replicate}
use Rattle.tw_commands.specs.Seq.{found_to, shown}
use Rattle.tw_exchange.specs.Board.{workers}
use Rattle.tw_handlers.specs.declared.fault.CounterFull.{CounterFull as AFullCounter}
use Rattle.tw_model.specs.Case.{Case}
use Rattle.tw_model.specs.Summary.{summary_of}
use Rattle.tw_options.specs.declared.command_line.Asked.{Asked as AnAsked}
use Rattle.tw_parallel.specs.Settled.{IsSettled}
use Rattle.tw_parallel.specs.Sim.{RetainsEvents, Sim, cancels_of}
use Rattle.tw_run.specs.Dealing.{AreDealtAs}
use Rattle.tw_run.specs.declared.cause.Stopped.{Stopped}
use Rattle.tw_run.specs.declared.chosen.Come.{Come}
use Rattle.tw_run.specs.declared.chosen.Come.TheVariants as come
use Rattle.tw_run.specs.declared.chosen.Tried.{Tried}
use Rattle.tw_run.specs.declared.chosen.Tried.TheVariants as tried
use Rattle.tw_run.specs.declared.cause.Stopped.TheVariants.{Memory, NoThread, Full}
use Rattle.tw_run.specs.declared.ran.By.{By}
use Rattle.tw_run.specs.declared.ran.By.TheVariants.{OneThread, Workers, OneThreadAfter}
use Rattle.tw_run.specs.declared.ran.Ran.{Ran as ARun}
use Rattle.tw_pace.specs.declared.pace.TheConstants.{MOST_WORKERS_CHOSEN}
use Rattle.tw_seq.specs.Outcome.{outcome_of}
use Rattle.tw_seq.specs.Run.{GetsStuck, complete_run}
use Rattle.tw_threads.specs.Left.{IsFullAhead}

-- it leaves what the sequential run of the case leaves at the stop that was asked for
pub record IsRunOf (case : Case) (asked : AnAsked) (ran : ARun) : Type 0 where
  pub outcome : summary_of ran.outcome ≡ shown asked.report.log (outcome_of (complete_run case asked.report.stop))
  pub found : ran.found ≡ found_to case asked.report.stop asked.report.every

-- a run of the case by n workers, which take back what undone events have sent when it was asked for
pub record IsBy (case : Case) (asked : AnAsked) (n : ℕ) (s : Sim) : Type 0 where
  pub of_case : s.case ≡ case
  pub workers : workers s.board ≡ n
  pub cancels : cancels_of s ≡ replicate n asked.cancel

-- which have come to the stop, the routers dealt out to all of them
pub record HasCome (case : Case) (asked : AnAsked) (n : ℕ) (s : Sim) : Type 0 where
  pub by : IsBy case asked n s
  pub settled : IsSettled s
  pub stop : s.board.stop ≡ asked.report.stop
  pub dealt : (checkpoints : ℕ) × AreDealtAs asked checkpoints s
  -- with the events where these are to be logged
  pub retains : asked.report.log ≡ true → RetainsEvents s

-- or to a time, as many as may be chosen
pub record HasComeTo (time : ℕ) (case : Case) (asked : AnAsked) (s : Sim) : Type 0 where
  pub some : 0 < workers s.board
  pub few : workers s.board ≤ MOST_WORKERS_CHOSEN
  pub by : IsBy case asked (workers s.board) s
  pub settled : IsSettled s
  pub stop : s.board.stop ≡ time
  pub dealt : AreDealtAs asked 0 s

-- or one of which met a full counter
pub record HasMetFull (case : Case) (asked : AnAsked) (n : ℕ) (s : Sim) : Type 0 where
  pub by : IsBy case asked n s
  pub full : IsFullAhead s.board.stop s.shares

-- n workers ran to the stop; or they met a full counter ahead of the run, and only then one thread ran
abbrev pub IsRunBy : Case → AnAsked → ℕ → By → Type 0
IsRunBy case asked n OneThread = ⊥
IsRunBy case asked n (Workers s) = HasCome case asked n s.value
IsRunBy case asked n (OneThreadAfter s) = HasMetFull case asked n s.value

-- these workers ran
abbrev pub IsLeftBy : Sim → By → Type 0
IsLeftBy s OneThread = ⊥
IsLeftBy s (Workers t) = t.value ≡ s
IsLeftBy s (OneThreadAfter t) = ⊥

-- so many at most have come to the stop
abbrev pub HaveComeAsChosen : Case → AnAsked → Sim → Type 0
HaveComeAsChosen case asked s = (workers s.board ≤ MOST_WORKERS_CHOSEN) × HasCome case asked (workers s.board) s

-- one thread has come to the stop, or as many workers as may be chosen; or workers have ended before
abbrev pub IsComeTo : Case → AnAsked → Come → Type 0
IsComeTo case asked (come.Alone run) = run.run ≡ complete_run case asked.report.stop
IsComeTo case asked (come.ByAll s) = HaveComeAsChosen case asked s
IsComeTo case asked come.Ended = Unit {0}

-- workers that took over at a time have come to the stop; or one thread took over from them, not before that time; or they have ended
abbrev pub IsTried : Case → AnAsked → ℕ → Tried → Type 0
IsTried case asked time (tried.Come s) = HaveComeAsChosen case asked s
IsTried case asked time (tried.Over run alone) = (run.run ≡ complete_run case alone.ticks) × (time ≤ alone.ticks) × (alone.ticks ≤ asked.report.stop)
IsTried case asked time tried.Ended = Unit {0}

-- one thread ran to the stop, or as many workers as may be chosen
abbrev pub IsRunByAny : Case → AnAsked → By → Type 0
IsRunByAny case asked OneThread = Unit {0}
IsRunByAny case asked (Workers s) = HaveComeAsChosen case asked s.value
IsRunByAny case asked (OneThreadAfter s) = ⊥

-- where workers had come so far, one thread ran
abbrev pub HasRunAnew : Sim → By → Type 0
HasRunAnew s OneThread = ⊥
HasRunAnew s (Workers t) = ⊥
HasRunAnew s (OneThreadAfter t) = t.value ≡ s

-- ---- why a run did not come to its stop

-- n workers who ran the case stopped for this
abbrev pub HasStoppedBy : Case → AnAsked → ℕ → Stopped Sim → Type 0
HasStoppedBy case asked n Memory = Unit {0}
HasStoppedBy case asked n NoThread = Unit {0}
HasStoppedBy case asked n (Full s) = HasMetFull case asked n s

-- a run stops for want of memory, or for want of a thread where it was told workers, or where the sequential run gets stuck
abbrev pub MayStop : Case → AnAsked → Stopped AFullCounter → Type 0
MayStop case asked Memory = Unit {0}
MayStop case asked NoThread = (n : ℕ) × (1 < n) × (asked.workers ≡ Some n)
MayStop case asked (Full full) = GetsStuck case asked.report.stop
