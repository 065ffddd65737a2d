-- A worker's meeting with the others at the table (own).
use Rattle.std.specs.Prelude.{ℕ, ◌≡◌, ◌<◌, ◌⊎◌, Bool, true, List, [], ◌∷◌, length, Option, None, Some, OnErr, OnOk, Result, Err, IsTrue}
use Rattle.tw_event.specs.declared.event.Event.{Event}
use Rattle.tw_exchange.specs.Board.{AreDealt, Board, IsBoard, is_homeless, workers}
use Rattle.tw_exchange.specs.declared.visit.VisitFault.{VisitFault}
use Rattle.tw_exchange.specs.declared.visit.VisitFault.TheVariants.{Early, NoRouter, NoWorker}
use Rattle.tw_model.specs.Case.{simulation}
use Rattle.tw_model.specs.declared.memory.OrMemory.{OrMemory}
use Rattle.tw_model.specs.declared.memory.OrMemory.TheVariants as or_memory
use Rattle.tw_rule.specs.Place.{report_time}
use Rattle.tw_sim.specs.declared.machine.Signed.{Signed}
use Rattle.tw_table.specs.declared.seat.Held.{Held}
use Rattle.tw_table.specs.Seats.{exchange_of, share_of, taken_by}
use Rattle.tw_table.specs.Shares.{Share, place_of}
use Rattle.tw_table.specs.Views.{IsMet}
use Rattle.tw_workers.specs.declared.working.Leaving.{Leaving}
use Rattle.tw_workers.specs.declared.working.Leaving.TheVariants as leaving
use Rattle.tw_workers.specs.Work.{IsAtWork, PreservesShare}

-- the exchange has just been taken from a table with this stop, and nothing is changed in it
pub record HasJustTaken (until : ℕ) (held : Held) : Type 0 where
  pub met : IsMet (share_of held ∷ []) (taken_by held)
  pub fresh : exchange_of held ≡ taken_by held
  pub board : IsBoard (taken_by held)
  pub stop : (taken_by held).stop ≡ until

-- a worker that gave share s last, and has t now, may meet: it has delivered its hand, and taken out what its shard has sent
pub record MayMeet (stop : ℕ) (s t : Share) : Type 0 where
  pub preserved : PreservesShare stop s t
  pub work : IsAtWork stop t
  pub delivered : t.mail ≡ []
  pub sorted : t.shard.outgoing ≡ []

-- what is unsent was dealt to the workers of the board, or there was no memory for that, or a router without a worker
pub record IsDealtTo (x : Board) (unsent : List (Signed Event)) (parcels : List (List (Signed Event))) (came : Result (Unit {0}) (OrMemory VisitFault)) : Type 0 where
  pub dealt : OnOk came (AreDealt x.owners (workers x) unsent parcels)
  pub wanted : OnErr came (0 < length unsent)
  pub no_router : came ≡ Err (or_memory.Fault NoRouter) → IsTrue (is_homeless unsent x)
  pub no_worker : came ≡ Err (or_memory.Fault NoWorker) → ⊥
  pub early : came ≡ Err (or_memory.Fault Early) → ⊥

-- a worker with this share has met: it knows the bound, has sent all, and has reported the least time of all that waits for its
-- routers, is held for them, or is in its hand
pub record HasTold (known : ℕ) (told : Option ℕ) (s : Share) : Type 0 where
  pub bound : s.shard.bound ≡ known
  pub sent : s.unsent ≡ []
  pub report : told ≡ report_time (simulation s.shard.terms.case) (place_of s)

-- what a worker is answered that had so much to send, by the bound, the stop, and whether the workers are halted
pub record IsAnswered (unsent bound stop : ℕ) (halted : Bool) (answer : Option Leaving) : Type 0 where
  pub goes_on : answer ≡ None → bound < stop
  pub settled : answer ≡ Some leaving.Settled → bound ≡ stop
  pub full : answer ≡ Some leaving.CounterFull → ⊥
  pub refused : answer ≡ Some leaving.Memory → 0 < unsent
  pub halts : answer ≡ Some leaving.Memory → halted ≡ true
  pub heard : answer ≡ Some leaving.Halted → halted ≡ true
  pub obeys : halted ≡ true → (answer ≡ Some leaving.Halted) ⊎ (answer ≡ Some leaving.Memory)
