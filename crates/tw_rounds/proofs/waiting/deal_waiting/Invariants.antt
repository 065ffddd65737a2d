use Rattle.std.proofs.Common.{ℕ, List, ◌≡◌, [], drop, true}
use Rattle.std.specs.List.{AllByRecursion}
use Rattle.tw_process.specs.Behaviour.{simulation_of}
use Rattle.tw_rounds.proofs.Waits.{AreLeft}
use Rattle.tw_rounds.specs.Alone.{AreCommitted}
use Rattle.tw_sequential.specs.Run.{Run}
use Rattle.tw_rounds.proofs.waiting.deal_waiting.Given as goal

-- those before are dealt out
abbrev pub invariant-loop-event : goal.invariant-loop-event
invariant-loop-event g l =
    let m = simulation_of g.M.Event.Timed.parts g.M.Event.Ord.cmp (g.M.ProcessModel.behaviour l.model) in
    record {
      so_far : (run : Run g.row.M.Denot g.row.M-Event.Denot) → AreCommitted m run (λ r. []) l.fn.members → (waits : ℕ → List g.row.M-Event.Denot) × AreCommitted m run waits l.members × AreLeft m run l.events (drop l.event-index l.events) waits;
      suited : AllByRecursion (λ e. m.suits e ≡ true) (drop l.event-index l.events);
    }
