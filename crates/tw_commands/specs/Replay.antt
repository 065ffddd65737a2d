-- What `replay` writes: what a list of steps leaves of the Time Warp machine of a case (own).
use Rattle.std.specs.Prelude.{ℕ, List, [], length, map, Option, None, Some, Result}
use Rattle.std.specs.List.{flat_map, range_with_len}
use Rattle.tw_commands.specs.declared.cause.Status.TheVariants.{Done}
use Rattle.tw_commands.specs.ForCase.{for_case}
use Rattle.tw_commands.specs.Output.{Output}
use Rattle.tw_core.specs.declared.refusal.Refusal.{Refusal}
use Rattle.tw_core.specs.Machine.{Core, committed}
use Rattle.tw_core.specs.Parts.{total}
use Rattle.tw_core.specs.Steps.{answers, run}
use Rattle.tw_event.specs.declared.event.Event.{Event}
use Rattle.tw_event.specs.Order.{event_before}
use Rattle.tw_model.specs.Case.{Case, simulation}
use Rattle.tw_report.specs.declared.replay.Counts.{Counts}
use Rattle.tw_report.specs.ReplayText.{Replayed, replay_text}
use Rattle.tw_sim.specs.declared.machine.Cancel.{Cancel}
use Rattle.tw_sim.specs.declared.machine.Cancel.TheVariants.{Aggressive, Lazy}
use Rattle.tw_sim.specs.declared.machine.Step.{Step}
use Rattle.tw_sim.specs.Ordered.{insert_all}
use Rattle.tw_text.specs.ReplayText.{replay_of}
use Rattle.tw_warp.specs.Committed.{ahead_at, end_at}
use Rattle.tw_warp.specs.Openings.{opening_machine}

module _ (case : Case) (C : Core Event) where
  -- how many messages are held, where they may be
  abbrev pub held_of : Cancel → Option ℕ
  held_of Aggressive = None
  held_of Lazy = Some (length C.held)

  -- how many messages are in flight, events pending, antimessages kept, events handled that are not committed, and messages held
  abbrev pub counts_of : Counts
  counts_of = record {
    flight = length C.flight;
    pending = length C.pending;
    kept = length C.kept;
    ahead = total (λ r. ahead_at case C r) (range_with_len 0 case.net.nodes);
    held = held_of C.cancel;
  }

  -- the committed events of all routers, in the order of events
  abbrev pub committed_of : List Event
  committed_of = insert_all event_before (flat_map (λ r. committed (simulation case) C r) (range_with_len 0 case.net.nodes)) []

  -- what a machine that has answered so tells of itself
  abbrev pub told_of : List (Result (Unit {0}) Refusal) → Replayed
  told_of answers = record {
    answers = answers;
    bound = C.bound;
    counts = counts_of;
    committed = committed_of;
    routers = map (end_at case C) (range_with_len 0 case.net.nodes);
  }

-- the answers to the steps, and what the machine that begins with the case becomes by them
abbrev pub replayed : ℕ → Cancel → Case → List Step → Replayed
replayed stop cancel case steps = let begin = opening_machine case cancel stop in
    told_of case (run (simulation case) begin steps) (answers (simulation case) begin steps)

-- the replay of steps of the machine of a case, to the stop, which takes back what undone events have sent at once or late
abbrev pub steps_replay : ℕ → Cancel → Case × List Step → Output
steps_replay stop cancel script = record { status = Done; text = replay_text script.0.net (replayed stop cancel script.0 script.1) }

-- the same for the case and the steps of a text, or why it has none
abbrev pub replay_output : ℕ → Cancel → List ℕ → Output
replay_output stop cancel text = for_case (steps_replay stop cancel) (replay_of text)
