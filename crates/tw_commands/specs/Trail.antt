-- What `trail` writes: a router after its events of a run, what undoing takes back, and the router after that (own).
use Rattle.std.specs.Prelude.{ℕ, ◌<◌, ◌==◌, List, [], ◌∷◌, ◌++◌, codes, drop, take, nat_lt, if◌then◌else◌}
use Rattle.std.specs.List.{filter, flat_map}
use Rattle.tw_event.specs.declared.event.Event.{Event}
use Rattle.tw_commands.specs.declared.cause.Status.TheVariants.{Done}
use Rattle.tw_commands.specs.Output.{Output}
use Rattle.tw_commands.specs.ForCase.{StuckFor, for_case, refusal_output}
use Rattle.tw_handlers.specs.Trail.{History}
use Rattle.tw_model.specs.Case.{Case}
use Rattle.tw_model.specs.Net.{Net}
use Rattle.tw_model.specs.State.{State, opening}
use Rattle.tw_model.specs.Effect.{effect}
use Rattle.tw_model.specs.History.{state_after}
use Rattle.tw_model.specs.Summary.{end_of}
use Rattle.tw_report.specs.Lines.{event_words, router_words}
use Rattle.tw_report.specs.Words.{line}
use Rattle.tw_seq.specs.Run.{GetsStuck, complete_run}
use Rattle.tw_text.specs.Reading.{case_of}

-- the state of the trail's router after the first n events
abbrev pub state_with : Net → History → ℕ → State
state_with net t n = state_after net t.opening.node t.opening.state (take n t.events)

-- how a router stands
abbrev pub router_line : Net → ℕ → State → List ℕ
router_line net v s = line (router_words net v (end_of s))

-- a message that an event had sent
abbrev pub send_line : Net → Event → List ℕ
send_line net x = line (codes "send" ∷ event_words net x)

-- what an event had sent
abbrev pub send_lines : Net → List Event → List ℕ
send_lines net sends = flat_map (send_line net) sends

-- an event that is undone, and then what it had sent
abbrev pub undo_lines : Net → Event → List Event → List ℕ
undo_lines net e sends = line (codes "undo" ∷ event_words net e) ++ send_lines net sends

-- events that router v handled one after the other, from s on, are undone, the last one first
abbrev pub undone_lines : Net → ℕ → State → List Event → List ℕ
undone_lines net v s [] = []
undone_lines net v s (e ∷ events) = undone_lines net v (effect net v s e).state events ++ undo_lines net e (effect net v s e).sends

-- router v handles the events, and undoes all but the first ones, as many as keep says
unfoldable pub trail_text : Net → ℕ → List Event → ℕ → List ℕ
trail_text net v events keep =
    let kept = state_after net v (opening net v) (take keep events) in
    line (codes "spp-trail" ∷ codes "1" ∷ [])
    ++ (router_line net v (state_after net v (opening net v) events) ++ (undone_lines net v kept (drop keep events) ++ router_line net v kept))

-- the events of router v
abbrev pub events_at : ℕ → List Event → List Event
events_at v events = filter (λ e. e.dst == v) events

-- router v handles its events of the run of the case to the stop; refused where the case has no such router
abbrev pub trail_of : ℕ → ℕ → ℕ → Case → Output
trail_of v stop keep case =
    if nat_lt v case.net.nodes
    then record { status = Done; text = trail_text case.net v (events_at v (complete_run case stop).events) keep }
    else refusal_output (line (codes "refused" ∷ codes "option" ∷ codes "N1" ∷ codes "Router" ∷ []))

-- the same for the case of a text, or why it has none
abbrev pub trail_output : ℕ → ℕ → ℕ → List ℕ → Output
trail_output v stop keep input = for_case (trail_of v stop keep) (case_of input)

-- the case has the router, and its run gets stuck
abbrev pub FollowGetsStuck : ℕ → ℕ → Case → Type 0
FollowGetsStuck v stop case = (v < case.net.nodes) × GetsStuck case stop

-- the same for the case of a text
abbrev pub TrailGetsStuck : ℕ → ℕ → List ℕ → Type 0
TrailGetsStuck v stop input = StuckFor (FollowGetsStuck v stop) (case_of input)
