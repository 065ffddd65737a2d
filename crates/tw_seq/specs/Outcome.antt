-- What a run leaves (own).
use Rattle.std.specs.Prelude.{ℕ, List, [], ◌∷◌, map, min, reverse}
use Rattle.std.specs.List.{range_with_len}
use Rattle.tw_event.specs.declared.event.Event.{Event}
use Rattle.tw_model.specs.Quiet.{last_change}
use Rattle.tw_model.specs.Summary.{Summary, end_of}
use Rattle.tw_seq.specs.Run.{Run, router_after}

-- the least of a time and of the times of events
abbrev pub least : List Event → ℕ → ℕ
least [] t = t
least (e ∷ events) t = min e.time (least events t)

-- all that a run tells of itself: the bound is the least of the stop and of the times pending
abbrev pub outcome_of : Run → Summary
outcome_of run = record {
  stop = run.stop;
  bound = least run.pending run.stop;
  events = run.events;
  routers = map (λ r. end_of (router_after run.case run.events r).state) (range_with_len 0 run.case.net.nodes);
  pending = run.pending;
  last_change = last_change run.case (reverse run.events);
}
