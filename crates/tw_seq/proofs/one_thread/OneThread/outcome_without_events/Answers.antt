use Rattle.std.proofs.Common.{ap, map, sym, ◌∙◌, []}
use Rattle.tw_model.specs.State.{Router}
use Rattle.tw_model.specs.Summary.{end_of}
use Rattle.tw_seq.specs.Outcome.{least, outcome_of}
use Rattle.tw_seq.specs.Thread.{run_of}
use Rattle.tw_seq.proofs.Going.{ends_of}
use Rattle.tw_seq.proofs.one_thread.OneThread.outcome_without_events.Goals as goal

pub returns-clause-value : goal.returns-clause-value
returns-clause-value c =
    let a = c.self.inside in
    let bound = c.bound.ensures ∙ ap (λ run. least run.pending run.stop) (sym c.self.view_is) in
    let routers = ends_of a.case.now (run_of a).events a.routers.items c.in_ok-routers.routers.items c.self.invariant.routers
    (c.in_ok-routers.ensures ∙ ap (map (λ (r : Router). end_of r.state)) c.deref.ensures.value) in
    let pending = c.in_ok-pending.ensures.events in
    let events = c.new.ensures.items in
    let change = c.self.invariant.change in
    (λ i. record { stop = a.stop; bound = bound i; events = events i; routers = routers i; pending = pending i; last_change = change i })
    ∙ ap (λ run. record (outcome_of run) { events = [] }) c.self.view_is
