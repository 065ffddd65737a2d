use Rattle.std.proofs.Common.{◌≡◌, ◌<◌, ◌++◌, ◌∷◌, [], IfSome, ap, arith, get_or, length, set, subst, sym, ◌∙◌}
use Rattle.std.proofs.lemmas.List.FromFn.{length-map-range_with_len}
use Rattle.tw_seq.specs.Run.{IsNext}
use Rattle.tw_seq.specs.Traced.{lists_of, logs_after, no_trace, noted, trace_after, traces_after}
use Rattle.tw_seq.proofs.Fields.{other_items}
use Rattle.tw_seq.proofs.Homes.{next_home}
use Rattle.tw_seq.proofs.Retained.{retained_next, retained_same, retained_within}
use Rattle.tw_seq.proofs.Logged.{next_events}
use Rattle.tw_seq.proofs.Noted.{next_traces}
use Rattle.tw_seq.proofs.traced_run.TracedRun.handle_next.Goals as goal
use Rattle.tw_seq.proofs.traced_run.TracedRun.handle_next.Goals.{After-self}

-- the event is the next one of the run
first : (c : After-self) → IsNext c.self.inside.run c.args.event.now
first c = subst (λ t. IsNext t.run c.args.event.now) (sym c.self.view_is) c.requires

-- and for one of its routers
within : (c : After-self) → c.args.event.now.dst < c.self.inside.run.case.net.nodes
within c = next_home c.self.inside.run c.args.event.now c.self.invariant.begun (first c)

pub make_room-requires : goal.make_room-requires
make_room-requires c =
    let a = c.self.inside in
    retained_within a.run.case a.run.events a.logs c.args.event.now.dst c.self.invariant.logs (within (goal.at.make_room-requires c).After-self)

pub note-requires : goal.note-requires
note-requires c =
    let run = c.self.inside.run in
    let count = ap length (c.deref_mut.ensures.value ∙ c.self.invariant.traces) ∙ length-map-range_with_len (trace_after run.case run.events) 0 run.case.net.nodes in
    let below = within (goal.at.note-requires c).After-self in
    omega arith

pub invariant_of-self-2 : goal.invariant_of-self-2
invariant_of-self-2 c =
    let d = (goal.at.invariant_of-self-2 c).After-self in
    let a = c.self.inside in
    let e = c.args.event.now in
    let told = c.in_ok-changed.ensures in
    let next = c.handle_next.new.self in
    let events : next.events ≡ a.run.events ++ e ∷ [] = next_events a.run next e (first d) told.ok in
    let traces = c.deref_mut.ensures.value ∙ c.self.invariant.traces in
    let same = retained_same a.run.case a.run.events a.logs c.make_room.new.logs c.make_room.ensures.same c.self.invariant.logs in
    record {
      begun = told.begun;
      traces =
          other_items a.traces.len c.note.new.traces _ (c.note.auto.traces ∙ c.deref_mut.ensures.len)
          ∙ (c.note.ensures
          ∙ (ap (λ ts. set ts e.dst (noted (get_or ts e.dst no_trace) e c.in_ok-changed.changed)) traces
          ∙ (next_traces a.run.case a.run.events e c.in_ok-changed.changed told.changed (within d)
          ∙ λ i. traces_after (sym told.ok.0 i) (sym events i))));
      logs =
          subst (λ lists. IfSome c.add.new.logs (λ logs. lists_of logs.items ≡ lists)) (λ i. logs_after (sym told.ok.0 i) (sym events i))
          (retained_next a.run.case a.run.events c.make_room.new.logs c.add.new.logs e c.add.ensures (within d) same);
    }
