use Rattle.std.proofs.Common.{◌≡◌, refl, sym, ◌∙◌, subst}
use Rattle.std.specs.Vec.{with_items}
use Rattle.tw_seq.specs.declared.one_thread.OneThread.TheInside.{Inside}
use Rattle.tw_seq.specs.Run.{IsBegun, IsNext, IsStuck}
use Rattle.tw_seq.specs.Thread.{run_of}
use Rattle.tw_seq.proofs.Back.{back_thread, same_run}
use Rattle.tw_seq.proofs.Fields.{other_items}
use Rattle.tw_seq.proofs.Next.{IsReady, next_fits, next_full, next_net, next_stuck, next_within}
use Rattle.tw_seq.proofs.one_thread.OneThread.fault_at.Goals as goal
use Rattle.tw_seq.proofs.one_thread.OneThread.fault_at.Goals.{After-deref_mut, After-fault_at}

-- the event is the next one of the run
ready : (c : After-deref_mut) → IsReady (run_of c.self.inside) c.deref_mut.result.now c.args.event.now
ready c = record {
  begun = c.self.invariant.begun;
  are = c.deref_mut.ensures.value ∙ c.self.invariant.routers;
  next = subst (λ run. IsNext run c.args.event.now) (sym c.self.view_is) c.requires;
}

pub fault_at-requires-clause-within : goal.fault_at-requires-clause-within
fault_at-requires-clause-within c = next_within (ready (goal.at.fault_at-requires-clause-within c).After-deref_mut)

pub fault_at-requires-clause-net : goal.fault_at-requires-clause-net
fault_at-requires-clause-net c =
    next_net (ready (goal.at.fault_at-requires-clause-net c).After-deref_mut) ∙ sym c.instance-instance.ensures.value

pub fault_at-requires-clause-fits : goal.fault_at-requires-clause-fits
fault_at-requires-clause-fits c = next_fits (ready (goal.at.fault_at-requires-clause-fits c).After-deref_mut) c.self.invariant.stop

-- the fields of the run
abbrev fields : After-fault_at → Inside
fields c = record c.self.inside { routers = with_items c.self.inside.routers c.fault_at.new.routers }

-- the routers are as before
same_routers : (c : After-fault_at) → (fields c).routers.items ≡ c.self.inside.routers.items
same_routers c =
    other_items c.self.inside.routers.len c.fault_at.new.routers _ (c.fault_at.auto.routers ∙ c.deref_mut.ensures.len)
    ∙ (c.fault_at.ensures.same ∙ c.deref_mut.ensures.value)

pub invariant_of-self : goal.invariant_of-self
invariant_of-self c =
    back_thread c.self.inside _ refl (same_routers (goal.at.invariant_of-self c).After-fault_at) c.self.invariant refl refl refl refl c.self.invariant.sent

pub returns-clause-same : goal.returns-clause-same
returns-clause-same c =
    let d = (goal.at.returns-clause-same c).After-fault_at in
    sym (same_run c.self.inside (fields d) refl (same_routers d) refl refl) ∙ c.self.view_is

pub returns-clause-begun : goal.returns-clause-begun
returns-clause-begun c =
    let d = (goal.at.returns-clause-begun c).After-fault_at in
    subst IsBegun (same_run c.self.inside (fields d) refl (same_routers d) refl refl) c.self.invariant.begun

pub returns-clause-full : goal.returns-clause-full
returns-clause-full c = λ is.
    subst IsStuck c.self.view_is (next_stuck (ready (goal.at.returns-clause-full c).After-deref_mut) (c.fault_at.ensures.full.0 is))

pub returns-clause-stuck : goal.returns-clause-stuck
returns-clause-stuck c = λ stuck.
    c.fault_at.ensures.full.1 (next_full (ready (goal.at.returns-clause-stuck c).After-deref_mut) (subst IsStuck (sym c.self.view_is) stuck))
