use Rattle.std.proofs.Common.{◌≡◌, [], true, refl, ap, sym, ◌∙◌, subst, arith}
use Rattle.std.specs.List.{AllByRecursion}
use Rattle.tw_process.specs.Behaviour.{simulation_of}
use Rattle.tw_rounds.proofs.Cuts.{ruled_at_cut}
use Rattle.tw_rounds.proofs.Lists.{rewritten}
use Rattle.tw_rounds.proofs.Lone.{is_complete, pending_suits}
use Rattle.tw_rounds.specs.Alone.{AreCommitted, bound_of, dealt, run_at}
use Rattle.tw_rounds.specs.Ruled.{AreRuled}
use Rattle.tw_sim.proofs.Counts.{is_order}
use Rattle.tw_sim.proofs.Ordered.{all_counted}
use Rattle.tw_sim.specs.Simulation.{times}
use Rattle.tw_rounds.proofs.rounds.Rounds.take_over.Goals as goal

pub deal_waiting-requires-clause-each : goal.deal_waiting-requires-clause-each
deal_waiting-requires-clause-each g c =
    let a = c.alone.inside in
    let sim = λ (model : g.row.M.Denot). simulation_of g.M.Event.Timed.parts g.M.Event.Ord.cmp (g.M.ProcessModel.behaviour model) in
    let m = sim a.model.now in
    let run = run_at m a.model.now a.stop a.progress.since a.progress.turns a.pending in
    let kept = c.alone.invariant.0 in
    let are = c.alone.invariant.1 in
    let all : (e : g.row.M-Event.Denot) → times m e c.in-Ok.events.items ≡ times m e a.pending =
    subst (λ v. (e : g.row.M-Event.Denot) → times (sim v.model) e c.in-Ok.events.items ≡ times (sim v.model) e v.rest) (sym c.alone.view_is) c.in-Ok.ensures in
    (run, refl, subst (AreCommitted m run (λ r. [])) (sym c.deref_mut.ensures.value) are)

pub deal_waiting-requires-clause-suits : goal.deal_waiting-requires-clause-suits
deal_waiting-requires-clause-suits g c =
    let a = c.alone.inside in
    let sim = λ (model : g.row.M.Denot). simulation_of g.M.Event.Timed.parts g.M.Event.Ord.cmp (g.M.ProcessModel.behaviour model) in
    let m = sim a.model.now in
    let run = run_at m a.model.now a.stop a.progress.since a.progress.turns a.pending in
    let kept = c.alone.invariant.0 in
    let are = c.alone.invariant.1 in
    let all : (e : g.row.M-Event.Denot) → times m e c.in-Ok.events.items ≡ times m e a.pending =
    subst (λ v. (e : g.row.M-Event.Denot) → times (sim v.model) e c.in-Ok.events.items ≡ times (sim v.model) e v.rest) (sym c.alone.view_is) c.in-Ok.ensures in
    subst (AllByRecursion (λ e. m.suits e ≡ true)) (sym c.deref.ensures.value)
    (all_counted m.before m.same (is_order m kept.law) (λ e. m.suits e ≡ true) c.in-Ok.events.items
    (λ e h. pending_suits m kept.law run a.progress.since a.progress.turns kept e (let same = all e in omega (arith, h, same))))

pub invariant_of-result : goal.invariant_of-result
invariant_of-result g c =
    let a = c.alone.inside in
    let sim = λ (model : g.row.M.Denot). simulation_of g.M.Event.Timed.parts g.M.Event.Ord.cmp (g.M.ProcessModel.behaviour model) in
    let m = sim a.model.now in
    let run = run_at m a.model.now a.stop a.progress.since a.progress.turns a.pending in
    let kept = c.alone.invariant.0 in
    let are = c.alone.invariant.1 in
    let all : (e : g.row.M-Event.Denot) → times m e c.in-Ok.events.items ≡ times m e a.pending =
    subst (λ v. (e : g.row.M-Event.Denot) → times (sim v.model) e c.in-Ok.events.items ≡ times (sim v.model) e v.rest) (sym c.alone.view_is) c.in-Ok.ensures in
    let xs = subst (AreCommitted m run (λ r. [])) (sym c.deref_mut.ensures.value) are in
    let dealt_ = c.in-Ok-deal_waiting.ensures.ok run xs in
    let items = rewritten a.members.len c.deal_waiting.new.members _ (c.deal_waiting.auto.members ∙ c.deref_mut.ensures.len) in
    let value = c.deref_mut-in-Ok-deal_waiting.ensures.value ∙ items in
    let raised = c.raise_all.ensures.same run (dealt m c.deref.result.now) refl (subst (AreCommitted m run (dealt m c.deref.result.now)) (sym value) dealt_) in
    let whole = is_complete m kept.law run a.progress.since a.progress.turns kept (subst (λ v. bound_of (sim v.model) v ≡ v.stop) (sym c.alone.view_is) c.requires) in
    let left = ap (λ r. r.rest) whole in
    let ruled = ruled_at_cut m kept.law kept.numbered a.model.now a.stop c.deref.result.now (λ e. ap (times m e) c.deref.ensures.value ∙ (all e ∙ ap (times m e) left)) c.raise_all.new.members
    (subst (λ r. AreCommitted m r (dealt m c.deref.result.now) c.raise_all.new.members) whole raised) c.raise_all.ensures.raised in (
      omega arith,
      c.alone.invariant.4,
      subst (AreRuled m a.model.now a.stop a.stop c.new.result.items) (sym (rewritten a.members.len c.raise_all.new.members _ (c.raise_all.auto.members ∙ c.deref_mut-in-Ok-deal_waiting.ensures.len)))
          (subst (λ fs. AreRuled m a.model.now a.stop a.stop fs c.raise_all.new.members) (sym c.new.ensures.items) ruled),
      omega arith,
    )

pub invariant_of-result-in-Err : goal.invariant_of-result-in-Err
invariant_of-result-in-Err g c =
    let a = c.alone.inside in
    let sim = λ (model : g.row.M.Denot). simulation_of g.M.Event.Timed.parts g.M.Event.Ord.cmp (g.M.ProcessModel.behaviour model) in
    let m = sim a.model.now in
    let run = run_at m a.model.now a.stop a.progress.since a.progress.turns a.pending in
    let kept = c.alone.invariant.0 in
    let are = c.alone.invariant.1 in
    let all : (e : g.row.M-Event.Denot) → times m e c.in-Ok.events.items ≡ times m e a.pending =
    subst (λ v. (e : g.row.M-Event.Denot) → times (sim v.model) e c.in-Ok.events.items ≡ times (sim v.model) e v.rest) (sym c.alone.view_is) c.in-Ok.ensures in
    let xs = subst (AreCommitted m run (λ r. [])) (sym c.deref_mut.ensures.value) are in
    let some = c.in-Err.ensures.some run xs in
    let items = rewritten a.members.len c.deal_waiting.new.members _ (c.deal_waiting.auto.members ∙ c.deref_mut.ensures.len) in
    let value = c.deref_mut-in-Err.ensures.value ∙ items in
    let cleared = c.clear_waiting.ensures run some.0 (subst (AreCommitted m run some.0) (sym value) some.1) in
    let items2 = rewritten _ c.clear_waiting.new.members _ (c.clear_waiting.auto.members ∙ c.deref_mut-in-Err.ensures.len) in (
      kept,
      subst (AreCommitted m run (λ r. [])) (sym items2) cleared,
      c.alone.invariant.2,
      c.alone.invariant.3,
      c.alone.invariant.4,
    )
