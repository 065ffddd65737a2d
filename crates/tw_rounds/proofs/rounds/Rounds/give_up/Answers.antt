use Rattle.std.proofs.Common.{◌≡◌, ℕ, [], Some, slice_get, ap, sym, ◌∙◌, subst, arith}
use Rattle.std.proofs.lemmas.Bool.{eqb-true}
use Rattle.tw_core.specs.Parts.{total}
use Rattle.tw_process.specs.Behaviour.{simulation_of}
use Rattle.tw_rounds.proofs.Cuts.{all_left, all_settled, alone_at_cut, bound_at_cut, committed_at_cut, nothing}
use Rattle.tw_rounds.proofs.Lists.{on_yes, rewritten}
use Rattle.tw_rounds.specs.Alone.{AreCommitted, run_at}
use Rattle.tw_rounds.specs.Members.{IsSettled, Mailed}
use Rattle.tw_rounds.specs.Ruled.{AreRuled}
use Rattle.tw_sim.specs.Seq.{rest}
use Rattle.tw_sim.specs.Simulation.{times}
use Rattle.tw_rounds.proofs.rounds.Rounds.give_up.Goals as goal

pub queue-requires : goal.queue-requires
queue-requires g c = λ i x at.
    let a = c.self.inside in
    (c.self.invariant.2.each i x (ap (λ ys. slice_get ys i) (sym c.deref-then-are_settled.ensures.value) ∙ at)).1

pub invariant_of-result : goal.invariant_of-result
invariant_of-result g c =
    let a = c.self.inside in
    let sim = λ (model : g.row.M.Denot). simulation_of g.M.Event.Timed.parts g.M.Event.Ord.cmp (g.M.ProcessModel.behaviour model) in
    let m = sim a.model.now in
    let xs = a.members.items in
    let law = c.model_is_lawful.ensures.lawful in
    let numbered = c.model_is_lawful.ensures.numbered in
    let last : a.bound ≡ a.stop = subst (λ w. w.bound ≡ w.stop) (sym c.self.view_is) c.requires in
    let none : a.flight.items ≡ [] = nothing a.flight.items (let empty = eqb-true a.flight.len 0 (sym c.is_empty.ensures ∙ c.if-is_empty.true) in omega (arith, empty, a.flight.ok.0)) in
    let ruled = subst (λ fs. AreRuled m a.model.now a.stop a.stop fs xs) none (subst (λ b. AreRuled m a.model.now a.stop b a.flight.items xs) last c.self.invariant.2) in
    let settled = all_settled xs (subst (λ ys. (i : ℕ) (x : Mailed _ _) → slice_get ys i ≡ Some x → IsSettled x) c.deref.ensures.value (on_yes c.are_settled.result c.if-are_settled.true c.are_settled.ensures)) in
    let made = c.in-Ok.ensures.pending in
    let left : c.in-Ok.pending ≡ rest m a.stop =
    made.1 ∙ all_left m law numbered a.model.now a.stop xs ruled settled made.0 (λ e. made.2 e ∙ ap (total (λ x. times m e x.process.pending)) c.deref-then-are_settled.ensures.value) in
    let stop = a.stop in
    let run = run_at m a.model.now stop stop 0 c.in-Ok.pending in
    let was = committed_at_cut m law numbered a.model.now stop xs ruled settled c.in-Ok.pending in
    let cleared = c.clear_waiting.ensures run was.0 (subst (AreCommitted m run was.0) (sym c.deref_mut.ensures.value) was.1) in
    let items = rewritten _ c.clear_waiting.new.members _ (c.clear_waiting.auto.members ∙ c.deref_mut.ensures.len) in (
      alone_at_cut m law numbered a.model.now stop c.in-Ok.pending left (let le = c.self.invariant.1 in omega (arith, le, c.model_is_lawful.ensures.latest)),
      subst (AreCommitted m run (λ r. [])) (sym items) cleared,
      c.in-Ok.ensures.empty,
      c.in-Ok.ensures.room,
      c.self.invariant.1,
    )

pub returns-in-Ok-clause-complete : goal.returns-in-Ok-clause-complete
returns-in-Ok-clause-complete g c =
    let a = c.self.inside in
    let sim = λ (model : g.row.M.Denot). simulation_of g.M.Event.Timed.parts g.M.Event.Ord.cmp (g.M.ProcessModel.behaviour model) in
    let m = sim a.model.now in
    let xs = a.members.items in
    let law = c.model_is_lawful.ensures.lawful in
    let numbered = c.model_is_lawful.ensures.numbered in
    let last : a.bound ≡ a.stop = subst (λ w. w.bound ≡ w.stop) (sym c.self.view_is) c.requires in
    let none : a.flight.items ≡ [] = nothing a.flight.items (let empty = eqb-true a.flight.len 0 (sym c.is_empty.ensures ∙ c.if-is_empty.true) in omega (arith, empty, a.flight.ok.0)) in
    let ruled = subst (λ fs. AreRuled m a.model.now a.stop a.stop fs xs) none (subst (λ b. AreRuled m a.model.now a.stop b a.flight.items xs) last c.self.invariant.2) in
    let settled = all_settled xs (subst (λ ys. (i : ℕ) (x : Mailed _ _) → slice_get ys i ≡ Some x → IsSettled x) c.deref.ensures.value (on_yes c.are_settled.result c.if-are_settled.true c.are_settled.ensures)) in
    let made = c.in-Ok.ensures.pending in
    let left : c.in-Ok.pending ≡ rest m a.stop =
    made.1 ∙ all_left m law numbered a.model.now a.stop xs ruled settled made.0 (λ e. made.2 e ∙ ap (total (λ x. times m e x.process.pending)) c.deref-then-are_settled.ensures.value) in
    bound_at_cut m law numbered a.model.now a.stop c.in-Ok.pending left
