use Rattle.std.proofs.Common.{sym, subst, ◌∙◌}
use Rattle.tw_process.specs.Behaviour.{simulation_of}
use Rattle.tw_rounds.proofs.Lists.{rewritten}
use Rattle.tw_rounds.specs.Ruled.{AreRuled}
use Rattle.tw_rounds.proofs.rounds.Rounds.deal_out.Goals as goal

pub invariant_of-self : goal.invariant_of-self
invariant_of-self g c =
    let a = c.self.inside in
    let sim = λ (model : g.row.M.Denot). simulation_of g.M.Event.Timed.parts g.M.Event.Ord.cmp (g.M.ProcessModel.behaviour model) in
    let m = sim a.model.now in
    let items = rewritten a.members.len c.deal.new.members _ (c.deal.auto.members ∙ c.deref_mut.ensures.len) in
    let was = subst (AreRuled m a.model.now a.stop a.bound a.flight.items) (sym c.deref_mut.ensures.value) c.self.invariant.2 in
    (c.self.invariant.0, c.self.invariant.1, subst (AreRuled m a.model.now a.stop a.bound c.deal.new.flight.items) (sym items) (c.deal.ensures a.model.now a.stop a.bound was), c.self.invariant.3)
