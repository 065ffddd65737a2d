use Rattle.std.proofs.Common.{◌≡◌, ◌≤◌, Some, slice_get, sym, subst, ap, ◌∙◌, arith}
use Rattle.tw_process.specs.Behaviour.{simulation_of}
use Rattle.tw_rounds.proofs.Members.{earliest-le}
use Rattle.tw_rounds.proofs.Stages.{bound_found}
use Rattle.tw_rounds.specs.Members.{place_of}
use Rattle.tw_rounds.specs.Ruled.{AreRuled}
use Rattle.tw_rounds.specs.Times.{earliest}
use Rattle.tw_rule.specs.Place.{NoneLooseBefore}
use Rattle.tw_sim.specs.Simulation.{IsLawful}
use Rattle.tw_rounds.proofs.rounds.Rounds.raise_bound.Goals as goal

pub invariant_of-self : goal.invariant_of-self
invariant_of-self g c =
    let a = c.self.inside in
    let sim = λ (model : g.row.M.Denot). simulation_of g.M.Event.Timed.parts g.M.Event.Ord.cmp (g.M.ProcessModel.behaviour model) in
    let m = sim a.model.now in
    let fs = a.flight.items in
    let xs = a.members.items in
    let ruled = c.self.invariant.2 in
    let least = c.least_of-least.result in
    let flying = c.least_among-flying.ensures ∙ ap (λ zs. earliest m.time zs a.stop) c.deref.ensures.value in
    let most : least ≤ earliest m.time fs a.stop = subst (λ t. least ≤ t) flying c.least_of-least.ensures.most in
    let top = earliest-le m.time fs a.stop in
    let found = bound_found m a.model.now a.stop a.bound fs xs ruled least c.self.invariant.0 most
    (λ i x at. subst (λ md. IsLawful (sim md) → NoneLooseBefore (sim md) least (place_of x)) (ruled.each i x at).1
    (c.least_of-least.ensures.loose i x (subst (λ ys. slice_get ys i ≡ Some x) (sym c.deref-2.ensures.value) at)) ruled.law) in (
      (let le = c.self.invariant.0 in omega (arith, c.max-self-inside.ensures)),
      c.self.invariant.1,
      subst (λ b. AreRuled m a.model.now a.stop b fs xs) (sym c.max-self-inside.ensures) found,
      c.self.invariant.3,
    )
