use Rattle.std.proofs.Common.{◌≡◌, ◌*◌, ◌≤◌, Some, refl, slice_get, sym, subst, ap, ◌∙◌, arith}
use Rattle.tw_process.specs.Behaviour.{simulation_of}
use Rattle.tw_rounds.proofs.Lists.{rewritten}
use Rattle.tw_rounds.proofs.Members.{earliest-le}
use Rattle.tw_rounds.proofs.Stages.{bound_found}
use Rattle.tw_rounds.proofs.Turns.{all_told, all_turned, chunk_shares}
use Rattle.tw_rounds.specs.Members.{place_of}
use Rattle.tw_rounds.specs.Ruled.{AreRuled}
use Rattle.tw_rounds.specs.Times.{earliest}
use Rattle.tw_rounds.specs.declared.turning.Round.{Round}
use Rattle.tw_rule.specs.Place.{NoneLooseBefore}
use Rattle.tw_sim.specs.Simulation.{IsLawful}
use Rattle.tw_rounds.proofs.rounds.Rounds.turn.Goals as goal

pub turn_all-requires-clause-may : goal.turn_all-requires-clause-may
turn_all-requires-clause-may g c = λ lifetimes formed n l.
    let a = c.self.inside in
    let sim = λ (model : g.row.M.Denot). simulation_of g.M.Event.Timed.parts g.M.Event.Ord.cmp (g.M.ProcessModel.behaviour model) in
    let ruled = subst (AreRuled (sim a.model.now) a.model.now a.stop a.bound a.flight.items) (sym c.deref_mut.ensures.value) c.self.invariant.2 in
    chunk_shares g.M.Event.Timed.parts g.M.Event.Ord.cmp g.M.ProcessModel.behaviour (record { alloc = _; bound = a.bound; limit = c.limit_of.result; stop = a.stop }) a.model.now a.flight.items (n * a.share) a.share _ _
    c.limit_of.ensures.stop c.self.invariant.1 (omega arith) refl ruled

pub invariant_of-self : goal.invariant_of-self
invariant_of-self g c =
    let a = c.self.inside in
    let sim = λ (model : g.row.M.Denot). simulation_of g.M.Event.Timed.parts g.M.Event.Ord.cmp (g.M.ProcessModel.behaviour model) in
    let m = sim a.model.now in
    let round : Round = record { alloc = _; bound = a.bound; limit = c.limit_of.result; stop = a.stop } in
    let ys = c.turn_all.new.all in
    let items = rewritten a.members.len ys _ (c.turn_all.ensures.count ∙ c.deref_mut.ensures.len) in
    let ruled = subst (AreRuled m a.model.now a.stop a.bound a.flight.items) (sym c.deref_mut.ensures.value) c.self.invariant.2 in
    let turned = all_turned g.M.Event.Timed.parts g.M.Event.Ord.cmp g.M.ProcessModel.behaviour round a.model.now a.flight.items a.share _ ys
    c.self.invariant.3 c.turn_all.ensures.count (λ n l. (c.turn_all.ensures.turned n l).rule) ruled in
    (c.self.invariant.0, c.self.invariant.1, subst (AreRuled m a.model.now a.stop a.bound a.flight.items) (sym items) turned, c.self.invariant.3)

pub invariant_of-self-2 : goal.invariant_of-self-2
invariant_of-self-2 g c =
    let a = c.self.inside in
    let sim = λ (model : g.row.M.Denot). simulation_of g.M.Event.Timed.parts g.M.Event.Ord.cmp (g.M.ProcessModel.behaviour model) in
    let m = sim a.model.now in
    let round : Round = record { alloc = _; bound = a.bound; limit = c.limit_of.result; stop = a.stop } in
    let ys = c.turn_all.new.all in
    let items = rewritten a.members.len ys _ (c.turn_all.ensures.count ∙ c.deref_mut.ensures.len) in
    let ruled = subst (AreRuled m a.model.now a.stop a.bound a.flight.items) (sym c.deref_mut.ensures.value) c.self.invariant.2 in
    let turned = all_turned g.M.Event.Timed.parts g.M.Event.Ord.cmp g.M.ProcessModel.behaviour round a.model.now a.flight.items a.share _ ys
    c.self.invariant.3 c.turn_all.ensures.count (λ n l. (c.turn_all.ensures.turned n l).rule) ruled in
    let least = c.least_told-least.result in
    let seen : c.deref-3.result.now ≡ ys = c.deref-3.ensures.value ∙ items in
    let told = all_told g.M.Event.Timed.parts g.M.Event.Ord.cmp g.M.ProcessModel.behaviour a.share least ys
    (λ n l. (c.turn_all.ensures.turned n (let count = c.turn_all.ensures.count in omega arith)).told)
    (λ n x at. c.least_told-least.ensures.told n x (subst (λ zs. slice_get zs (n * a.share) ≡ Some x) (sym seen) at)) c.self.invariant.3 in
    let flying = c.least_among-flying.ensures ∙ ap (λ fs. earliest m.time fs a.stop) c.deref-2.ensures.value in
    let low = c.least_told-least.ensures.most in
    let most : least ≤ earliest m.time a.flight.items a.stop = subst (λ t. least ≤ t) flying low in
    let top = earliest-le m.time a.flight.items a.stop in
    let found = bound_found m a.model.now a.stop a.bound a.flight.items ys turned least c.self.invariant.0 most
    (λ i x at. subst (λ md. IsLawful (sim md) → NoneLooseBefore (sim md) least (place_of x)) (turned.each i x at).1 (told i x at) turned.law) in (
      (let le = c.self.invariant.0 in omega (arith, c.max-self-inside.ensures)),
      c.self.invariant.1,
      subst (λ zs. AreRuled m a.model.now a.stop c.max-self-inside.result a.flight.items zs) (sym items) (subst (λ b. AreRuled m a.model.now a.stop b a.flight.items ys) (sym c.max-self-inside.ensures) found),
      c.self.invariant.3,
    )

pub returns-clause-same : goal.returns-clause-same
returns-clause-same g c = record { model = ap (λ w. w.model) c.self.view_is; stop = ap (λ w. w.stop) c.self.view_is }

pub returns-clause-rises : goal.returns-clause-rises
returns-clause-rises g c = let same = ap (λ w. w.bound) c.self.view_is in omega (arith, c.max-self-inside.ensures)
