use Rattle.std.proofs.Common.{◌<◌, sym, subst, ◌∙◌, arith}
use Rattle.tw_process.specs.Behaviour.{simulation_of}
use Rattle.tw_rounds.proofs.Lists.{rewritten}
use Rattle.tw_rounds.proofs.Warps.{is_stuck, warp_of}
use Rattle.tw_rounds.specs.Ruled.{AreRuled}
use Rattle.tw_rounds.specs.Warp.{IsStuck}
use Rattle.tw_rounds.proofs.rounds.Rounds.tell.Goals as goal

pub tell-requires-clause-fits : goal.tell-requires-clause-fits
tell-requires-clause-fits g c =
    let over = c.if-self.false in
    omega (arith, c.self.invariant.1, c.model_is_lawful.ensures.latest)

pub invariant_of-self : goal.invariant_of-self
invariant_of-self g c =
    let a = c.self.inside in
    let sim = λ (model : g.row.M.Denot). simulation_of g.M.Event.Timed.parts g.M.Event.Ord.cmp (g.M.ProcessModel.behaviour model) in
    let m = sim a.model.now in
    let over = c.if-self.false in
    let before : a.bound < a.stop = omega arith in
    let items = rewritten a.members.len c.tell.new.members _ (c.tell.auto.members ∙ c.deref_mut.ensures.len) in
    let was = subst (AreRuled m a.model.now a.stop a.bound a.flight.items) (sym c.deref_mut.ensures.value) c.self.invariant.2 in
    (c.self.invariant.0, c.self.invariant.1, subst (AreRuled m a.model.now a.stop a.bound a.flight.items) (sym items) (c.tell.ensures.ruled a.model.now a.stop a.flight.items before was), c.self.invariant.3)

pub returns-clause-full : goal.returns-clause-full
returns-clause-full g c = λ told.
    let a = c.self.inside in
    let sim = λ (model : g.row.M.Denot). simulation_of g.M.Event.Timed.parts g.M.Event.Ord.cmp (g.M.ProcessModel.behaviour model) in
    let m = sim a.model.now in
    let over = c.if-self.false in
    let before : a.bound < a.stop = omega arith in
    let items = rewritten a.members.len c.tell.new.members _ (c.tell.auto.members ∙ c.deref_mut.ensures.len) in
    let was = subst (AreRuled m a.model.now a.stop a.bound a.flight.items) (sym c.deref_mut.ensures.value) c.self.invariant.2 in
    subst (λ xs. IsStuck m (warp_of a.model.now a.stop a.bound xs)) (sym items)
    (is_stuck m a.model.now a.stop a.bound a.flight.items c.tell.new.members (c.tell.ensures.ruled a.model.now a.stop a.flight.items before was)
    (c.tell.ensures.full a.model.now a.stop a.flight.items before was told))
