use Rattle.std.proofs.Common.{◌≡◌, true, sym, subst}
use Rattle.tw_pending.specs.Order.{is_same}
use Rattle.tw_engine.specs.Process.{AreOwn}
use Rattle.tw_engine.proofs.Comings.{all-take_out}
use Rattle.tw_process.specs.Behaviour.{simulation_of}
use Rattle.tw_engine.proofs.logical.LogicalProcess.take_pending.Goals as goal

pub invariant_of-self : goal.invariant_of-self
invariant_of-self g c =
    let a = c.self.inside in
    let m = simulation_of g.M.Event.Timed.parts g.M.Event.Ord.cmp (g.M.ProcessModel.behaviour a.past.model) in (
      subst (λ events. AreOwn m a.past.number events) (sym c.remove.ensures.rest) (all-take_out (λ e. (m.dst e ≡ a.past.number) × (m.suits e ≡ true)) (is_same g.M.Event.Ord.cmp) c.args.event.now a.pending c.self.invariant.0),
      c.self.invariant.1,
      c.self.invariant.2,
      c.self.invariant.3,
    )
