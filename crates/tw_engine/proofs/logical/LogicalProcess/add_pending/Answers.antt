use Rattle.std.proofs.Common.{◌≡◌, true, sym, subst}
use Rattle.tw_engine.proofs.Openings.{own_inserted}
use Rattle.tw_process.specs.Behaviour.{simulation_of}
use Rattle.tw_engine.proofs.logical.LogicalProcess.add_pending.Goals as goal

pub invariant_of-self-2 : goal.invariant_of-self-2
invariant_of-self-2 g c =
    let a = c.self.inside in
    let sim = λ (model : g.row.M.Denot). simulation_of g.M.Event.Timed.parts g.M.Event.Ord.cmp (g.M.ProcessModel.behaviour model) in
    let m = sim a.past.model in
    let own : m.dst c.args.event ≡ a.past.number = subst (λ p. (sim p.model).dst c.args.event ≡ p.number) (sym c.self.view_is) c.requires.own in
    let suit : m.suits c.args.event ≡ true = subst (λ p. (sim p.model).suits c.args.event ≡ true) (sym c.self.view_is) c.requires.suit in (
      own_inserted m a.past.number c.args.event a.pending c.insert.new.self c.in_ok-insert.ensures.ok own suit c.self.invariant.0,
      c.self.invariant.1,
      c.self.invariant.2,
      c.self.invariant.3,
    )
