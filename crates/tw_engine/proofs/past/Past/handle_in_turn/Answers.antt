use Rattle.std.proofs.Common.{◌≡◌, ◌≤◌, ◌<◌, ◌∷◌, [], reverse, ap, ◌∙◌, arith}
use Rattle.tw_engine.specs.Past.{events_of}
use Rattle.tw_engine.proofs.Turns.{no_steps, past_in_turn}
use Rattle.tw_process.specs.Behaviour.{simulation_of}
use Rattle.tw_engine.proofs.past.Past.handle_in_turn.Goals as goal

pub invariant_of-self-2 : goal.invariant_of-self-2
invariant_of-self-2 g c =
    let a = c.self.inside in
    let e = c.args.event.now in
    let m = simulation_of g.M.Event.Timed.parts g.M.Event.Ord.cmp (g.M.ProcessModel.behaviour a.model.now) in
    let none : events_of (reverse a.steps.items) ≡ [] = ap (λ p. p.ahead) c.self.view_is ∙ c.requires.settled in
    let past : c.put_in_turn.new.self.past ≡ e ∷ a.committed.past = ap (λ s. s.past) c.put_in_turn.ensures in
    let since : a.done ≤ c.max-self-inside.result = omega (arith, c.max-self-inside.ensures) in
    let soon : m.time e < c.max-self-inside.result = omega (arith, c.max-self-inside.ensures, c.time.ensures) in (
      c.in_ok-handle_least.ensures.own,
      past_in_turn m (g.M.ProcessModel.behaviour a.model.now).latest (g.M.ProcessModel.is_note a.model.now) a.number a.committed.past (g.M.ProcessModel.known a.state) a.done a.steps.items
          (no_steps a.steps.items none) c.self.invariant.1 (g.M.ProcessModel.known c.handle_least.new.state) e c.put_in_turn.new.self.past c.max-self-inside.result
          c.in_ok-handle_least.ensures.state past since soon,
      ap (λ s. s.model) c.put_in_turn.ensures ∙ c.self.invariant.2,
      ap (λ s. s.number) c.put_in_turn.ensures ∙ c.self.invariant.3,
    )
