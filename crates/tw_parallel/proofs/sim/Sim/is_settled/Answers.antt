use Rattle.std.proofs.Common.{◌≡◌, [], sym, ◌∙◌}
use Rattle.std.proofs.lemmas.Bool.{eq-eqb, eqb-true}
use Rattle.tw_parallel.proofs.Ends.{none_ahead, settled_from}
use Rattle.tw_parallel.specs.Sim.{machine}
use Rattle.tw_parallel.proofs.sim.Sim.is_settled.Goals as goal

pub returns-clause-value : goal.returns-clause-value
returns-clause-value c =
    let s = c.args.self.now in
    let bound : (machine s).bound ≡ (machine s).stop = sym c.bound.ensures.value ∙ (c.if-bound-stop.false ∙ c.stop.ensures.value) in
    let flight : (machine s).flight ≡ [] = c.is_still.ensures.0 c.if-not-is_still.false in
    let held : (machine s).held ≡ [] = c.holds_nothing.ensures.0 c.if-not-holds_nothing.false in (
      (λ h. settled_from s bound flight held (sym c.ahead.ensures ∙ eqb-true c.ahead.result 0 h)),
      (λ settled. eq-eqb c.ahead.result 0 (c.ahead.ensures ∙ none_ahead s settled)),
    )
