use Rattle.std.proofs.Common.{length, reverse, ap, arith}
use Rattle.std.proofs.lemmas.List.{length-map, length-reverse}
use Rattle.tw_engine.proofs.past.Past.len.Goals as goal

pub returns : goal.returns
returns g c =
    let steps = c.self.inside.steps in
    let a = length-map (reverse steps.items) (λ d. d.event) in
    let b = length-reverse steps.items in
    let is = ap (λ p. length p.ahead) c.self.view_is in
    omega (arith, steps.ok.0)
