use Rattle.std.proofs.Common.{◌≡◌, ◌<◌, ◌∷◌, List, Some, [], slice_get, ap, sym, subst, ◌∙◌, arith}
use Rattle.tw_rounds.proofs.alone.Alone.next.Goals as goal

-- what stands first
first_is : {E : Type 0} (xs : List E) (e : E) → Some e ≡ slice_get xs 0 → (later : List E) × (xs ≡ e ∷ later)
first_is [] e h = absurd (cc)
first_is (x ∷ xs) e h = let same : e ≡ x = cc in (xs, ap (λ y. y ∷ xs) (sym same))

pub returns-in-Some-clause-some : goal.returns-in-Some-clause-some
returns-in-Some-clause-some g c =
    let soon : g.M.Event.Timed.parts.time c.in-Some.event < c.self.inside.stop = omega (arith, c.if-time-self.true, c.time.ensures) in
    let p = first_is _ c.in-Some.event c.in-Some.ensures.first in
    (p.0, sym (ap (λ run. run.rest) c.self.view_is) ∙ p.1, subst (λ run. g.M.Event.Timed.parts.time c.in-Some.event < run.stop) c.self.view_is soon)
