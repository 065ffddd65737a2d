use Rattle.std.proofs.Common.{[], ◌≡◌, ◌∙◌, map, sym, subst}
use Rattle.std.specs.List.{All}
use Rattle.std.proofs.lemmas.Result.{IfOk-weaker}
use Rattle.tw_instance.specs.Tables.{items, row}
use Rattle.tw_model.specs.Case.{IsCase}
use Rattle.tw_model.specs.Net.{IsPath}
use Rattle.tw_policy.specs.Standing.{standing}
use Rattle.tw_elimination.specs.Rounds.{Eliminated}
use Rattle.tw_elimination.specs.Wheel.{AreWheel, pivot_of, wheel_in, wheel_of}
use Rattle.tw_elimination.proofs.Halting.{row_paths}
use Rattle.tw_elimination.proofs.Wheels.{none_told, told_at, told_none, told_there}
use Rattle.tw_elimination.proofs.elimination.Elimination.wheel.Goals as goal

pub wheel_of-requires : goal.wheel_of-requires
wheel_of-requires c =
    let a = c.self.inside in
    λ w. subst (λ net. All (IsPath net) (row c.deref.result.now w)) (sym c.instance.ensures.value)
    (subst (λ rows. All (IsPath a.case.now.net) (row rows w)) (sym c.deref.ensures.value)
    (row_paths a.case.now c.instance.ensures.case a.rounds (items a.left.items) c.self.invariant.lists w))

pub returns-clause-value : goal.returns-clause-value
returns-clause-value c =
    let a = c.self.inside in
    let e = c.args.self.now in
    IfOk-weaker c.wheel_of.result (λ pivots. map pivot_of pivots.items ≡ wheel_in c.instance.result.now (row c.deref.result.now))
    (λ pivots. map pivot_of pivots.items ≡ wheel_of e.case e.rounds)
    (λ pivots is. is ∙ told_at a.case.now a.rounds a.left.items c.deref.result.now c.instance.result.now e c.self.invariant.lists c.deref.ensures.value c.instance.ensures.value c.self.view_is)
    c.wheel_of.ensures.value

pub returns-clause-wheel : goal.returns-clause-wheel
returns-clause-wheel c =
    let e = c.args.self.now in
    let case_is = subst (λ (x : Eliminated). IsCase x.case) c.self.view_is c.instance.ensures.case in
    λ other. IfOk-weaker c.wheel_of.result (λ pivots. map pivot_of pivots.items ≡ wheel_of e.case e.rounds)
    (λ pivots. AreWheel e.case.net (standing e.case) (map pivot_of pivots.items))
    (λ pivots is. subst (AreWheel e.case.net (standing e.case)) (sym is) (told_there e.case e.rounds case_is c.requires.halt other))
    (returns-clause-value c)

pub returns-clause-none : goal.returns-clause-none
returns-clause-none c =
    let e = c.args.self.now in
    λ solved. IfOk-weaker c.wheel_of.result (λ pivots. map pivot_of pivots.items ≡ wheel_of e.case e.rounds) (λ pivots. pivots.items ≡ [])
    (λ pivots is. none_told pivots.items (is ∙ told_none e.case e.rounds solved)) (returns-clause-value c)
