use Rattle.std.proofs.Common.{◌∙◌, ap, length, ◌==◌}
use Rattle.std.specs.List.{list_all}
use Rattle.tw_instance.specs.Tables.{items}
use Rattle.tw_elimination.specs.Bound.{is_solved}
use Rattle.tw_elimination.specs.Rounds.{Eliminated}
use Rattle.tw_elimination.proofs.Bounds.{solved_is}
use Rattle.tw_elimination.proofs.elimination.Elimination.is_solved.Goals as goal

pub returns : goal.returns
returns c =
    let a = c.self.inside in
    c.has_one_each.ensures ∙ (ap (λ rows. list_all (λ paths. length paths == 1) (items rows)) c.deref.ensures.value
    ∙ (solved_is a.case.now a.rounds (items a.left.items) c.self.invariant.lists ∙ ap (λ (e : Eliminated). is_solved e.case e.rounds) c.self.view_is))
