use Rattle.std.proofs.Common.{◌≡◌, ◌<◌, ℕ, length, ap, sym, ◌∙◌, subst}
use Rattle.tw_model.specs.Case.{Case}
use Rattle.tw_parallel.proofs.Coming.{fit_long}
use Rattle.tw_parallel.specs.Moving.{fit}
use Rattle.tw_parallel.specs.Vacancy.{Start}
use Rattle.tw_seq.specs.Run.{Run, complete_run}
use Rattle.tw_parallel.proofs.sim.Sim.of_run.Goals as goal

pub open-requires-clause-owners : goal.open-requires-clause-owners
open-requires-clause-owners c =
    let nodes = c.nodes-nodes.ensures.value
    ∙ (ap (λ net. net.nodes) c.instance.ensures.value ∙ (ap (λ (k : Case). k.net.nodes) c.case.ensures.value ∙ ap (λ (r : Run). r.case.net.nodes) c.run.ensures.value)) in
    fit_long c.nodes-nodes.result c.args.workers c.args.owners.now (sym c.are_fit.ensures ∙ c.if-not-are_fit.false) ∙ nodes

pub move_in-requires-clause-some : goal.move_in-requires-clause-some
move_in-requires-clause-some c = subst (λ n. 0 < n) (sym (ap (λ (s : Start). s.workers) c.in-Ok.ensures.start)) c.requires.some

pub move_in-requires-clause-fit : goal.move_in-requires-clause-fit
move_in-requires-clause-fit c =
    let nodes = c.nodes-nodes.ensures.value
    ∙ (ap (λ net. net.nodes) c.instance.ensures.value ∙ (ap (λ (k : Case). k.net.nodes) c.case.ensures.value ∙ ap (λ (r : Run). r.case.net.nodes) c.run.ensures.value)) in
    let start = c.in-Ok.ensures.start in
    (λ i. fit (start i).case.net.nodes (start i).workers c.args.owners.now)
    ∙ ((λ i. fit (sym nodes i) c.args.workers c.args.owners.now) ∙ (sym c.are_fit.ensures ∙ c.if-not-are_fit.false))

pub move_in-requires-clause-run : goal.move_in-requires-clause-run
move_in-requires-clause-run c =
    let start = c.in-Ok.ensures.start in
    c.requires.complete ∙ (λ i. complete_run (sym start i).case (sym start i).time)
