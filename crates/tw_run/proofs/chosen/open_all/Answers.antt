use Rattle.std.proofs.Common.{◌≡◌, ◌<◌, ◌≤◌, ◌∙◌, ap, arith, slice_get, sym}
use Rattle.tw_run.proofs.Going.{come_begun}
use Rattle.tw_run.specs.Dealing.{owners_after}
use Rattle.tw_pace.specs.declared.pace.TheConstants.{MOST_WORKERS_CHOSEN}
use Rattle.tw_run.proofs.chosen.open_all.Goals as goal

pub returns-in-Ok-of_run-clause-ok : goal.returns-in-Ok-of_run-clause-ok
returns-in-Ok-of_run-clause-ok g =
    let told = g.in-Ok-of_run.ensures in
    let n = g.workers_for-workers.result in
    let nodes : g.nodes-nodes.result ≡ g.args.run.run.case.net.nodes = (let a = g.nodes-nodes.ensures.value in let b = g.instance.ensures.value in let d = g.case.ensures.value in let r = g.run.ensures.value in cc) in
    let some = g.workers_for-workers.ensures.some in
    let few = g.workers_for-workers.ensures.few in
    come_begun g.args.run.run.case g.args.asked g.in-Ok-of_run.sim n g.args.run.run.stop g.in-Ok.owners.items some few told.case told.workers told.cancels told.settled told.stop
    (g.in-Ok.ensures ∙ ap (λ m. owners_after g.args.asked n m 0) nodes) (λ r known. ap (λ l. slice_get l r) (sym g.deref.ensures.value) ∙ told.owners r known)
