use Rattle.std.proofs.Common.{◌∙◌, ap, arith, subst, sym}
use Rattle.std.proofs.lemmas.Bool.{not-false}
use Rattle.std.specs.List.{list_any}
use Rattle.tw_model.proofs.Lawful.{lawful}
use Rattle.tw_ordered.specs.Queue.{is_before}
use Rattle.tw_workers.proofs.Awaited.{early_awaited, none_awaited}
use Rattle.tw_workers.specs.Work.{AreAwaitedFrom, Worker}
use Rattle.tw_workers.proofs.worker.Worker.is_release_due.Goals as goal

pub returns-in-None : goal.returns-in-None
returns-in-None c = λ _.
    let inside = c.self.inside in
    let law = lawful inside.shard.terms.case c.self.invariant.work.case in
    subst (λ (w : Worker). AreAwaitedFrom c.args.router w.stop w.share.shard) c.self.view_is
    (none_awaited c.args.router inside.stop inside.shard law (sym c.held_time.ensures ∙ c.in-None.is))

pub returns-in-Some : goal.returns-in-Some
returns-in-Some c = λ kept.
    let inside = c.self.inside in
    let law = lawful inside.shard.terms.case c.self.invariant.work.case in
    let found = ap (list_any (is_before c.args.router c.min.result)) (sym c.pending.ensures) ∙ (sym c.has_before.ensures ∙ not-false c.has_before.result kept) in
    let least = c.min.ensures in
    subst (λ (w : Worker). AreAwaitedFrom c.args.router w.stop w.share.shard) c.self.view_is
    (early_awaited c.args.router inside.stop c.in-Some.held c.min.result inside.shard law (sym c.held_time.ensures ∙ c.in-Some.is) (omega arith) (omega arith) found)
