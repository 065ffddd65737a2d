use Rattle.std.proofs.Common.{◌≡◌, [], ap, sym, ◌∙◌}
use Rattle.tw_event.specs.Order.{event_before}
use Rattle.tw_model.specs.Case.{simulation}
use Rattle.tw_parallel.proofs.Started.{in_order}
use Rattle.tw_seq.specs.Run.{Run}
use Rattle.tw_sim.specs.Ordered.{insert_all}
use Rattle.tw_sim.specs.Seq.{rest}
use Rattle.tw_parallel.proofs.vacancy.Vacancy.open.Goals as goal

pub vacant_shards-requires-clause-pending : goal.vacant_shards-requires-clause-pending
vacant_shards-requires-clause-pending c =
    let run = c.args.run.now.run in
    let thread = c.run-thread.ensures.value in
    let pending = c.deref.ensures.value ∙ (c.in_ok-pending.ensures.value ∙ ap (λ (r : Run). r.pending) thread) in
    let case = c.case-case.ensures.value ∙ ap (λ (r : Run). r.case) thread in
    let stop = c.stop-stop.ensures.value ∙ ap (λ (r : Run). r.stop) thread in
    ap (λ es. insert_all event_before es []) pending
    ∙ (in_order run c.run-thread.ensures.begun ∙ (ap (λ (r : Run). r.pending) c.requires.complete ∙ (λ i. rest (simulation (sym case i)) (sym stop i))))
