use Rattle.std.proofs.Common.{◌≡◌, Err, Some, true, ap, sym, ◌∙◌, subst}
use Rattle.tw_core.specs.declared.refusal.Refusal.TheVariants.{AheadFull}
use Rattle.tw_event.specs.Order.{event_before}
use Rattle.tw_model.proofs.Lawful.{lawful}
use Rattle.tw_model.specs.Case.{simulation}
use Rattle.tw_shard.proofs.Queues.{least_first}
use Rattle.tw_shard.specs.Shard.{handling_least, owns}
use Rattle.tw_sim.specs.Ordered.{least}
use Rattle.tw_workers.proofs.Places.{own_least}
use Rattle.tw_workers.specs.Work.{Worker}
use Rattle.tw_workers.proofs.worker.Worker.make_room_for_least.Goals as goal

pub make_room-requires : goal.make_room-requires
make_room-requires c =
    let s = c.self.inside.shard in
    let law = lawful s.terms.case c.self.invariant.work.case in
    let full = subst (λ (w : Worker). handling_least c.requires.0 w.share.shard ≡ Err AheadFull) (sym c.self.view_is) c.requires.1 in
    let first : least event_before s.pending ≡ Some c.in-Some.event =
    ap (least event_before) (sym c.pending.ensures)
    ∙ (least_first (simulation s.terms.case) law c.pending.result.now.events c.least.ensures.queue.rising ∙ (sym c.least.ensures.first ∙ c.in-Some.is)) in
    record { own = subst (λ (w : Worker). owns w.share.shard c.in-Some.event.dst ≡ true) c.self.view_is (own_least c.requires.0 s c.in-Some.event first full) }
