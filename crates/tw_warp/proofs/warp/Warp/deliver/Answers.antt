use Rattle.std.proofs.Common.{◌≡◌, ◌-◌, Some, Ok, ap, sym, ◌∙◌, subst, arith}
use Rattle.tw_core.specs.Steps.{step}
use Rattle.tw_model.specs.Case.{simulation}
use Rattle.tw_shard.specs.Arrival.{refusing}
use Rattle.tw_sim.specs.declared.machine.Step.TheVariants.{Deliver}
use Rattle.tw_warp.specs.Inside.{warp_of}
use Rattle.tw_warp.specs.Warp.{IsCutShort, IsWarp, Warp, message_at, no_shard, warp_core}
use Rattle.tw_warp.proofs.Deliveries.{IsCut, IsDelivered, goes_home, longer, may_come, place_there, stops_short}
use Rattle.tw_warp.proofs.Joined.{with_shard}
use Rattle.tw_warp.proofs.Turns.{any_default, seq_of, within_there, worker_there}
use Rattle.tw_warp.proofs.warp.Warp.deliver.Goals as goal

pub deliver_on-requires : goal.deliver_on-requires
deliver_on-requires c =
    let w = warp_of c.self.inside in
    let k = c.worker_with-worker.result in
    let x = c.in-Some.message in
    let within = within_there w c.args.self.now k c.self.view_is c.worker_with-worker.ensures.within in
    let message : message_at w.flight c.args.place ≡ Some x = ap (λ (v : Warp). message_at v.flight c.args.place) c.self.view_is ∙ (sym c.message_at.ensures.value ∙ c.in-Some.is) in
    let there = c.index_mut.ensures.value ∙ any_default w.shards k c.index_mut.result.now no_shard within in
    subst (λ s. refusing s x.event ≡ Ok tt) (sym there)
    (may_come w c.self.invariant k within c.args.place x message (worker_there w c.args.self.now x.event.dst k c.self.view_is c.worker_with-worker.ensures.value))

cut : (c : goal.After-from_residual)
    → IsCut (warp_of c.self.inside) c.self.invariant c.worker_with-worker.result (within_there
    (warp_of c.self.inside) c.args.self.now c.worker_with-worker.result c.self.view_is c.worker_with-worker.ensures.within) c.args.place c.deliver_on.new.shard c.deliver_on.new.flight
cut c =
    let w = warp_of c.self.inside in
    let k = c.worker_with-worker.result in
    let x = c.in-Some.message in
    let within = within_there w c.args.self.now k c.self.view_is c.worker_with-worker.ensures.within in
    let message : message_at w.flight c.args.place ≡ Some x = ap (λ (v : Warp). message_at v.flight c.args.place) c.self.view_is ∙ (sym c.message_at.ensures.value ∙ c.in-Some.is) in
    let there = c.index_mut.ensures.value ∙ any_default w.shards k c.index_mut.result.now no_shard within in
    stops_short w c.self.invariant k within c.args.place x c.index_mut.result.now c.deliver_on.new.shard c.deliver_on.new.flight message
    (worker_there w c.args.self.now x.event.dst k c.self.view_is c.worker_with-worker.ensures.value) there c.deliver_on.ensures.same c.deliver_on.ensures.outgoing
    (c.in_err-deliver_on.ensures.err w.stop)

pub invariant_of-self : goal.invariant_of-self
invariant_of-self c = (cut c).good

pub returns-in_err-deliver_on-clause-memory : goal.returns-in_err-deliver_on-clause-memory
returns-in_err-deliver_on-clause-memory c = λ told.
    let w = warp_of c.self.inside in
    let after = with_shard w c.worker_with-worker.result c.deliver_on.new.shard c.deliver_on.new.flight in
    subst (λ (v : Warp). IsCutShort (simulation v.case) c.args.place (warp_core v) (warp_core after)) c.self.view_is (cut c).cut

pub remove-requires : goal.remove-requires
remove-requires c =
    let w = warp_of c.self.inside in
    let x = c.in-Some.message in
    let k = c.worker_with-worker.result in
    let within = within_there w c.args.self.now k c.self.view_is c.worker_with-worker.ensures.within in
    let message : message_at w.flight c.args.place ≡ Some x = ap (λ (v : Warp). message_at v.flight c.args.place) c.self.view_is ∙ (sym c.message_at.ensures.value ∙ c.in-Some.is) in
    let there = place_there w.flight c.args.place x message in
    let more = longer w c.self.invariant k within c.index_mut.result.now c.deliver_on.new.shard x c.deliver_on.new.flight (c.in_ok-deliver_on.ensures.ok w.stop) in
    let at = there.1 in
    omega arith

home : (c : goal.After-remove)
    → IsDelivered (warp_of c.self.inside) c.self.invariant c.worker_with-worker.result (within_there
    (warp_of c.self.inside) c.args.self.now c.worker_with-worker.result c.self.view_is c.worker_with-worker.ensures.within) c.args.place
    (c.args.place - 1) c.deliver_on.new.shard c.deliver_on.new.flight
home c =
    let w = warp_of c.self.inside in
    let k = c.worker_with-worker.result in
    let x = c.in-Some.message in
    let within = within_there w c.args.self.now k c.self.view_is c.worker_with-worker.ensures.within in
    let message : message_at w.flight c.args.place ≡ Some x = ap (λ (v : Warp). message_at v.flight c.args.place) c.self.view_is ∙ (sym c.message_at.ensures.value ∙ c.in-Some.is) in
    let there = c.index_mut.ensures.value ∙ any_default w.shards k c.index_mut.result.now no_shard within in
    let at = (place_there w.flight c.args.place x message).0 in
    goes_home w c.self.invariant k within c.args.place (c.args.place - 1) (omega arith) x c.index_mut.result.now c.deliver_on.new.shard c.deliver_on.new.flight message
    (worker_there w c.args.self.now x.event.dst k c.self.view_is c.worker_with-worker.ensures.value) there c.deliver_on.ensures.same c.deliver_on.ensures.outgoing
    (c.in_ok-deliver_on.ensures.ok w.stop)

pub invariant_of-self-2 : goal.invariant_of-self-2
invariant_of-self-2 c =
    let w = warp_of c.self.inside in
    subst (λ flight. IsWarp (with_shard w c.worker_with-worker.result c.deliver_on.new.shard flight)) (sym c.remove.ensures) (home c).good

pub returns-clause-ok : goal.returns-clause-ok
returns-clause-ok c =
    let w = warp_of c.self.inside in
    let k = c.worker_with-worker.result in
    let s = c.deliver_on.new.shard in
    subst (λ (v : Warp). step (simulation v.case) (warp_core v) (Deliver c.args.place) ≡ Ok (warp_core (with_shard w k s c.remove.new.self))) c.self.view_is
    ((home c).did ∙ ap (λ flight. Ok (warp_core (with_shard w k s flight))) (sym c.remove.ensures))

pub returns-clause-seq : goal.returns-clause-seq
returns-clause-seq c = seq_of _ (invariant_of-self-2 c)

pub returns-in_err-deliver_on-clause-seq : goal.returns-in_err-deliver_on-clause-seq
returns-in_err-deliver_on-clause-seq c = seq_of _ (cut c).good
