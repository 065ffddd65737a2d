use Rattle.std.proofs.Common.{◌≡◌, ◌↔◌, true, Ok, Err, ap, sym, ◌∙◌, subst}
use Rattle.std.specs.Prelude.{IsErrOf, OnOk}
use Rattle.tw_model.specs.Case.{simulation}
use Rattle.tw_model.specs.declared.memory.OrMemory.TheVariants as or_memory
use Rattle.tw_shard.specs.Shard.{owns}
use Rattle.tw_warp.specs.Calls.{CallTakesNone, FreeAt, after_call, calling}
use Rattle.tw_warp.specs.Inside.{warp_of}
use Rattle.tw_warp.specs.Warp.{Warp, no_shard, shard_at, warp_core}
use Rattle.tw_warp.proofs.Free.{free_at}
use Rattle.tw_warp.proofs.Joined.{with_shard}
use Rattle.tw_warp.proofs.Turns.{IsTurned, any_default, seq_of, call_outcome, turned, within_there, worker_there}
use Rattle.tw_warp.proofs.warp.Warp.at_router.Goals as goal

turn : (c : goal.After-self-1) → IsTurned (warp_of c.self.inside) c.worker_with-worker.result (after_call (simulation (warp_of c.self.inside).case) c.args.call c.args.router) c.call_on.new.shard c.call_on.new.flight c.call_on.result
turn c =
    let w = warp_of c.self.inside in
    let r = c.args.router in
    let k = c.worker_with-worker.result in
    let within = within_there w c.args.self.now k c.self.view_is c.worker_with-worker.ensures.within in
    let told = c.call_on.ensures in
    turned w c.self.invariant k within (after_call (simulation w.case) c.args.call r) (λ s. calling c.args.call w.stop s r)
    (call_outcome w c.self.invariant k within c.args.call r (worker_there w c.args.self.now r k c.self.view_is c.worker_with-worker.ensures.value))
    c.index_mut.result.now c.call_on.new.shard c.call_on.new.flight c.call_on.result
    (c.index_mut.ensures.value ∙ any_default w.shards k c.index_mut.result.now no_shard within)
    (record { ok = told.ok; refused = told.refused; err = told.err; unsent = told.unsent; outgoing = told.outgoing; same = told.same })

pub invariant_of-self : goal.invariant_of-self
invariant_of-self c = (turn c).is

pub returns-clause-ok : goal.returns-clause-ok
returns-clause-ok c =
    let w = warp_of c.self.inside in
    let after = with_shard w c.worker_with-worker.result c.call_on.new.shard c.call_on.new.flight in
    subst (λ v. OnOk c.call_on.result (after_call (simulation v.case) c.args.call c.args.router (warp_core v) ≡ Ok (warp_core after))) c.self.view_is (turn c).ok

pub returns-clause-refused : goal.returns-clause-refused
returns-clause-refused c = λ f.
    subst (λ (v : Warp). IsErrOf c.call_on.result (or_memory.Fault f) ↔ (after_call (simulation v.case) c.args.call c.args.router (warp_core v) ≡ Err f)) c.self.view_is ((turn c).refused f)

pub returns-clause-seq : goal.returns-clause-seq
returns-clause-seq c = seq_of _ (turn c).is

pub returns-clause-free : goal.returns-clause-free
returns-clause-free c = λ none told.
    let w = warp_of c.self.inside in
    let r = c.args.router in
    let k = c.worker_with-worker.result in
    let within = within_there w c.args.self.now k c.self.view_is c.worker_with-worker.ensures.within in
    let mine = worker_there w c.args.self.now r k c.self.view_is c.worker_with-worker.ensures.value in
    let there = c.index_mut.ensures.value ∙ (any_default w.shards k c.index_mut.result.now no_shard within ∙ ap (shard_at w) (sym mine)) in
    let here : CallTakesNone (simulation w.case) c.args.call r (warp_core w) = subst (λ (v : Warp). CallTakesNone (simulation v.case) c.args.call r (warp_core v)) (sym c.self.view_is) none in
    c.call_on.ensures.free (λ own. subst (λ s. owns s r ≡ true → FreeAt c.args.call s r) (sym there) (free_at w c.self.invariant r c.args.call here) own) told
