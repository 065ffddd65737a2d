use Rattle.std.proofs.Common.{◌≡◌, ◌∙◌, sym, subst, true}
use Rattle.std.specs.Prelude.{IsErrOf}
use Rattle.tw_model.specs.declared.memory.OrMemory.TheVariants as or_memory
use Rattle.tw_shard.specs.Shard.{Shard, owns}
use Rattle.tw_warp.specs.Calls.{FreeAt, calling}
use Rattle.tw_warp.specs.Flight.{all_of}
use Rattle.tw_warp.proofs.Behind.{back_behind}
use Rattle.tw_warp.proofs.Free.{free_behind}
use Rattle.tw_warp.proofs.Fronts.{calling_blind, refused, went}
use Rattle.tw_warp.proofs.calls.call_on.Goals as goal

pub returns-clause-refused : goal.returns-clause-refused
returns-clause-refused c = λ f.
    let front = all_of c.flight.inside.earlier.items in
    let called = c.make-outcome.new.shard in
    let back = back_behind called c.swap_outgoing-2.new.self _ _ c.swap_outgoing-2.ensures.put c.swap_outgoing-2.ensures.taken in
    refused front c.args.shard.now c.swap_outgoing.new.self called c.swap_outgoing-2.new.self c.flight.inside.recent.items c.swap_outgoing-2.new.messages.items c.args.flight.now
    c.swap_outgoing.ensures.put back (c.flight.view_is ∙ c.settle.ensures) c.args.stop (λ s. calling c.args.call c.args.stop s c.args.router) (calling_blind front c.args.call c.args.stop c.args.router)
    (IsErrOf c.make-outcome.result (or_memory.Fault f)) f (c.make-outcome.ensures.refused f)

pub returns-clause-ok : goal.returns-clause-ok
returns-clause-ok c =
    let front = all_of c.flight.inside.earlier.items in
    let called = c.make-outcome.new.shard in
    let back = back_behind called c.swap_outgoing-2.new.self _ _ c.swap_outgoing-2.ensures.put c.swap_outgoing-2.ensures.taken in
    went front c.args.shard.now c.swap_outgoing.new.self called c.swap_outgoing-2.new.self c.flight.inside.recent.items c.swap_outgoing-2.new.messages.items c.args.flight.now
    c.swap_outgoing.ensures.put back (c.flight.view_is ∙ c.settle.ensures) c.args.stop (λ s. calling c.args.call c.args.stop s c.args.router) (calling_blind front c.args.call c.args.stop c.args.router)
    c.make-outcome.result c.make-outcome.ensures.ok

pub returns-clause-free : goal.returns-clause-free
returns-clause-free c = λ free told.
    let s = c.args.shard.now in
    let r = c.args.router in
    let put = c.swap_outgoing.ensures.put in
    c.make-outcome.ensures.free
    (subst (λ (t : Shard). owns t r ≡ true → FreeAt c.args.call t r) (sym put) (λ own. free_behind c.args.call s c.flight.inside.recent.items r (free own)))
    told
