use Rattle.std.proofs.Common.{◌≡◌, ℕ, ◌++◌, Ok, Err, ap, sym, ◌∙◌, subst}
use Rattle.std.specs.Prelude.{OnErr, OnOk}
use Rattle.tw_core.specs.Steps.{after_arrival}
use Rattle.tw_model.specs.Case.{simulation}
use Rattle.tw_model.specs.declared.memory.OrMemory.TheVariants as or_memory
use Rattle.tw_shard.specs.Arrival.{IsRolledBack, receiving}
use Rattle.tw_shard.specs.declared.rejection.Returned.{Returned}
use Rattle.tw_shard.specs.Shard.{Shard, shard_core}
use Rattle.tw_warp.specs.Flight.{all_of}
use Rattle.tw_warp.specs.Warp.{behind}
use Rattle.tw_warp.proofs.Behind.{back_behind, may_come}
use Rattle.tw_warp.proofs.Fronts.{came, rolled_back}
use Rattle.tw_warp.proofs.calls.deliver_on.Goals as goal
use Rattle.tw_warp.proofs.calls.deliver_on.Goals.{in-Ok, in-Err+in-Memory}

pub unreachable-requires : goal.unreachable-requires
unreachable-requires c =
    let x = c.args.message in
    let f = c.in-Fault.field-0 in
    let told : Returned = record { message = x; why = or_memory.Fault f } in
    let returned : c.in-Err.returned ≡ told = λ i. record { message = c.in-Err.ensures.back i; why = c.in-Fault.is i } in
    let refused = (c.receive-outcome.ensures.refused 0 f).0 (c.in-Err.is ∙ ap (λ e. Err e) returned) in
    let went = subst (λ s. receiving 0 s x ≡ Ok (after_arrival (simulation s.terms.case) (shard_core 0 s) x)) (sym c.swap_outgoing.ensures.put)
    (may_come (behind c.args.shard.now c.flight.inside.recent.items) x 0 c.requires) in
    cc (refused, went)

pub returns-clause-ok : goal.returns-clause-ok
returns-clause-ok c = λ stop.
    let x = c.args.message in
    let front = all_of c.flight.inside.earlier.items in
    let recent = c.flight.inside.recent.items in
    let called = c.receive-outcome.new.self in
    let lent = behind c.args.shard.now recent in
    let ys = c.swap_outgoing-2.new.messages.items in
    let done : Type 0 = after_arrival (simulation c.args.shard.now.terms.case) (shard_core stop (behind c.args.shard.now c.args.flight.now)) x ≡ shard_core stop (behind c.swap_outgoing-2.new.self (front ++ ys)) in
    elim c.match-outcome.branch [
      | in-Ok w ↦ (
          let back = back_behind called c.swap_outgoing-2.new.self _ _ c.swap_outgoing-2.ensures.put c.swap_outgoing-2.ensures.taken in
          let did : receiving stop lent x ≡ Ok (shard_core stop called) = subst (λ s. receiving stop s x ≡ Ok (shard_core stop called)) c.swap_outgoing.ensures.put (w.in-Ok.ensures.ok stop) in
          let same : after_arrival (simulation lent.terms.case) (shard_core stop lent) x ≡ shard_core stop called = cc (may_come lent x stop c.requires, did) in
          subst (λ r. OnOk r done) (sym w.result-is)
          (came front c.args.shard.now c.swap_outgoing.new.self called c.swap_outgoing-2.new.self recent ys c.args.flight.now
          c.swap_outgoing.ensures.put back (c.flight.view_is ∙ c.settle.ensures) stop x same))
      | in-Err+in-Memory w ↦ subst (λ r. OnOk r done) (sym w.result-is) tt
    ]

pub returns-clause-err : goal.returns-clause-err
returns-clause-err c =
    let e = c.args.message.event in
    let front = all_of c.flight.inside.earlier.items in
    let recent = c.flight.inside.recent.items in
    let called = c.receive-outcome.new.self in
    let ys = c.swap_outgoing-2.new.messages.items in
    let cut : Type 0 = (stop : ℕ) → IsRolledBack (simulation c.args.shard.now.terms.case) e (shard_core stop (behind c.args.shard.now c.args.flight.now)) (shard_core stop (behind c.swap_outgoing-2.new.self (front ++ ys))) in
    elim c.match-outcome.branch [
      | in-Ok w ↦ subst (λ r. OnErr r cut) (sym w.result-is) tt
      | in-Err+in-Memory w ↦ subst (λ r. OnErr r cut) (sym w.result-is) (λ stop.
          let back = back_behind called c.swap_outgoing-2.new.self _ _ c.swap_outgoing-2.ensures.put c.swap_outgoing-2.ensures.taken in
          rolled_back front c.args.shard.now c.swap_outgoing.new.self called c.swap_outgoing-2.new.self recent ys c.args.flight.now
          c.swap_outgoing.ensures.put back (c.flight.view_is ∙ c.settle.ensures) stop e
          (subst (λ (s : Shard). IsRolledBack (simulation s.terms.case) e (shard_core stop s) (shard_core stop called)) c.swap_outgoing.ensures.put (w.in-Err.ensures.memory stop)))
    ]
