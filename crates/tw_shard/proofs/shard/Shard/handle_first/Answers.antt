use Rattle.std.proofs.Common.{◌≡◌, ◌<◌, ℕ, true, Some, Ok, Err, ap, sym, ◌∙◌}
use Rattle.tw_core.specs.Steps.{first_pending}
use Rattle.tw_core.specs.declared.refusal.Refusal.TheVariants.{CounterFull}
use Rattle.tw_event.specs.declared.event.Event.{Event}
use Rattle.tw_model.specs.Case.{simulation}
use Rattle.tw_model.specs.Effect.{suits}
use Rattle.tw_shard.specs.Shard.{HandlesNext, Shard, may_handle, owns, shard_core}
use Rattle.tw_shard.proofs.Steps.{goes_on, is_stuck, told_as, told_memory, told_none}
use Rattle.tw_shard.proofs.shard.Shard.handle_first.Goals as goal

next : (s : Shard) (e : Event) → owns s e.dst ≡ true → ((stop : ℕ) → first_pending (simulation s.terms.case) (shard_core stop s) e.dst ≡ Some e) → may_handle s e.dst e ≡ Ok tt
    → suits s.terms.case.net e.dst e ≡ true → (stop : ℕ) → e.time < stop → HandlesNext stop s e.dst e
next s e own first free suit stop soon = record { own = own; first = first stop; soon = soon; free = free; suit = suit }

pub returns-in-Err-clause-refused : goal.returns-in-Err-clause-refused
returns-in-Err-clause-refused c = λ stop soon f. told_as f c.in-Err.refusal (c.may_handle_first.ensures.err c.in-Err.refusal c.in-Err.is stop soon)

pub returns-in-Ok-clause-ok : goal.returns-in-Ok-clause-ok
returns-in-Ok-clause-ok c = λ stop soon.
    let s = c.args.self.now in
    let e = c.args.event.now in
    let is = next s e c.in_default.ensures.own c.requires.next c.in_default.ensures.free c.requires.suit stop soon in
    goes_on s e.dst c.may_handle_first.ensures.whole c.in_default.ensures.own stop e is (λ full. cc (c.in-Ok.ensures.full.1 full))
    ∙ ap (λ s. Ok (shard_core stop s)) (sym c.in-Ok.ensures.ok)

pub returns-in-Ok-clause-refused : goal.returns-in-Ok-clause-refused
returns-in-Ok-clause-refused c = λ stop soon f.
    let s = c.args.self.now in
    let e = c.args.event.now in
    let is = next s e c.in_default.ensures.own c.requires.next c.in_default.ensures.free c.requires.suit stop soon in
    told_none f tt (goes_on s e.dst c.may_handle_first.ensures.whole c.in_default.ensures.own stop e is (λ full. cc (c.in-Ok.ensures.full.1 full)))

pub returns-in-Err-Fault-clause-refused : goal.returns-in-Err-Fault-clause-refused
returns-in-Err-Fault-clause-refused c = λ stop soon f.
    let s = c.args.self.now in
    let e = c.args.event.now in
    let is = next s e c.in_default.ensures.own c.requires.next c.in_default.ensures.free c.requires.suit stop soon in
    let full = c.in-Err-Fault.ensures.full.0 (ap (λ x. Err x) c.in-Err-Fault.field-0-is) in
    told_as f CounterFull (is_stuck s e.dst c.may_handle_first.ensures.whole c.in_default.ensures.own stop e is full)

pub returns-in-Err-Memory-clause-refused : goal.returns-in-Err-Memory-clause-refused
returns-in-Err-Memory-clause-refused c = λ stop soon f.
    let s = c.args.self.now in
    let e = c.args.event.now in
    let is = next s e c.in_default.ensures.own c.requires.next c.in_default.ensures.free c.requires.suit stop soon in
    told_memory f (goes_on s e.dst c.may_handle_first.ensures.whole c.in_default.ensures.own stop e is (λ full. cc (c.in-Err-Memory.ensures.full.1 full, c.in-Err-Memory.field-0-is)))
