use Rattle.std.proofs.Common.{◌≡◌, true, Ok, Err, ap, sym, ◌∙◌}
use Rattle.tw_core.specs.declared.refusal.Refusal.TheVariants.{CounterFull}
use Rattle.tw_handlers.specs.Calls.{is_full_at}
use Rattle.tw_shard.specs.Shard.{handled_at, handling, shard_core, timeline}
use Rattle.tw_shard.specs.Timeline.{router_of}
use Rattle.tw_shard.proofs.Steps.{goes_on, is_stuck, told_as, told_memory, told_none}
use Rattle.tw_shard.proofs.shard.Shard.handle_next.Goals as goal
use Rattle.tw_shard.proofs.shard.Shard.handle_next.Goals.{In-Ok-step_on}

room : (c : In-Ok-step_on) → is_full_at (router_of (timeline c.args.self.now c.args.router)) c.in-Ok.event ≡ true → ⊥
room c full = cc (c.in-Ok-step_on.ensures.full.1 full)

done : (c : In-Ok-step_on) → handling c.args.stop c.args.self.now c.args.router ≡ Ok (shard_core c.args.stop (handled_at c.args.self.now c.args.router c.in-Ok.event))
done c = goes_on c.args.self.now c.args.router c.next.ensures.whole c.in-Ok.ensures.ok.own c.args.stop c.in-Ok.event c.in-Ok.ensures.ok (room c)

pub returns-in-Ok-step_on-clause-ok : goal.returns-in-Ok-step_on-clause-ok
returns-in-Ok-step_on-clause-ok c =
    done c ∙ ap (λ s. Ok (shard_core c.args.stop s)) (sym c.in-Ok-step_on.ensures.ok)

pub returns-in-Ok-step_on-clause-refused : goal.returns-in-Ok-step_on-clause-refused
returns-in-Ok-step_on-clause-refused c = λ f. told_none f tt (done c)

pub returns-in-Err-Fault-clause-refused : goal.returns-in-Err-Fault-clause-refused
returns-in-Err-Fault-clause-refused c =
    let full = c.in-Err-Fault.ensures.full.0 (ap (λ x. Err x) c.in-Err-Fault.field-0-is) in
    let stuck = is_stuck c.args.self.now c.args.router c.next.ensures.whole c.in-Ok.ensures.ok.own c.args.stop c.in-Ok.event c.in-Ok.ensures.ok full in
    λ f. told_as f CounterFull stuck

pub returns-in-Err-Memory-clause-refused : goal.returns-in-Err-Memory-clause-refused
returns-in-Err-Memory-clause-refused c =
    let going =
    goes_on c.args.self.now c.args.router c.next.ensures.whole c.in-Ok.ensures.ok.own c.args.stop c.in-Ok.event c.in-Ok.ensures.ok
    (λ full. cc (c.in-Err-Memory.ensures.full.1 full, c.in-Err-Memory.field-0-is)) in
    λ f. told_memory f going
