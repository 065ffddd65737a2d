use Rattle.std.proofs.Common.{◌≡◌, true, rules, sym, ◌∙◌}
use Rattle.tw_shard.specs.Shard.{owns}
use Rattle.tw_shard.proofs.Steps.{is_held_off}
use Rattle.tw_shard.proofs.shard.Shard.next.Goals as goal

pub returns-in_err-may_handle-in-Some-clause-err : goal.returns-in_err-may_handle-in-Some-clause-err
returns-in_err-may_handle-in-Some-clause-err c =
    let s = c.args.self.now in
    let mine : owns s c.args.router ≡ true = sym c.owns.ensures.value ∙ c.if-not-owns.false in
    λ f told. is_held_off s c.args.router c.owns.ensures.whole mine c.args.stop c.in-Some.event (sym c.first_pending.ensures.value ∙ c.in-Some.is) c.if-event-stop.true f
    (sym c.may_handle.ensures.value ∙ search rules)
