use Rattle.std.proofs.Common.{◌≡◌, true, rules, sym, ◌∙◌}
use Rattle.tw_shard.specs.Shard.{owns}
use Rattle.tw_shard.proofs.Steps.{is_held_off}
use Rattle.tw_shard.proofs.shard.Shard.may_handle_first.Goals as goal

pub returns-in_err-may_handle-clause-err : goal.returns-in_err-may_handle-clause-err
returns-in_err-may_handle-clause-err c =
    let s = c.args.self.now in
    let e = c.args.event.now in
    let mine : owns s e.dst ≡ true = sym c.owns.ensures.value ∙ c.if-not-owns.false in
    λ f told stop soon. is_held_off s e.dst c.owns.ensures.whole mine stop e (c.requires stop) soon f (sym c.may_handle.ensures.value ∙ search rules)
