use Rattle.std.proofs.Common.{◌==◌, flat_map, length, ap, ◌∙◌, subst, arith}
use Rattle.std.proofs.lemmas.Bool.{eq-eqb, eqb-true}
use Rattle.std.proofs.lemmas.List.{nil_from_length}
use Rattle.tw_parallel.proofs.Ends.{HoldsNothing, in_shards}
use Rattle.tw_shard.specs.Shard.{Shard}
use Rattle.tw_parallel.proofs.sim.Sim.holds_nothing.Goals as goal

pub returns : goal.returns
returns c =
    let all = in_shards c.self.inside c.self.invariant in
    let shards = c.count_held.ensures ∙ ap (λ ss. length (flat_map (λ (s : Shard). s.held) ss)) c.deref.ensures.value in
    subst (HoldsNothing (c.count_held.result == 0)) c.self.view_is (
      (λ h. nil_from_length _ (let none = eqb-true c.count_held.result 0 h in let long = ap length all in omega arith)),
      (λ none. eq-eqb c.count_held.result 0 (let long = ap length none in let same = ap length all in omega arith)),
    )
