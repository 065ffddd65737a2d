use Rattle.std.proofs.Common.{◌==◌, false, true≢false, flat_map, length, ap, sym, ◌∙◌, subst, arith}
use Rattle.std.proofs.lemmas.Bool.{eq-eqb, eqb-true}
use Rattle.std.proofs.lemmas.List.{nil_from_length}
use Rattle.tw_parallel.proofs.Ends.{TellsStill, held, in_flight}
use Rattle.tw_shard.specs.Shard.{Shard}
use Rattle.tw_parallel.proofs.sim.Sim.is_still.Goals as goal

pub returns-then-count_mail-gt0 : goal.returns-then-count_mail-gt0
returns-then-count_mail-gt0 c =
    let all = in_flight c.self.inside c.self.invariant in
    let mail = c.count_mail.ensures in
    let some = c.if-count_mail-gt0.true in
    subst (TellsStill false) c.self.view_is ((λ h. absurd (true≢false (sym h))), (λ none. absurd (let long = ap length none in omega arith)))

pub returns-then-count_in_hands-gt0 : goal.returns-then-count_in_hands-gt0
returns-then-count_in_hands-gt0 c =
    let all = in_flight c.self.inside c.self.invariant in
    let hands = c.count_in_hands.ensures ∙ ap (λ hs. length (flat_map held hs)) c.deref.ensures.value in
    let some = c.if-count_in_hands-gt0.true in
    subst (TellsStill false) c.self.view_is ((λ h. absurd (true≢false (sym h))), (λ none. absurd (let long = ap length none in omega arith)))

pub returns : goal.returns
returns c =
    let all = in_flight c.self.inside c.self.invariant in
    let mail = c.count_mail.ensures in
    let no_mail = c.if-count_mail-gt0.false in
    let hands = c.count_in_hands.ensures ∙ ap (λ hs. length (flat_map held hs)) c.deref.ensures.value in
    let no_hands = c.if-count_in_hands-gt0.false in
    let shards = c.count_outgoing.ensures ∙ ap (λ ss. length (flat_map (λ (s : Shard). s.outgoing) ss)) c.deref-2.ensures.value in
    subst (TellsStill (c.count_outgoing.result == 0)) c.self.view_is (
      (λ h. nil_from_length _ (let none = eqb-true c.count_outgoing.result 0 h in omega arith)),
      (λ none. eq-eqb c.count_outgoing.result 0 (let long = ap length none in omega arith)),
    )
