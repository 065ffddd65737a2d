use Rattle.std.proofs.Common.{◌≡◌, Some, length, slice_get, refl, subst, inl, inr, arith}
use Rattle.std.proofs.lemmas.Bool.{cases_lt}
use Rattle.std.proofs.lemmas.Option.{slice_get_read}
use Rattle.tw_rounds.proofs.Lists.{on_yes, within}
use Rattle.tw_rounds.specs.Members.{IsSettled}
use Rattle.tw_rounds.proofs.waiting.are_settled.Goals as goal

pub loop-member-preserved : goal.loop-member-preserved
loop-member-preserved g c = λ i x l at.
    let xs = c.args.members.now in
    let index = c.loop-member.member-index in
    let item = c.member-item.result in
    let here = slice_get_read xs (length xs) index item refl c.loop-member-test.true c.member-item.is in
    elim (cases_lt i index) [
      | inl less ↦ c.loop-member.invariant i x less at
      | inr ge ↦
          let there : slice_get xs index ≡ Some x = subst (λ k. slice_get xs k ≡ Some x) (omega (arith, ge, l)) at in
          let same : item ≡ x = cc (here, there) in
          subst IsSettled same (on_yes c.is_settled.result c.if-not-is_settled.false c.is_settled.ensures)
    ]

pub returns : goal.returns
returns g c = λ i x at. c.loop-member.invariant i x (let l = within c.args.members.now i x at in let end = c.loop-member-test.false in omega arith) at
