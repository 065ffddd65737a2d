use Rattle.std.proofs.Common.{rules, ◌≡◌, ◌*◌, ◌<◌, ◌^◌, Some, length, slice_get, refl, ap, sym, ◌∙◌, subst, inl, inr, arith}
use Rattle.std.proofs.lemmas.Bool.{cases_lt, false≢true, lt-ltb, ltb-true}
use Rattle.std.proofs.lemmas.Option.{slice_get_read}
use Rattle.tw_rounds.proofs.Lists.{within}
use Rattle.tw_rounds.proofs.Turns.{enough, not_less}
use Rattle.tw_rounds.proofs.least.least_told.Goals as goal

pub loop-share-preserved : goal.loop-share-preserved
loop-share-preserved g c =
    let xs = c.args.members.now in
    let s = c.loop-share.share in
    let size = c.args.size in
    let first = c.in-Some.first.now in
    let number = c.saturating_mul.result in
    let here = slice_get_read xs (length xs) number first refl (ltb-true number (length xs) (sym c.in-Some.ensures.lookup.0)) c.in-Some.ensures.lookup.1 in
    let before = c.loop-share.invariant in
    let most = before.most in
    let fits : length xs < 2 ^ 64 = search rules in
    record {
      most = omega (arith, c.min-least.ensures);
      told = λ n x l at. elim (cases_lt n s) [
        | inl lt ↦ (let old = before.told n x lt at in omega (arith, c.min-least.ensures))
        | inr ge ↦
            let is : n ≡ s = omega arith in
            let there : slice_get xs (s * size) ≡ Some x = subst (λ k. slice_get xs (k * size) ≡ Some x) is at in
            let inside = within xs (s * size) x there in
            let place : number ≡ s * size = omega (arith, c.saturating_mul.ensures) in
            let read : slice_get xs (s * size) ≡ Some first = subst (λ k. slice_get xs k ≡ Some first) place here in
            let same : first ≡ x = cc in
            let time = ap (λ z. z.least) same in
            omega (arith, c.min-least.ensures, c.least.ensures)
      ];
    }

pub returns-after-loop-share-clause-told : goal.returns-after-loop-share-clause-told
returns-after-loop-share-clause-told g c = λ n x at.
    let inside = within c.args.members.now (n * c.args.size) x at in
    let some = enough n c.args.size c.requires in
    let over = c.loop-share-test.false in
    c.loop-share.invariant.told n x (omega arith) at

pub returns-in_default-clause-told : goal.returns-in_default-clause-told
returns-in_default-clause-told g c = λ n x at.
    let xs = c.args.members.now in
    let s = c.loop-share.share in
    let size = c.args.size in
    let number = c.saturating_mul.result in
    let inside = within xs (n * size) x at in
    elim (cases_lt n s) [
      | inl lt ↦ c.loop-share.invariant.told n x lt at
      | inr ge ↦
          let more = not_less s n size ge in
          let below : number < length xs = omega (arith, c.saturating_mul.ensures) in
          absurd (false≢true (c.in_default.ensures.lookup.0 ∙ lt-ltb number (length xs) below))
    ]
