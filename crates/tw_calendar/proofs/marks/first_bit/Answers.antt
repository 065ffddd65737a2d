use Rattle.std.proofs.Common.{◌≡◌, ◌+◌, ◌-◌, ◌/◌, ◌^◌, ap, sym, ◌∙◌, arith}
use Rattle.std.specs.Int.{bit_at}
use Rattle.std.proofs.lemmas.Nat.Bits.{bit_at-zero}
use Rattle.tw_calendar.proofs.Words.{down, lowest_within, lowest_set, lowest_clear}
use Rattle.tw_calendar.proofs.marks.first_bit.Goals as goal

pub returns-then-rest-eq0-clause-none : goal.returns-then-rest-eq0-clause-none
returns-then-rest-eq0-clause-none c i l m =
    let word = c.args.word in
    let from = c.args.from in
    let z : word / 2 ^ from ≡ 0 = omega (arith, c.if-rest-eq0.true) in
    let q : i ≡ from + (i - from) = omega arith in
    ap (bit_at word) q ∙ sym (down word from (i - from)) ∙ ap (λ n. bit_at n (i - from)) z ∙ bit_at-zero (i - from)

pub returns-clause-within : goal.returns-clause-within
returns-clause-within c = lowest_within c.args.word c.args.from c.ranges.word.fits (omega (arith, c.if-rest-eq0.false))

pub returns-clause-marked : goal.returns-clause-marked
returns-clause-marked c = lowest_set c.args.word c.args.from c.ranges.word.fits (omega (arith, c.if-rest-eq0.false))

pub returns-clause-clear : goal.returns-clause-clear
returns-clause-clear c = lowest_clear c.args.word c.args.from c.ranges.word.fits (omega (arith, c.if-rest-eq0.false))
