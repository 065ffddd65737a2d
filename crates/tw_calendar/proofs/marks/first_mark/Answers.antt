use Rattle.std.proofs.Common.{◌/◌, ◌+◌, ◌%◌, get_or, refl, arith}
use Rattle.tw_calendar.proofs.Words.{first_found, none_found}
use Rattle.tw_calendar.proofs.marks.first_mark.Goals as goal

pub returns-in-Some : goal.returns-in-Some
returns-in-Some c base same =
    let words = c.args.words.now in
    let from = c.args.from in
    let least = c.in-Some.ensures.on in
    first_found words from base same 0 (from / 64) (get_or words (from / 64) 0) (omega (arith, c.requires.from)) refl (from % 64) c.in-Some.place c.in-Some.ensures.within (omega arith)
    (λ k l m. absurd (omega arith)) c.in-Some.ensures.clear c.in-Some.ensures.marked

pub returns-in-Some-first_bit : goal.returns-in-Some-first_bit
returns-in-Some-first_bit c base same =
    let words = c.args.words.now in
    let from = c.args.from in
    let step = c.loop-step.step in
    let word = (from / 64 + step) % 16 in
    let first = c.loop-step.auto.step in
    first_found words from base same step word (get_or words word 0) refl refl 0 c.in-Some-first_bit.place c.in-Some-first_bit.ensures.within (omega arith)
    (λ k l m. c.loop-step.invariant base same k (omega arith) m) c.in-Some-first_bit.ensures.clear c.in-Some-first_bit.ensures.marked

pub returns : goal.returns
returns c base same =
    none_found c.args.words.now c.args.from base same c.requires.from (λ k l m. c.loop-step.invariant base same k (omega (arith, c.loop-step-test.false, c.loop-step.auto.step-end)) m)
