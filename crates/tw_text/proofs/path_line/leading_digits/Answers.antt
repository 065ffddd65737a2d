use Rattle.std.proofs.Common.{arith, sym, ◌∙◌}
use Rattle.tw_text.proofs.Digits.{digit_more, eight}
use Rattle.tw_text.proofs.path_line.leading_digits.Goals as goal

pub loop-end-preserved : goal.loop-end-preserved
loop-end-preserved c = record {
  most = omega (arith, c.if-end-lt-SHORT.true);
  within = omega (arith, c.loop-end-test.true);
  front = digit_more c.args.text.now c.loop-end.end c.loop-end.value _ c.loop-end-test.true (sym c.is_ascii_digit.ensures.value ∙ c.if-is_ascii_digit.true) c.from.ensures c.loop-end.invariant.front;
}

pub overflow_mul-value : goal.overflow_mul-value
overflow_mul-value c =
    let few = eight c.args.text.now c.loop-end.end c.loop-end.value c.loop-end.invariant.front (omega (arith, c.if-end-lt-SHORT.true)) in
    omega (arith, few)

pub overflow_add-value : goal.overflow_add-value
overflow_add-value c =
    let few = eight c.args.text.now c.loop-end.end c.loop-end.value c.loop-end.invariant.front (omega (arith, c.if-end-lt-SHORT.true)) in
    let digit = c.is_ascii_digit.ensures.bound in
    omega (arith, few, c.from.ensures)
