use Rattle.std.proofs.Common.{arith}
use Rattle.std.proofs.lemmas.Result.{err_from_is_err_and}
use Rattle.tw_text.proofs.Numbers.{read_more, read_none}
use Rattle.tw_text.proofs.line.numbers_of.Goals as goal

pub returns-in_err-number_of : goal.returns-in_err-number_of
returns-in_err-number_of c =
    let p = err_from_is_err_and c.from_residual-in_err-number_of.result c.from_residual-in_err-number_of.ensures.1 in
    rw (p.1, p.2) (read_none c.args.words.now c.loop-word.word-index _ _ c.loop-word-test.true c.in_err-number_of.ensures)

pub loop-word-preserved : goal.loop-word-preserved
loop-word-preserved c = record {
  room = omega (arith, c.push_reserved.ensures.capacity, c.loop-word.invariant.room);
  len = omega (arith, c.push_reserved.ensures.len, c.loop-word.invariant.len);
  read = read_more c.args.words.now c.loop-word.word-index _ _ _ _ c.loop-word-test.true c.in_ok-number_of.ensures c.loop-word.invariant.read c.push_reserved.ensures.items;
}
