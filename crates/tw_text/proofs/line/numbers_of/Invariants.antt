use Rattle.std.proofs.Common.{◌≡◌, ◌≤◌, length}
use Rattle.std.specs.Vec.{vec_capacity, vec_len}
use Rattle.tw_text.proofs.Numbers.{AreRead}
use Rattle.tw_text.proofs.line.numbers_of.Given as goal

abbrev pub invariant-loop-word : goal.invariant-loop-word
invariant-loop-word l = record {
  room : length l.words ≤ vec_capacity l.numbers;
  len : vec_len l.numbers ≡ l.word-index;
  read : AreRead l.words l.word-index l.numbers.items;
}
