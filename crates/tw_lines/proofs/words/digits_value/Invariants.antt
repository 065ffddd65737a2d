use Rattle.std.proofs.Common.{◌≡◌, ◌^◌, ◌<◌, drop}
use Rattle.tw_lines.proofs.Numbers.{number_after}
use Rattle.tw_lines.proofs.words.digits_value.Given as goal

abbrev pub invariant-loop-digit : goal.invariant-loop-digit
invariant-loop-digit l = record {
  bound : l.value < 10 ^ l.digit-index;
  same : number_after l.value (drop l.digit-index l.digits) ≡ number_after 0 l.digits;
}
