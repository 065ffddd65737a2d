use Rattle.std.proofs.Common.{arith}
use Rattle.std.proofs.lemmas.Fmt.{decimal_digit}
use Rattle.std.proofs.lemmas.List.{take_more_set}
use Rattle.itoa.proofs.Decimal.{decimal_two}
use Rattle.tw_report.proofs.short_numbers.spell_first.Goals as goal

pub returns-then-number-lt10-clause-text : goal.returns-then-number-lt10-clause-text
returns-then-number-lt10-clause-text c = rw (decimal_digit c.args.number c.if-number-lt10.true) (take_more_set c.args.page.now c.args.at _ (omega (arith, c.requires.room)))

pub returns-clause-text : goal.returns-clause-text
returns-clause-text c = rw (c.spell_pair.ensures.text, decimal_two c.args.number c.if-number-lt10.false c.requires.number)
