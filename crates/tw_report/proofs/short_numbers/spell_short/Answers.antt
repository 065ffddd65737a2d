use Rattle.std.proofs.Common.{arith, append_assoc}
use Rattle.itoa.proofs.Decimal.{decimal_pair}
use Rattle.tw_report.proofs.short_numbers.spell_short.Goals as goal

pub returns-clause-text : goal.returns-clause-text
returns-clause-text c =
    rw (c.spell_pair.ensures.text, c.spell_first-end.ensures.text, decimal_pair c.args.number c.if-number-lt100.false (omega (arith, c.requires.number)), append_assoc)
