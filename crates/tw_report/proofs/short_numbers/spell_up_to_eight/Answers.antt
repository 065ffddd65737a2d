use Rattle.std.proofs.Common.{◌≡◌, ◌+◌, ◌++◌, arith, append_assoc, subst, take}
use Rattle.std.specs.Fmt.{decimal}
use Rattle.itoa.proofs.Decimal.{decimal_four}
use Rattle.tw_report.proofs.short_numbers.spell_up_to_eight.Goals as goal

pub returns-clause-text : goal.returns-clause-text
returns-clause-text c =
    let text = take c.args.at c.args.page.now ++ decimal c.args.number in
    let end = c.spell_short-end.result in
    let whole : take (end + 2 + 2) c.spell_pair-2.new.page ≡ text =
    rw (
      c.spell_pair-2.ensures.text,
      c.spell_pair.ensures.text,
      c.spell_short-end.ensures.text,
      decimal_four c.args.number c.requires.least (omega (arith, c.requires.number)),
      append_assoc,
      append_assoc,
    ) in
    let same : end + 2 + 2 ≡ end + 4 = omega arith in
    subst (λ n. take n c.spell_pair-2.new.page ≡ text) same whole
