use Rattle.std.proofs.Common.{codes}
use Rattle.std.specs.Fmt.{decimal}
use Rattle.tw_report.proofs.Joins.{spelled_then}
use Rattle.tw_report.specs.Pieces.{head_text}
use Rattle.tw_report.specs.Words.{spaced_number}
use Rattle.tw_report.proofs.event_page.spell_head.Goals as goal

pub returns-clause-text : goal.returns-clause-text
unfolding head_text
returns-clause-text c =
    let e = c.args.event.now in
    let receiver = rw c.from.ensures at c.spell_next.ensures.text in
    spelled_then _ _ _ (codes "event ") _ c.spell-named.ensures.text (spelled_then _ _ _ (decimal e.time) (spaced_number e.dst) c.spell_number-timed.ensures.text receiver)
