use Rattle.std.proofs.Common.{[], ◌∷◌, codes}
use Rattle.tw_report.proofs.Joins.{spelled_then}
use Rattle.tw_report.specs.Pieces.{swap_text}
use Rattle.tw_report.specs.Words.{spaced_number}
use Rattle.tw_report.proofs.event_page.spell_swap.Goals as goal

pub returns-clause-text : goal.returns-clause-text
unfolding swap_text
returns-clause-text c =
    let first = rw c.from.ensures at c.spell_next-first.ensures.text in
    let second = rw c.from-2.ensures at c.spell_next-second.ensures.text in
    spelled_then _ _ _ (codes " swap") _ c.spell-named.ensures.text
    (spelled_then _ _ _ (spaced_number c.args.seq) _ c.spell_next-numbered.ensures.text
    (spelled_then _ _ _ (spaced_number c.args.i) _ first (spelled_then _ _ _ (spaced_number c.args.j) (10 ∷ []) second c.spell.ensures.text)))
