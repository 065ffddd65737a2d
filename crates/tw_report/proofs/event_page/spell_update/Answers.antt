use Rattle.std.proofs.Common.{[], ◌∷◌, codes}
use Rattle.tw_report.proofs.Joins.{spelled_then}
use Rattle.tw_report.specs.Pieces.{update_text}
use Rattle.tw_report.specs.Words.{path_text, spaced_number}
use Rattle.tw_report.proofs.event_page.spell_update.Goals as goal

pub returns-clause-text : goal.returns-clause-text
unfolding update_text
returns-clause-text c =
    let e = c.args.event.now in
    let sender = rw c.from.ensures at c.spell_next-sent.ensures.text in
    spelled_then _ _ _ (codes " update") _ c.spell-named.ensures.text
    (spelled_then _ _ _ (spaced_number e.src) _ sender
    (spelled_then _ _ _ (spaced_number e.seq) _ c.spell_next-numbered.ensures.text
    (spelled_then _ _ _ (spaced_number c.args.session) _ c.spell_next-dated.ensures.text
    (spelled_then _ _ _ (32 ∷ []) _ c.spell-parted.ensures.text
    (spelled_then _ _ _ (path_text c.args.nodes.now) (10 ∷ []) c.spell_path-shown.ensures.text c.spell.ensures.text)))))
