use Rattle.std.proofs.Common.{[], ◌∷◌}
use Rattle.tw_report.proofs.Joins.{spelled_then}
use Rattle.tw_report.specs.Pieces.{pair_text}
use Rattle.tw_report.specs.Words.{spaced_number}
use Rattle.tw_report.proofs.event_page.spell_pair.Goals as goal

pub returns-clause-text : goal.returns-clause-text
unfolding pair_text
returns-clause-text c =
    spelled_then _ _ _ c.args.name.now _ c.spell-named.ensures.text
    (spelled_then _ _ _ (spaced_number c.args.first) _ c.spell_next-one.ensures.text (spelled_then _ _ _ (spaced_number c.args.second) (10 ∷ []) c.spell_next-both.ensures.text c.spell.ensures.text))
