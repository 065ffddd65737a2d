use Rattle.std.proofs.Common.{◌≤◌, length, sym, subst}
use Rattle.tw_model.proofs.Lengths.{path_short}
use Rattle.tw_report.proofs.Joins.{spelled_both}
use Rattle.tw_report.proofs.Pieces.{line_in_pieces, tail_text}
use Rattle.tw_report.specs.Pieces.{head_text, update_text}
use Rattle.tw_report.proofs.event_page.spell_event.Goals as goal

pub spell_update-requires-clause-short : goal.spell_update-requires-clause-short
spell_update-requires-clause-short c =
    subst (λ nodes. length nodes ≤ 32) (sym c.path.ensures.value) (path_short c.args.instance.now c.path.ensures.net c.in-Update.path)

pub returns-in-Start-clause-text : goal.returns-in-Start-clause-text
returns-in-Start-clause-text c =
    let e = c.args.event.now in
    let net = c.args.instance.now in
    spelled_both _ _ _ (head_text e) (tail_text net e e.body) _ c.spell_head-end.ensures.text (rw c.in-Start.is c.spell.ensures.text) (line_in_pieces net e e.body)

pub returns-in-Fail-clause-text : goal.returns-in-Fail-clause-text
returns-in-Fail-clause-text c =
    let e = c.args.event.now in
    let net = c.args.instance.now in
    spelled_both _ _ _ (head_text e) (tail_text net e e.body) _ c.spell_head-end.ensures.text (rw c.in-Fail.is (rw c.into.ensures at c.spell_pair.ensures.text)) (line_in_pieces net e e.body)

pub returns-in-Restore-clause-text : goal.returns-in-Restore-clause-text
returns-in-Restore-clause-text c =
    let e = c.args.event.now in
    let net = c.args.instance.now in
    spelled_both _ _ _ (head_text e) (tail_text net e e.body) _ c.spell_head-end.ensures.text (rw c.in-Restore.is (rw c.into-in-Restore.ensures at c.spell_pair-in-Restore.ensures.text)) (line_in_pieces net e e.body)

pub returns-in-Swap-clause-text : goal.returns-in-Swap-clause-text
returns-in-Swap-clause-text c =
    let e = c.args.event.now in
    let net = c.args.instance.now in
    spelled_both _ _ _ (head_text e) (tail_text net e e.body) _ c.spell_head-end.ensures.text (rw c.in-Swap.is c.spell_swap.ensures.text) (line_in_pieces net e e.body)

pub returns-in-Forbid-clause-text : goal.returns-in-Forbid-clause-text
returns-in-Forbid-clause-text c =
    let e = c.args.event.now in
    let net = c.args.instance.now in
    spelled_both _ _ _ (head_text e) (tail_text net e e.body) _ c.spell_head-end.ensures.text (rw c.in-Forbid.is (rw c.into-in-Forbid.ensures at c.spell_pair-in-Forbid.ensures.text)) (line_in_pieces net e e.body)

pub returns-in-Allow-clause-text : goal.returns-in-Allow-clause-text
returns-in-Allow-clause-text c =
    let e = c.args.event.now in
    let net = c.args.instance.now in
    spelled_both _ _ _ (head_text e) (tail_text net e e.body) _ c.spell_head-end.ensures.text (rw c.in-Allow.is (rw c.into-in-Allow.ensures at c.spell_pair-in-Allow.ensures.text)) (line_in_pieces net e e.body)

pub returns-in-Update-clause-text : goal.returns-in-Update-clause-text
unfolding update_text
returns-in-Update-clause-text c =
    let e = c.args.event.now in
    let net = c.args.instance.now in
    let told = rw c.path.ensures.value at c.spell_update.ensures.text in
    spelled_both _ _ _ (head_text e) (tail_text net e e.body) _ c.spell_head-end.ensures.text (rw c.in-Update.is told) (line_in_pieces net e e.body)
