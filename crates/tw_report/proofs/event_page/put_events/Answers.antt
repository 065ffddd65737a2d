use Rattle.std.proofs.Common.{drop, take}
use Rattle.std.proofs.lemmas.List.Elements.{All-drop}
use Rattle.tw_device.proofs.Puts.{partway_more, puts_partway}
use Rattle.tw_event.specs.declared.event.Event.{Event}
use Rattle.tw_report.proofs.Joins.{in_parts}
use Rattle.tw_report.specs.Lines.{NamesPath, event_words}
use Rattle.tw_report.specs.Report.{event_lines}
use Rattle.tw_report.specs.Words.{line}
use Rattle.tw_report.proofs.event_page.put_events.Goals as goal

pub returns-in_err-put_all : goal.returns-in_err-put_all
returns-in_err-put_all g c =
    let net = c.args.instance.now in
    let rest = c.loop-rest.rest.now in
    let count = c.fill_page-count.result.0 in
    let told = rw c.fill_page-count.ensures.text at c.in_err-put_all.ensures in
    puts_partway c.from_residual.result _ _ (event_lines net (drop count rest)) (event_lines net (take count rest)) _ _ _ _
    (in_parts (λ e. line (event_words net e)) count rest) c.loop-rest.invariant.2 c.from_residual.ensures.0 told

pub loop-rest-preserved : goal.loop-rest-preserved
loop-rest-preserved g c =
    let net = c.args.instance.now in
    let rest = c.loop-rest.rest.now in
    let count = c.fill_page-count.result.0 in
    let P = λ (e : Event). NamesPath c.args.instance.now e.body in
    let told = rw c.fill_page-count.ensures.text at c.in_ok-put_all.ensures in
    let ended =
    partway_more _ _ (event_lines net (take count rest)) (event_lines net (drop count rest)) _ _ _ (in_parts (λ e. line (event_words net e)) count rest) c.loop-rest.invariant.2 told.0 in
    rw c.split_at.ensures.back (told.1, All-drop P count rest c.loop-rest.invariant.1, ended)
