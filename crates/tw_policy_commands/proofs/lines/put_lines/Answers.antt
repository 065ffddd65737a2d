use Rattle.std.proofs.Common.{◌≡◌, ◌∙◌, ◌+◌, ap, sym, subst, true, map}
use Rattle.std.specs.List.{flat_map}
use Rattle.std.specs.Io.KnownBytes.{Appends}
use Rattle.std.proofs.lemmas.List.{drop_all}
use Rattle.tw_device.specs.Sink.{Begins, Puts}
use Rattle.tw_device.proofs.Puts.{each_failed, each_more, partway_end}
use Rattle.tw_report.specs.Words.{line, word_text}
use Rattle.tw_policy_commands.proofs.Texts.{text_of, texts_lines}
use Rattle.tw_policy_commands.proofs.lines.put_lines.Goals as goal

pub returns-in_err-put_line : goal.returns-in_err-put_line
returns-in_err-put_line g c =
    let lines = c.args.lines.now in
    let before = g.S.Sink.written c.loop-words.sink in
    let after = g.S.Sink.written c.put_line.new.sink in
    let failed = g.S.Sink.failed c.put_line.new.sink in
    let same = ap (λ ws. line (map word_text ws)) c.deref.ensures.value ∙ ap text_of c.words-item.is in
    subst (λ t. Puts c.from_residual.result (g.S.Sink.written c.args.sink.now) after failed t) (texts_lines lines)
    (each_failed text_of lines c.loop-words.words-index c.words-item.result (g.S.Sink.written c.args.sink.now) before c.from_residual.result after failed
    c.loop-words-test.true c.loop-words.invariant.1 c.from_residual.ensures.0
    (subst (λ t. Begins before after t × (failed ≡ true)) same c.in_err-put_line.ensures))

pub loop-words-preserved : goal.loop-words-preserved
loop-words-preserved g c =
    let lines = c.args.lines.now in
    let before = g.S.Sink.written c.loop-words.sink in
    let after = g.S.Sink.written c.put_line.new.sink in
    let same = ap (λ ws. line (map word_text ws)) c.deref.ensures.value ∙ ap text_of c.words-item.is in (
      c.in_ok-put_line.ensures.1,
      each_more text_of lines c.loop-words.words-index c.words-item.result (g.S.Sink.written c.args.sink.now) before after c.loop-words-test.true c.loop-words.invariant.1
          (subst (λ t. Appends before after t) same c.in_ok-put_line.ensures.0),
    )

pub returns : goal.returns
returns g c =
    let lines = c.args.lines.now in
    let i = c.loop-words.words-index in
    let start = g.S.Sink.written c.args.sink.now in
    let now = g.S.Sink.written c.loop-words.sink in (
      subst (λ t. Appends start now t) (texts_lines lines)
          (partway_end (flat_map text_of lines) _ start now (ap (flat_map text_of) (drop_all i lines c.loop-words-test.false)) c.loop-words.invariant.1),
      c.loop-words.invariant.0,
    )
