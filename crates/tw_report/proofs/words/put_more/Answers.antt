use Rattle.tw_device.proofs.Puts.{each_failed, each_more}
use Rattle.tw_report.specs.Words.{spaced_word}
use Rattle.tw_report.proofs.words.put_more.Goals as goal

pub returns-in_err-put_next : goal.returns-in_err-put_next
returns-in_err-put_next g c =
    each_failed spaced_word c.args.words.now c.loop-word.word-index _ _ _ c.from_residual.result _ _ c.loop-word-test.true c.loop-word.invariant.1 c.from_residual.ensures.0 c.in_err-put_next.ensures

pub loop-word-preserved : goal.loop-word-preserved
loop-word-preserved g c =
    (c.in_ok-put_next.ensures.1, each_more spaced_word c.args.words.now c.loop-word.word-index _ _ _ _ c.loop-word-test.true c.loop-word.invariant.1 c.in_ok-put_next.ensures.0)
