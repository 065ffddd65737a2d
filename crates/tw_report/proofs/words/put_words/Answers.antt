use Rattle.tw_device.proofs.Puts.{puts_joined}
use Rattle.tw_report.proofs.Joins.{spaced_first}
use Rattle.tw_report.specs.Words.{word_text}
use Rattle.tw_report.proofs.words.put_words.Goals as goal

pub returns : goal.returns
returns g c =
    puts_joined c.put_more.result _ _ _ _ _ _ _ c.in_ok-put_word.ensures.0 c.put_more.ensures (spaced_first word_text c.args.words.now _ c.in-len1-up.len_at_least)
