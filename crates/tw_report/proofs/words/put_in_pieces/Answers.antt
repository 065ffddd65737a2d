use Rattle.std.proofs.Common.{[], ◌∷◌, map}
use Rattle.tw_device.proofs.Puts.{puts_then}
use Rattle.tw_report.specs.Words.{with_spaces, word_text}
use Rattle.tw_report.proofs.words.put_in_pieces.Goals as goal

pub returns : goal.returns
returns g c =
    puts_then c.put_all.result _ _ _ _ (with_spaces (map word_text c.args.words.now)) (10 ∷ []) c.in_ok-put_words.ensures.0 c.put_all.ensures
