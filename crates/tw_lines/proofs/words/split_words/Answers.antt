use Rattle.std.proofs.Common.{◌==◌, rules, tests}
use Rattle.std.proofs.lemmas.Iterator.Consumers.{map_from_collect}
use Rattle.std.proofs.lemmas.Iterator.Splits.{YieldsList-from_slice_split}
use Rattle.tw_lines.proofs.words.split_words.Goals as goal

pub returns : goal.returns
returns c =
    let split = c.split.ensures in
    map_from_collect _ c.collect.ensures.ran (YieldsList-from_slice_split _ (λ b. b == 32) c.args.line.now split.rest split.done split.closure (λ x b q k. search (rules, tests)))
