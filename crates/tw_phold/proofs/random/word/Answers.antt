use Rattle.std.proofs.Common.{rules}
use Rattle.tw_phold.specs.Random.{mixed, word_of}
use Rattle.tw_phold.proofs.random.word.Goals as goal

pub returns : goal.returns
unfolding word_of mixed
returns c = search rules
