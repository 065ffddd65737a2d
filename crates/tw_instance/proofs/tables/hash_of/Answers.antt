use Rattle.std.proofs.Common.{rules}
use Rattle.tw_instance.specs.Tables.{hash}
use Rattle.tw_instance.proofs.tables.hash_of.Goals as goal

pub returns : goal.returns
unfolding hash
returns c = search rules
