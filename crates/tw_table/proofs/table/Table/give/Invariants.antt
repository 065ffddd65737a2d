use Rattle.std.proofs.Common.{◌≡◌}
use Rattle.tw_table.specs.Shares.{share}
use Rattle.tw_table.specs.Views.{given}
use Rattle.tw_table.proofs.table.Table.give.Given as goal

-- what the push tells is that the pass has given this share
abbrev pub ghosts-push-M-Outcome : goal.ghosts-push-M-Outcome
ghosts-push-M-Outcome g a = record { then = λ v x w. w ≡ given (share a.shard.now a.hand.now) v x }
