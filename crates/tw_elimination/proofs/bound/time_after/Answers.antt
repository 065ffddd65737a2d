use Rattle.std.proofs.Common.{◌+◌, suc, arith}
use Rattle.tw_elimination.proofs.Bounds.{rounds_times}
use Rattle.tw_elimination.proofs.bound.time_after.Goals as goal

pub returns : goal.returns
returns c = let all = rounds_times (c.args.time + 1) c.args.delay (suc c.args.rounds) in grind (arith, all)
