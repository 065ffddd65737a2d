use Rattle.std.proofs.Common.{◌≡◌, filter, take}
use Rattle.tw_policy.specs.Search.{is_one_of}
use Rattle.tw_elimination.proofs.narrowing.those_among.Given as goal

abbrev pub invariant-loop-path : goal.invariant-loop-path
invariant-loop-path l = l.kept.items ≡ filter (is_one_of l.others) (take l.path-index l.paths)
