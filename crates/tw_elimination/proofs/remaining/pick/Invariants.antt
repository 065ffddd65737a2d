use Rattle.std.proofs.Common.{◌≡◌, ◌-◌, ◌++◌, drop}
use Rattle.tw_elimination.specs.Marks.{picked}
use Rattle.tw_elimination.proofs.remaining.pick.Given as goal

abbrev pub invariant-loop-place : goal.invariant-loop-place
invariant-loop-place l = l.left.items ++ picked (drop l.place l.order) (drop l.place l.given) (l.reach - l.place) ≡ picked l.order l.given l.reach
