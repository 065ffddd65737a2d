use Rattle.std.proofs.Common.{◌≡◌, ◌<◌, ◌++◌, drop, map}
use Rattle.std.specs.List.{AllByRecursion}
use Rattle.tw_shard.specs.Timeline.{opening_timeline}
use Rattle.tw_shard.proofs.shard.open.opening_timelines.Given as goal

abbrev pub invariant-loop-router : goal.invariant-loop-router
invariant-loop-router l = record {
  opened : l.timelines.items ++ map (opening_timeline l.case l.retains) (drop l.router-index l.routers) ≡ map (opening_timeline l.case l.retains) l.routers;
  there : AllByRecursion (λ r. r < l.case.net.nodes) (drop l.router-index l.routers);
}
