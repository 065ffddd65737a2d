use Rattle.std.proofs.Common.{◌≡◌, ◌+◌, ◌*◌, ◌≤◌, drop}
use Rattle.tw_model.specs.declared.limits.TheConstants.{MOST_COUNTED}
use Rattle.tw_seq.specs.Thread.{handled_count}
use Rattle.tw_seq.proofs.routers.count_handled.Given as goal

abbrev pub invariant-loop-router : goal.invariant-loop-router
invariant-loop-router l = record {
  few : l.count ≤ MOST_COUNTED * l.router-index;
  sum : l.count + handled_count (drop l.router-index l.routers) ≡ handled_count l.routers;
}
