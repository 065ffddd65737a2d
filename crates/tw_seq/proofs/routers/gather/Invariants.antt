use Rattle.std.proofs.Common.{◌≡◌, ◌++◌, drop, map}
use Rattle.tw_shape.specs.Shape.{bare}
use Rattle.tw_seq.proofs.routers.gather.Given as goal

-- the routers before are added
abbrev pub invariant-loop-router : goal.invariant-loop-router
invariant-loop-router l = record {
  time : l.builder.time ≡ l.initial.builder.time;
  routers : l.builder.routers ++ map (λ r. bare r.state) (drop l.router-index l.routers) ≡ l.initial.builder.routers ++ map (λ r. bare r.state) l.routers;
  sent : l.builder.sent ++ map (λ r. r.state.counters.sent) (drop l.router-index l.routers) ≡ l.initial.builder.sent ++ map (λ r. r.state.counters.sent) l.routers;
}
