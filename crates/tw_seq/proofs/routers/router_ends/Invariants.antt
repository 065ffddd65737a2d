use Rattle.std.proofs.Common.{◌≡◌, ◌++◌, drop, map}
use Rattle.tw_model.specs.Summary.{end_of}
use Rattle.tw_seq.proofs.routers.router_ends.Given as goal

abbrev pub invariant-loop-router : goal.invariant-loop-router
invariant-loop-router l =
    l.ends.items ++ map (λ r. end_of r.state) (drop l.router-index l.routers) ≡ map (λ r. end_of r.state) l.routers
