use Rattle.std.proofs.Common.{◌≡◌, ◌+◌, true, drop, fold, max, set}
use Rattle.tw_elimination.specs.Marks.{marked, place_given, reach}
use Rattle.tw_elimination.proofs.marks.mark.Given as goal

abbrev pub invariant-loop-path : goal.invariant-loop-path
invariant-loop-path l = record {
  reach : fold (λ n p. max n (place_given l.router p + 1)) l.reach (drop l.path-index l.paths) ≡ reach l.router l.paths;
  given : fold (λ g p. set g (place_given l.router p) true) l.given (drop l.path-index l.paths) ≡ marked l.router l.initial.given l.paths;
}
