use Rattle.std.proofs.Common.{◌≡◌, drop, fold, min, if◌then◌else◌}
use Rattle.tw_instance.specs.Tables.{row}
use Rattle.tw_elimination.specs.Marks.{all_marked, ends, least_reach, marked, reach}
use Rattle.tw_elimination.proofs.marks.mark_all.Given as goal

abbrev pub invariant-loop-slot : goal.invariant-loop-slot
invariant-loop-slot l = record {
  reach : fold (λ n p. if p.1.up then min n (reach l.router (row l.left p.0.peer)) else n) l.least (drop l.slot (ends l.router)) ≡ least_reach l.router (row l.left);
  given : fold (λ g p. if p.1.up then marked l.router g (row l.left p.0.peer) else g) l.given (drop l.slot (ends l.router)) ≡ all_marked l.router (row l.left) l.initial.given;
}
