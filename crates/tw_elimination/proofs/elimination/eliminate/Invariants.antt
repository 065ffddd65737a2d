use Rattle.std.proofs.Common.{ℕ, suc, ◌≡◌, ◌+◌, ◌<◌, ◌≤◌, false}
use Rattle.tw_instance.specs.Tables.{items}
use Rattle.tw_model.specs.Case.{IsCase}
use Rattle.tw_elimination.specs.Rounds.{AreLeft, is_halted, total_left}
use Rattle.tw_elimination.specs.Standing.{standing_routers}
use Rattle.tw_elimination.proofs.elimination.eliminate.Given as goal

abbrev pub invariant-loop-alloc : goal.invariant-loop-alloc
invariant-loop-alloc l = record {
  is : IsCase l.case;
  routers : l.routers.items ≡ standing_routers l.case;
  left : AreLeft l.case l.rounds (items l.left.items);
  next : AreLeft l.case (suc l.rounds) (items l.next.items);
  before : (m : ℕ) → m < l.rounds → is_halted l.case m ≡ false;
  fewer : l.rounds + total_left l.case l.rounds ≤ total_left l.case 0;
  few : total_left l.case 0 ≤ 205824;
}

abbrev pub decreases-loop-alloc : goal.decreases-loop-alloc
decreases-loop-alloc l = total_left l.case l.rounds
