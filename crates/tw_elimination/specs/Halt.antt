-- What the fields of an elimination say, and what holds of them (own).
use Rattle.std.specs.Prelude.{◌≤◌}
use Rattle.tw_instance.specs.Tables.{items}
use Rattle.tw_elimination.specs.declared.elimination.Elimination.TheInside.{Inside}
use Rattle.tw_elimination.specs.Rounds.{AreLeft, Eliminated}

-- the case, and the rounds that it took
abbrev pub eliminated_of : Inside → Eliminated
eliminated_of a = record { case = a.case.now; rounds = a.rounds }

-- the kept lists are those that so many rounds leave, which are no more than a case has paths
pub record IsAt (a : Inside) : Type 0 where
  pub lists : AreLeft a.case.now a.rounds (items a.left.items)
  pub few : a.rounds ≤ 205824
