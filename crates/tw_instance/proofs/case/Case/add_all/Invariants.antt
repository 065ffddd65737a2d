use Rattle.std.proofs.Common.{◌≡◌, drop, take}
use Rattle.tw_instance.specs.Build.{judged_scenes}
use Rattle.tw_instance.proofs.Scenes.{latest_case}
use Rattle.tw_instance.proofs.Told.{Covers}
use Rattle.tw_instance.proofs.case.Case.add_all.Given as goal

abbrev pub invariant-loop-i : goal.invariant-loop-i
invariant-loop-i l = record {
  taken : l.self ≡ latest_case l.initial.self.net (take l.i l.scenes);
  covers : Covers (judged_scenes l.initial.self.net l.i (drop l.i l.scenes)) (judged_scenes l.initial.self.net 0 l.scenes);
}
