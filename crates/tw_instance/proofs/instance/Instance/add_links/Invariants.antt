use Rattle.std.proofs.Common.{◌≡◌, ◌+◌, ◌++◌, drop, take}
use Rattle.tw_instance.specs.Build.{judged_links}
use Rattle.tw_instance.proofs.Told.{Covers}
use Rattle.tw_instance.proofs.instance.Instance.add_links.Given as goal

abbrev pub invariant-loop-i : goal.invariant-loop-i
invariant-loop-i l = record {
  taken : l.self ≡ record l.initial.self { links = l.initial.self.links ++ take l.i l.links };
  covers : Covers (judged_links l.self (l.i + 1) (drop l.i l.links)) (judged_links l.initial.self 1 l.links);
}
