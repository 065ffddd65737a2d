use Rattle.std.proofs.Common.{◌≡◌, ◌+◌, ◌++◌, drop, take, length}
use Rattle.tw_instance.specs.Build.{judged_paths}
use Rattle.tw_instance.proofs.Told.{Covers}
use Rattle.tw_instance.proofs.instance.Instance.add_paths.Given as goal

abbrev pub invariant-loop-i : goal.invariant-loop-i
invariant-loop-i l = record {
  taken : l.self ≡ record l.initial.self { permitted = l.initial.self.permitted ++ take (length l.yielded) l.fn.paths.items };
  covers : Covers (judged_paths l.self (length l.yielded + 1) (drop (length l.yielded) l.fn.paths.items)) (judged_paths l.initial.self 1 l.fn.paths.items);
}
