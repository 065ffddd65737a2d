use Rattle.std.proofs.Common.{◌≡◌, ◌+◌, ◌<◌, ℕ, get_or, length}
use Rattle.tw_instance.specs.Firsts.{IsFirstOf}
use Rattle.tw_instance.specs.declared.extensions.Extension.{Extension}
use Rattle.tw_instance.proofs.extensions.firsts_of.Given as goal

abbrev pub invariant-loop-row : goal.invariant-loop-row
invariant-loop-row l = record {
  long : length l.firsts.items + 1 ≡ l.row;
  each : (r : ℕ) (e : Extension) → r < length l.firsts.items → IsFirstOf (get_or l.starts r 0) (get_or l.starts (r + 1) 0) l.extensions (get_or l.firsts.items r e);
}
