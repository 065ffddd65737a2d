use Rattle.std.proofs.Common.{◌≡◌, ◌+◌, ◌*◌, ◌≤◌, ◌++◌, drop, length}
use Rattle.std.specs.List.{flat_map}
use Rattle.tw_parallel.proofs.counts.count_in_hands.Given as goal

abbrev pub invariant-loop-hand : goal.invariant-loop-hand
invariant-loop-hand l = record {
  sum : l.count + length (flat_map (λ h. drop h.next h.mail.items ++ h.out.items) (drop l.hand-index l.hands))
      ≡ length (flat_map (λ h. drop h.next h.mail.items ++ h.out.items) l.fn.hands);
  fits : l.count ≤ l.hand-index * 36893488147419103232;
}
