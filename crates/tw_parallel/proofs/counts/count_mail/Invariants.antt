use Rattle.std.proofs.Common.{◌≡◌, ◌*◌, ◌≤◌, length, take}
use Rattle.std.specs.List.{flat_map}
use Rattle.tw_parallel.proofs.counts.count_mail.Given as goal

abbrev pub invariant-loop-worker : goal.invariant-loop-worker
invariant-loop-worker l = record {
  sum : l.count ≡ length (flat_map (λ mail. mail) (take l.worker l.exchange.mail));
  fits : l.count ≤ l.worker * 18446744073709551616;
}
