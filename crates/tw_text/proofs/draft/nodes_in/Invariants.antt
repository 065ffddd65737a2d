use Rattle.std.proofs.Common.{◌≡◌, ◌≤◌, length, nat_lt, take, true}
use Rattle.std.specs.List.{list_all}
use Rattle.std.specs.Vec.{vec_capacity, vec_len}
use Rattle.tw_text.proofs.draft.nodes_in.Given as goal

abbrev pub invariant-loop-number : goal.invariant-loop-number
invariant-loop-number l = record {
  room : length l.numbers ≤ vec_capacity l.nodes;
  len : vec_len l.nodes ≡ l.number-index;
  same : l.nodes.items ≡ take l.number-index l.numbers;
  below : list_all (λ n. nat_lt n l.instance.nodes) (take l.number-index l.numbers) ≡ true;
}
