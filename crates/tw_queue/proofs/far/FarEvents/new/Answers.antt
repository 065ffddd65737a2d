use Rattle.std.proofs.Common.{◌≡◌, ◌<◌, ℕ, [], length, get_or, refl, arith}
use Rattle.std.proofs.lemmas.List.{get_or-replicate}
use Rattle.tw_ordered.specs.Times.{never}
use Rattle.tw_queue.proofs.Fars.{no_far}
use Rattle.tw_ordered.proofs.Lists.{in_order_none}
use Rattle.tw_queue.proofs.far.FarEvents.new.Goals as goal

empty : (c : goal.After-from_fn) → (i : ℕ) → i < length c.from_fn.result → get_or c.from_fn.result i [] ≡ []
empty c i l = grind arith

pub invariant_of-result : goal.invariant_of-result
invariant_of-result c = no_far c.from_fn.result _ c.from_fn.ensures.items.long refl (empty c) (λ i l. get_or-replicate 16 i never 0 l)

pub returns : goal.returns
returns c = in_order_none c.from_fn.result (empty c)
