use Rattle.std.proofs.Common.{◌≡◌, ◌<◌, ◌≤◌, ◌+◌, ◌*◌, ℕ, drop, get_or, length, set, List, ap, ◌∙◌, inl, inr, arith, get_or-set_same, get_or-set_other, length-set}
use Rattle.std.specs.Vec.{with_item, with_items}
use Rattle.std.proofs.lemmas.Bool.{cases_eq}
use Rattle.std.proofs.lemmas.List.{with_items_is}
use Rattle.tw_queue.specs.Least.{AreLesser}
use Rattle.tw_ordered.specs.Times.{never}
use Rattle.tw_queue.proofs.Leaves.{length_row, row_set, same_from}
use Rattle.tw_queue.proofs.least_times.LeastTimes.set.Goals as goal

within : (c : goal.After-self-2-1) → c.args.place < c.self.inside.count
within c = grind (arith, length_row)

-- the nodes with the leaf changed, and the nodes as they are then
abbrev changed : goal.After-self-2-1 → List ℕ
changed c = set c.self.inside.nodes.items (c.self.inside.leaves + c.args.place) c.args.time

abbrev mended : goal.After-self-2-1 → List ℕ
mended c = (with_items (with_item c.self.inside.nodes (c.self.inside.leaves + c.args.place) c.args.time) c.mend_above.new.nodes).items

mended_is : (c : goal.After-self-2-1) → mended c ≡ c.mend_above.new.nodes
mended_is c =
    let leaf = c.self.inside.leaves + c.args.place in
    let long = c.self.inside.nodes.ok.0 in
    let set_long = length-set c.self.inside.nodes.items leaf c.args.time in
    let same = rw c.deref_mut.ensures.value at c.mend_above.ensures.len in
    with_items_is (with_item c.self.inside.nodes leaf c.args.time) c.mend_above.new.nodes (omega arith)

leaves_same : (c : goal.After-self-2-1) → drop c.self.inside.leaves (mended c) ≡ drop c.self.inside.leaves (changed c)
leaves_same c =
    let v = c.self.invariant in
    let l = within c in
    ap (drop c.self.inside.leaves) (mended_is c) ∙ (rw c.deref_mut.ensures.value at (c.mend_above.ensures.leaves c.self.inside.leaves (omega arith)))

pub returns : goal.returns
returns c =
    let a = c.self.inside in
    row_set a.count a.leaves c.args.place c.args.time a.nodes.items (mended c) (leaves_same c) (within c) ∙ ap (λ xs. set xs c.args.place c.args.time) c.self.view_is

leaf_as_set : (c : goal.After-self-2-1) (k : ℕ) → c.self.inside.leaves ≤ k → get_or (mended c) k 0 ≡ get_or (changed c) k 0
leaf_as_set c k l = same_from c.self.inside.leaves (mended c) (changed c) (leaves_same c) k l

len : (c : goal.After-self-2-1) → length (mended c) ≡ 2 * c.self.inside.leaves
len c = grind (arith, length-set, mended_is)

latest : (c : goal.After-self-2-1) (k : ℕ) → c.self.inside.leaves ≤ k → get_or (mended c) k 0 ≤ never
latest c k l =
    let nodes = c.self.inside.nodes.items in
    let leaf = c.self.inside.leaves + c.args.place in
    let new = leaf_as_set c k l in
    let inside = within c in
    let long = c.self.invariant.len in
    let many = c.self.invariant.count in
    elim (cases_eq k leaf) [
      | inl e ↦
          let same = ap (λ j. get_or (changed c) j 0) e ∙ get_or-set_same nodes leaf c.args.time 0 (omega arith) in
          omega (arith, c.ranges.time.fits)
      | inr n ↦ grind (arith, get_or-set_other)
    ]

past : (c : goal.After-self-2-1) (k : ℕ) → c.self.inside.leaves + c.self.inside.count ≤ k → k < 2 * c.self.inside.leaves → get_or (mended c) k 0 ≡ never
past c k l m =
    let nodes = c.self.inside.nodes.items in
    let leaf = c.self.inside.leaves + c.args.place in
    let inside = within c in
    leaf_as_set c k (omega arith) ∙ get_or-set_other nodes leaf k c.args.time 0 (λ e. omega arith) ∙ c.self.invariant.past k l m

lesser : (c : goal.After-self-2-1) → AreLesser (mended c)
lesser c = rw (mended_is c) c.mend_above.ensures.lesser

pub invariant_of-self : goal.invariant_of-self
invariant_of-self c = record { power = c.self.invariant.power; len = len c; count = c.self.invariant.count; latest = latest c; past = past c; lesser = lesser c }
