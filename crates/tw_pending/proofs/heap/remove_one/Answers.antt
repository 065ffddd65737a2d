use Rattle.std.proofs.Common.{◌≡◌, ◌<◌, ◌∷◌, length, get_or, swap_remove, ap, sym, ◌∙◌, subst, arith}
use Rattle.std.specs.BinaryHeap.{heap_items, heap_vec}
use Rattle.std.specs.List.{prefix_len}
use Rattle.std.specs.List.Sorted.{IsPermutation}
use Rattle.std.proofs.lemmas.List.Sorted.{IsPermutation-swap_remove}
use Rattle.tw_pending.specs.Order.{is_other}
use Rattle.tw_pending.proofs.Removed.{heap_less, missing_in_heap}
use Rattle.tw_pending.proofs.heap.remove_one.Goals as goal

pub returns-then-place-len-clause-none : goal.returns-then-place-len-clause-none
returns-then-place-len-clause-none g c =
    let e = c.args.event.now in
    let items = heap_items c.args.heap.now in
    let place : c.place_in_heap-place.result ≡ prefix_len (λ x. is_other g.E.Ord.cmp e x.0) items = c.place_in_heap-place.ensures.value ∙ ap (prefix_len (λ x. is_other g.E.Ord.cmp e x.0)) c.as_slice.ensures.value in
    let long = ap length c.as_slice.ensures.value in
    missing_in_heap g.E.Ord.cmp e items (omega (arith, c.if-place-len.true, c.len.ensures, c.as_slice.ensures.len))

pub returns-clause-yes : goal.returns-clause-yes
returns-clause-yes g c =
    let e = c.args.event.now in
    let items = heap_items c.args.heap.now in
    let x = c.swap_remove.result in
    let i = c.place_in_heap-place.result in
    let place : i ≡ prefix_len (λ x. is_other g.E.Ord.cmp e x.0) items = c.place_in_heap-place.ensures.value ∙ ap (prefix_len (λ x. is_other g.E.Ord.cmp e x.0)) c.as_slice.ensures.value in
    let long = ap length c.as_slice.ensures.value in
    let within : i < length items = omega (arith, c.if-place-len.false, c.len.ensures, c.as_slice.ensures.len) in
    let same : c.into_vec-items.result.items ≡ items = ap (λ v. v.items) (c.into_vec-items.ensures.value ∙ ap heap_vec c.replace.ensures.value) in
    let at : x ≡ get_or items i x = c.swap_remove.ensures.value ∙ ap (λ xs. get_or xs i x) same in
    let left : IsPermutation items (x ∷ c.swap_remove.new.self.items) =
    subst (λ xs. IsPermutation items (x ∷ xs)) (sym (c.swap_remove.ensures.items ∙ ap (λ xs. swap_remove xs i x) same)) (IsPermutation-swap_remove items i x within at) in
    heap_less g.E.Ord.cmp g.met.E.Ord.total g.met.E.Timed.exact e x items c.swap_remove.new.self.items (heap_items c.from.result) i place within at left c.from.ensures.1
