use Rattle.std.proofs.Common.{◌≡◌, ◌∙◌, ◌<◌, ◌≤◌, ap, arith, false, length, refl, subst, sym}
use Rattle.tw_instance.specs.Tables.{items}
use Rattle.tw_elimination.specs.Narrowing.{AreLists, halt_within, lists_after, loses_none, one_round, total_in}
use Rattle.tw_elimination.proofs.Halting.{none_found}
use Rattle.tw_elimination.proofs.Kept.{halt_is, halt_more, is_over, next_as_long, not_last, round_lists, takes_one}
use Rattle.tw_elimination.proofs.narrowing.eliminate_within.Goals as goal

pub loop-alloc-init : goal.loop-alloc-init
loop-alloc-init c =
    let case = c.args.case.now in
    record {
      is = c.one_round.ensures.case;
      same = refl;
      routers = c.requires.routers;
      left = c.requires.lists;
      next = c.in_ok-next.ensures.value ∙ ap (λ rows. one_round case (items rows)) c.deref.ensures.value;
      halt = (total_in case (items c.args.lists.items), omega arith, refl);
    }

pub has_fewer-requires : goal.has_fewer-requires
has_fewer-requires c =
    let inv = c.loop-alloc.invariant in
    ap length c.deref-in-loop-alloc.ensures.value
    ∙ (next_as_long c.args.case.now c.loop-alloc.left.items c.loop-alloc.next.items inv.next inv.left ∙ ap length (sym c.deref-in-loop-alloc-2.ensures.value))

next_lists : (c : goal.After-deref-in-loop-alloc-3) → AreLists c.args.case.now (items c.loop-alloc.next.items)
next_lists c =
    let inv = c.loop-alloc.invariant in
    subst (AreLists c.args.case.now) (sym inv.next) (round_lists c.args.case.now (items c.loop-alloc.left.items) inv.left)

pub one_round-requires-in-loop-alloc-clause-lists : goal.one_round-requires-in-loop-alloc-clause-lists
one_round-requires-in-loop-alloc-clause-lists c =
    subst (λ rows. AreLists c.args.case.now (items rows)) (sym c.deref-in-loop-alloc-3.ensures.value) (next_lists c)

-- the round that was taken was not the last
takes : (c : goal.In_ok-next-2) → loses_none c.args.case.now (items c.loop-alloc.left.items) ≡ false
takes c =
    not_last c.args.case.now c.loop-alloc.left.items c.loop-alloc.next.items c.loop-alloc.invariant.next c.deref-in-loop-alloc-2.result.now c.deref-in-loop-alloc.result.now
    c.deref-in-loop-alloc-2.ensures.value c.deref-in-loop-alloc.ensures.value (c.loop-alloc-test.ensures.some refl)

pub loop-alloc-smaller : goal.loop-alloc-smaller
loop-alloc-smaller c =
    let case = c.args.case.now in
    let left = items c.loop-alloc.left.items in
    subst (λ rows. total_in case rows < total_in case left) (sym c.loop-alloc.invariant.next) (takes_one case left (takes c))

pub loop-alloc-preserved : goal.loop-alloc-preserved
loop-alloc-preserved c =
    let case = c.args.case.now in
    let inv = c.loop-alloc.invariant in
    let left = items c.loop-alloc.left.items in
    let end = halt_within case (items c.args.lists.items) in
    let more = halt_more case inv.halt.0 left end inv.halt.1 inv.halt.2 (takes c) in
    record {
      is = inv.is;
      same = inv.same;
      routers = inv.routers;
      left = subst (AreLists case) (sym inv.next) (round_lists case left inv.left);
      next = c.in_ok-next-2.ensures.value ∙ ap (λ rows. one_round case (items rows)) c.deref-in-loop-alloc-3.ensures.value;
      halt = (
        more.0,
        subst (λ rows. total_in case rows ≤ more.0) (sym inv.next) more.1,
        subst (λ rows. lists_after case more.0 rows ≡ end) (sym inv.next) more.2,
      );
    }

pub returns : goal.returns
returns c =
    let case = c.args.case.now in
    let inv = c.loop-alloc.invariant in
    let over = is_over case c.loop-alloc.left.items c.loop-alloc.next.items inv.next
    (none_found c.loop-alloc.left.items c.loop-alloc.next.items c.deref-in-loop-alloc-2.result.now c.deref-in-loop-alloc.result.now
    c.deref-in-loop-alloc-2.ensures.value c.deref-in-loop-alloc.ensures.value (c.loop-alloc-test.ensures.none refl)) in
    record {
      value = sym (halt_is case inv.halt.0 (items c.loop-alloc.left.items) over) ∙ inv.halt.2;
      lists = inv.left;
      case = inv.is;
      same = inv.same;
    }
