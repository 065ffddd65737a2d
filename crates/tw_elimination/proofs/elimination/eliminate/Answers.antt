use Rattle.std.proofs.Common.{◌≡◌, ℕ, suc, ◌+◌, ◌∙◌, ap, sym, subst, arith, length, true, get_or, false, refl}
use Rattle.std.proofs.lemmas.List.{length-map}
use Rattle.tw_model.specs.State.{has_peer}
use Rattle.tw_instance.specs.Tables.{items, row}
use Rattle.tw_elimination.specs.Rounds.{AreLeft, AreSettled, is_halted}
use Rattle.tw_elimination.proofs.Halting.{as_long, lists_long, before_more, few_of_case, fewer_found, is_over, left_more, less_more, none_found, rounds_are}
use Rattle.tw_elimination.proofs.Settled.{settled_are}
use Rattle.tw_elimination.proofs.elimination.eliminate.Goals as goal

pub loop-alloc-init : goal.loop-alloc-init
loop-alloc-init c =
    let case = c.args.case.now in
    record {
      is = c.in_ok-left.ensures.case;
      routers = c.in_ok-routers.ensures;
      left = c.in_ok-left.ensures.lists;
      next = c.in_ok-next.ensures.next 0 (subst (λ rows. AreLeft case 0 (items rows)) (sym c.deref-3.ensures.value) c.in_ok-left.ensures.lists);
      before = λ m none. absurd (omega arith);
      fewer = omega arith;
      few = few_of_case case c.in_ok-left.ensures.case (items c.in_ok-left.left.items) c.in_ok-left.ensures.lists c.in_ok-left.ensures.few;
    }

pub has_fewer-requires : goal.has_fewer-requires
has_fewer-requires c =
    let inv = c.loop-alloc.invariant in
    ap length c.deref-in-loop-alloc.ensures.value
    ∙ (as_long c.args.case.now inv.is c.loop-alloc.rounds c.loop-alloc.left.items c.loop-alloc.next.items inv.left inv.next
    ∙ ap length (sym c.deref-in-loop-alloc-2.ensures.value))

pub settled_routers-requires-clause-next : goal.settled_routers-requires-clause-next
settled_routers-requires-clause-next c =
    let inv = c.loop-alloc.invariant in
    ap length c.deref-in-loop-alloc-3.ensures.value
    ∙ (sym (length-map c.loop-alloc.next.items (λ v. v.items)) ∙ lists_long c.args.case.now inv.is (suc c.loop-alloc.rounds) (items c.loop-alloc.next.items) inv.next)

pub settled_routers-requires-clause-left : goal.settled_routers-requires-clause-left
settled_routers-requires-clause-left c =
    let inv = c.loop-alloc.invariant in
    ap length c.deref-in-loop-alloc-4.ensures.value
    ∙ (sym (length-map c.loop-alloc.left.items (λ v. v.items)) ∙ lists_long c.args.case.now inv.is c.loop-alloc.rounds (items c.loop-alloc.left.items) inv.left)

pub next_lists-requires-in-loop-alloc-clause-settled : goal.next_lists-requires-in-loop-alloc-clause-settled
next_lists-requires-in-loop-alloc-clause-settled c =
    let case = c.args.case.now in
    let inv = c.loop-alloc.invariant in
    let n = c.loop-alloc.rounds in
    let same = subst (λ rows. (v : ℕ) → get_or c.in_ok-settled.settled.items v false ≡ true → (w : ℕ) → has_peer case.net v w ≡ true → length (row rows w) ≡ length (row c.loop-alloc.left.items w))
    c.deref-in-loop-alloc-3.ensures.value
    (subst (λ rows. (v : ℕ) → get_or c.in_ok-settled.settled.items v false ≡ true → (w : ℕ) → has_peer case.net v w ≡ true → length (row c.deref-in-loop-alloc-3.result.now w) ≡ length (row rows w))
    c.deref-in-loop-alloc-4.ensures.value c.in_ok-settled.ensures) in
    let are = settled_are case inv.is n c.loop-alloc.left.items c.loop-alloc.next.items inv.left inv.next c.in_ok-settled.settled.items same in
    subst (λ rows. AreSettled case (row rows) c.deref-in-loop-alloc-7.result.now) (sym c.deref-in-loop-alloc-6.ensures.value)
    (subst (AreSettled case (row c.loop-alloc.next.items)) (sym c.deref-in-loop-alloc-7.ensures.value) are)

pub loop-alloc-smaller : goal.loop-alloc-smaller
loop-alloc-smaller c =
    let case = c.args.case.now in
    let inv = c.loop-alloc.invariant in
    let n = c.loop-alloc.rounds in
    let last : is_halted case n ≡ false
    = fewer_found case inv.is n c.loop-alloc.left.items c.loop-alloc.next.items inv.left inv.next c.deref-in-loop-alloc-2.result.now c.deref-in-loop-alloc.result.now
    c.deref-in-loop-alloc-2.ensures.value c.deref-in-loop-alloc.ensures.value (c.loop-alloc-test.ensures.some refl) in
    less_more case n last

pub loop-alloc-preserved : goal.loop-alloc-preserved
loop-alloc-preserved c =
    let case = c.args.case.now in
    let inv = c.loop-alloc.invariant in
    let n = c.loop-alloc.rounds in
    let last : is_halted case n ≡ false
    = fewer_found case inv.is n c.loop-alloc.left.items c.loop-alloc.next.items inv.left inv.next c.deref-in-loop-alloc-2.result.now c.deref-in-loop-alloc.result.now
    c.deref-in-loop-alloc-2.ensures.value c.deref-in-loop-alloc.ensures.value (c.loop-alloc-test.ensures.some refl) in
    let left = left_more case n (items c.loop-alloc.next.items) inv.next in
    let less = less_more case n last in
    let fewer = inv.fewer in
    record {
      is = inv.is;
      routers = inv.routers;
      left = left;
      next = c.in_ok-next-2.ensures.next (n + 1) (subst (λ rows. AreLeft case (n + 1) (items rows)) (sym c.deref-in-loop-alloc-6.ensures.value) left);
      before = before_more case n inv.before last;
      fewer = omega arith;
      few = inv.few;
    }

pub returns : goal.returns
returns c =
    let case = c.args.case.now in
    let inv = c.loop-alloc.invariant in
    let over = is_over case inv.is c.loop-alloc.rounds c.loop-alloc.left.items c.loop-alloc.next.items inv.left inv.next
    (none_found c.loop-alloc.left.items c.loop-alloc.next.items c.deref-in-loop-alloc-2.result.now c.deref-in-loop-alloc.result.now
    c.deref-in-loop-alloc-2.ensures.value c.deref-in-loop-alloc.ensures.value (c.loop-alloc-test.ensures.none refl)) in
    ap (λ (n : ℕ). record { case = case; rounds = n }) (rounds_are case c.loop-alloc.rounds over inv.before inv.fewer)
