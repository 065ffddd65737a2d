use Rattle.std.proofs.Common.{◌≡◌, ◌==◌, ◌<◌, filter, get_or, length, map, not, refl, ap, sym, ◌∙◌, arith}
use Rattle.std.specs.List.{swap_remove}
use Rattle.std.proofs.lemmas.List.{get_or_read, length-map}
use Rattle.std.proofs.lemmas.Bool.{cases_eq}
use Rattle.tw_event.specs.Order.{event_same}
use Rattle.tw_sim.specs.Ordered.{times}
use Rattle.tw_queue.proofs.Times.{left_swapped, none_at, row_swapped, stamped}
use Rattle.tw_queue.proofs.timed_events.drop_tick.Goals as goal

pub loop-place-init : goal.loop-place-init
loop-place-init c = (c.requires, omega arith, λ k l. absurd (omega arith), λ e. refl)

pub swap_remove-requires-then-index-time : goal.swap_remove-requires-then-index-time
swap_remove-requires-then-index-time c = grind (arith, length-map)

within : (c : goal.After-swap_remove-then-index-time) → c.loop-place.place < length c.loop-place.events.items
within c = grind (arith, length-map)

stamp : (c : goal.After-swap_remove-then-index-time) → c.swap_remove-then-index-time.result.time ≡ c.args.time
stamp c = grind (arith, stamped, within)

pub loop-place-smaller-then-index-time : goal.loop-place-smaller-then-index-time
loop-place-smaller-then-index-time c = grind arith

pub loop-place-preserved-then-index-time : goal.loop-place-preserved-then-index-time
loop-place-preserved-then-index-time c =
    let xs = c.loop-place.events.items in
    let i = c.loop-place.place in
    let x = c.swap_remove-then-index-time.result in
    let r = c.swap_remove.result in
    let out = c.swap_remove-then-index-time.ensures in
    let old = c.loop-place.invariant in
    let row =
    c.swap_remove.ensures.items ∙ ap (λ rs. swap_remove rs i r) old.0 ∙ row_swapped xs i (within c) x r ∙ ap (map (λ e. e.time)) (sym out.items) in (
      row,
      (let l = within c in
          let a = c.swap_remove-then-index-time.new.self.ok.0 in
          let b = c.loop-place.events.ok.0 in
          let n = out.len in
          omega arith),
      (λ k l q.
          let m = within c in
          let a = c.loop-place.row.ok.0 in
          let n = c.len.ensures in
          let s = c.loop-place-test.true in
          old.2 k l (sym (c.swap_remove.ensures.by_index.1 k 0 (λ e. omega arith) (omega arith)) ∙ q)),
      λ e. ap (λ ys. times event_same e (filter (λ d. not (d.time == c.args.time)) ys)) out.items ∙ left_swapped xs i (within c) x out.value c.args.time (stamp c) e ∙ old.3 e,
    )

pub loop-place-smaller : goal.loop-place-smaller
loop-place-smaller c = grind arith

pub loop-place-preserved : goal.loop-place-preserved
loop-place-preserved c = grind (arith, length-map, cases_eq, get_or_read)

pub returns-clause-alike : goal.returns-clause-alike
returns-clause-alike c = c.loop-place.invariant.0

pub returns-clause-left : goal.returns-clause-left
returns-clause-left c e =
    let old = c.loop-place.invariant in
    let all =
    none_at c.args.time c.loop-place.events.items (λ k l q.
    let long = ap (λ xs. length xs) old.0 ∙ length-map c.loop-place.events.items (λ e. e.time) in
    let row = c.loop-place.row.ok.0 in
    let n = c.len.ensures in
    let m = c.loop-place-test.false in
    old.2 k (omega arith) (ap (λ rs. get_or rs k 0) old.0 ∙ q)) in
    ap (times event_same e) (sym all) ∙ old.3 e
