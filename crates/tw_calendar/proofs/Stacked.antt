-- The events of two lists, put in order together.
use Rattle.std.proofs.Common.{◌≡◌, ◌<◌, ◌+◌, ◌-◌, ◌++◌, ℕ, suc, zero, Some, List, [], ◌∷◌}
use Rattle.std.proofs.Common.{length, take, drop, slice_get, refl, ap, sym, ◌∙◌, arith}
use Rattle.std.proofs.lemmas.Option.{none-some}
use Rattle.tw_event.specs.declared.event.Event.{Event}
use Rattle.tw_event.specs.Order.{event_before, event_same}
use Rattle.tw_sim.specs.Ordered.{insert, one, take_out, times}
use Rattle.tw_ordered.specs.InOrder.{in_order}
use Rattle.tw_ordered.proofs.Ordered.{in_order-times, in_order_removed, take_out_none, times-in_order, times-take_out, in_order-taken}
use Rattle.tw_ordered.proofs.Events.{event_law, same_some}
use Rattle.tw_ordered.proofs.Lists.{times-append}
use Rattle.tw_calendar.proofs.Merged.{insert_taken}
use Rattle.tw_ordered.proofs.Released.{no_length}
use Rattle.std.proofs.Common.{length, drop, slice_get, refl, ap, sym, ◌∙◌, arith}

-- what comes last goes away
pub last_counts : (d e : Event) (xs : List Event) (n : ℕ) → suc n ≡ length xs → slice_get xs n ≡ Some e → times event_same d (take n xs) + one event_same d e ≡ times event_same d xs
last_counts d e [] n l h = absurd (none-some e h)
last_counts d e (x ∷ xs) zero l h =
    let c = ap (times event_same d) (no_length xs (omega arith)) in
    let q = ap (one event_same d) (same_some x e h) in
    omega arith
last_counts d e (x ∷ xs) (suc n) l h =
    let r = last_counts d e xs n (omega arith) h in
    omega arith

-- what is in order has as many
pub counted : (e : Event) (xs ys now : List Event) → in_order event_before (xs ++ ys) ≡ now → times event_same e now ≡ times event_same e xs + times event_same e ys
counted e xs ys now h =
    let a = ap (times event_same e) h in
    let b = times-in_order event_before event_same event_law e (xs ++ ys) in
    let c = times-append e xs ys in
    omega arith

pub same_order : (xs ys vs ws : List Event) → ((e : Event) → times event_same e vs + times event_same e ws ≡ times event_same e xs + times event_same e ys)
    → in_order event_before (vs ++ ws) ≡ in_order event_before (xs ++ ys)
same_order xs ys vs ws h =
    in_order-times event_before event_same event_law (vs ++ ws) (xs ++ ys) (λ e.
    let a = times-append e xs ys in
    let b = times-append e vs ws in
    let c = h e in
    omega arith)

-- one more, and one less that was the least
pub order_more : (x : Event) (xs ys vs ws : List Event) → ((e : Event) → times event_same e vs + times event_same e ws ≡ one event_same e x + times event_same e xs + times event_same e ys)
    → in_order event_before (vs ++ ws) ≡ insert event_before x (in_order event_before (xs ++ ys))
unfolding in_order
order_more x xs ys vs ws h =
    in_order-times event_before event_same event_law (vs ++ ws) (x ∷ xs ++ ys) (λ e.
    let a = times-append e xs ys in
    let b = times-append e vs ws in
    let c = h e in
    omega arith)

pub order_less : (x : Event) (xs ys vs ws : List Event) → slice_get (in_order event_before (xs ++ ys)) 0 ≡ Some x
    → ((e : Event) → times event_same e vs + times event_same e ws + one event_same e x ≡ times event_same e xs + times event_same e ys)
    → in_order event_before (vs ++ ws) ≡ drop 1 (in_order event_before (xs ++ ys))
order_less x xs ys vs ws first h =
    let whole = order_more x vs ws xs ys (λ e. let c = h e in omega arith) in
    sym (insert_taken x (in_order event_before (vs ++ ws)) (ap (λ zs. slice_get zs 0) (sym whole) ∙ first)) ∙ ap (drop 1) (sym whole)

pub popped : (d e : Event) (xs : List Event) → slice_get xs (length xs - 1) ≡ Some e → times event_same d (take (length xs - 1) xs) + one event_same d e ≡ times event_same d xs
popped d e [] h = absurd (none-some e h)
popped d e (x ∷ xs) h = last_counts d e (x ∷ xs) (length (x ∷ xs) - 1) (omega arith) h

-- the first goes away
pub rest_counts : (d e : Event) (xs : List Event) → slice_get xs 0 ≡ Some e → times event_same d (drop 1 xs) + one event_same d e ≡ times event_same d xs
rest_counts d e [] h = absurd (none-some e h)
rest_counts d e (x ∷ xs) h =
    let q = ap (one event_same d) (same_some x e h) in
    omega arith

-- an event is taken out, of the ring where it is there, else of the rest
module _ (e : Event) (xs ys vs ws : List Event) where
  pub times_both : times event_same e (in_order event_before (xs ++ ys)) ≡ times event_same e xs + times event_same e ys
  times_both = counted e xs ys (in_order event_before (xs ++ ys)) refl

  pub left_taken : 0 < times event_same e xs → vs ≡ take_out event_same e xs → in_order event_before (vs ++ ys) ≡ take_out event_same e (in_order event_before (xs ++ ys))
  left_taken there less =
      in_order_removed event_before event_same event_law e (xs ++ ys) (vs ++ ys) (λ d.
      let a = times-append d xs ys in
      let b = times-append d vs ys in
      let m = ap (times event_same d) less in
      let n = times-take_out event_before event_same event_law d e xs there in
      omega arith)

  pub right_taken : times event_same e xs ≡ 0 → vs ≡ take_out event_same e xs → ws ≡ take_out event_same e ys → in_order event_before (vs ++ ws) ≡ take_out event_same e (in_order event_before (xs ++ ys))
  right_taken absent same less =
      in_order-taken event_before event_same event_law (xs ++ ys) (vs ++ ws) ys ws (λ d.
      let a = times-append d xs ys in
      let b = times-append d vs ws in
      let m = ap (times event_same d) (same ∙ take_out_none event_before event_same event_law e xs absent) in
      omega arith) e (let a = times-append e xs ys in omega arith) less
