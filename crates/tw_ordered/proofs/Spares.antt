-- The events of the table and the spare list together.
use Rattle.std.proofs.Common.{◌≡◌, ◌<◌, ◌+◌, ◌++◌, ◌↔◌, cond, Bool, true, false, List}
use Rattle.std.proofs.Common.{[], ◌∷◌, filter, length, slice_get, refl, ap, sym, ◌∙◌, inl, inr, arith}
use Rattle.std.specs.List.Sorted.{IsPermutation, IsSorted}
use Rattle.std.proofs.lemmas.Bool.{cases_Bool, false≢true}
use Rattle.tw_sim.proofs.Counts.{none}
use Rattle.tw_event.specs.declared.event.Event.{Event}
use Rattle.tw_event.specs.Order.{event_before, event_same}
use Rattle.tw_sim.specs.Ordered.{insert, insert_all, one, take_out, times}
use Rattle.tw_sim.specs.Rising.{IsRising}
use Rattle.tw_sim.proofs.Ordered.{rising-insert, rising-insert_all, times-insert_all}
use Rattle.tw_ordered.specs.InOrder.{least_with}
use Rattle.tw_ordered.proofs.Ordered.{in_order-times, in_order_removed, cases_zero, insert_all-insert, length-take_out, take_out_none, times-take_out}
use Rattle.tw_ordered.proofs.Events.{event_law, filter-insert_no, filter-insert_yes, filter_no, filter_yes, first-insert_all, sorted_list, in_order_rising}
use Rattle.tw_event.specs.contracts.event.EventOrd.TheImpl as event_ord

-- what was not removed was not there
pub missing : (e : Event) (ys : List Event) (b : Bool) → b ≡ false → (0 < times event_same e ys → b ≡ true) → times event_same e ys ≡ 0
missing e ys b h k = none (times event_same e ys) (λ l. false≢true (sym h ∙ k l))

-- an event more in the spare list
pub insert_all_more : (e : Event) (xs ys : List Event) → insert_all event_before (xs ++ e ∷ []) ys ≡ insert event_before e (insert_all event_before xs ys)
insert_all_more e [] ys = refl
insert_all_more e (x ∷ xs) ys = insert_all_more e xs (insert event_before x ys)

-- an event more in the table
pub insert_all_in : (e : Event) (xs ys zs : List Event) → zs ≡ insert event_before e ys → insert_all event_before xs zs ≡ insert event_before e (insert_all event_before xs ys)
insert_all_in e xs ys zs h =
    ap (insert_all event_before xs) h ∙ insert_all-insert event_before event_same event_law e xs ys

-- an event less in the whole
module _ (e : Event) (xs ys zs ws : List Event) (rising : IsRising event_before event_same ys) (still : IsRising event_before event_same ws) where
  less_in : ((d : Event) → one event_same d e + (times event_same d zs + times event_same d ws) ≡ times event_same d xs + times event_same d ys)
      → insert_all event_before zs ws ≡ take_out event_same e (insert_all event_before xs ys)
  less_in h =
      let old = insert_all event_before xs ys in
      let new = insert_all event_before zs ws in
      let old_rises = rising-insert_all event_before event_same event_law xs ys rising in
      let new_rises = rising-insert_all event_before event_same event_law zs ws still in
      let less : (d : Event) → one event_same d e + times event_same d new ≡ times event_same d old =
      λ d.
      let a = times-insert_all event_before event_same d xs ys in
      let b = times-insert_all event_before event_same d zs ws in
      let c = h d in
      omega arith in
      sym (in_order_rising new new_rises) ∙ in_order_removed event_before event_same event_law e old new less ∙ ap (take_out event_same e) (in_order_rising old old_rises)

  -- out of the table
  pub less_table : 0 < times event_same e ys → zs ≡ xs → ws ≡ take_out event_same e ys → insert_all event_before zs ws ≡ take_out event_same e (insert_all event_before xs ys)
  less_table there same less =
      less_in (λ d.
      let a = times-take_out event_before event_same event_law d e ys there in
      let b = ap (times event_same d) less in
      let c = ap (times event_same d) same in
      omega arith)

  -- out of the spare list
  pub less_spare : 0 < times event_same e xs → zs ≡ take_out event_same e xs → ws ≡ ys → insert_all event_before zs ws ≡ take_out event_same e (insert_all event_before xs ys)
  less_spare there less same =
      less_in (λ d.
      let a = times-take_out event_before event_same event_law d e xs there in
      let b = ap (times event_same d) less in
      let c = ap (times event_same d) same in
      omega arith)

  -- out of the spare list, if it is there
  pub left_spare : times event_same e ys ≡ 0 → zs ≡ take_out event_same e xs → ws ≡ ys → insert_all event_before zs ws ≡ take_out event_same e (insert_all event_before xs ys)
  left_spare absent less same = grind (arith, cases_zero, times-insert_all, take_out_none, event_law, less_spare)

-- how many there are then
pub length_left : (e : Event) (xs zs : List Event) (b : Bool) → (b ≡ true) ↔ (0 < times event_same e xs) → zs ≡ take_out event_same e xs → length zs + cond b 1 0 ≡ length xs
length_left e xs zs b f less = grind (arith, cases_Bool, length-take_out, event_law, missing, take_out_none)

-- an event that is nowhere
pub times_whole : (e : Event) (xs ys : List Event) → times event_same e (insert_all event_before xs ys) ≡ times event_same e xs + times event_same e ys
times_whole e xs ys = times-insert_all event_before event_same e xs ys

-- one router's least event
module _ (p : Event → Bool) where
  filter-insert_all : (xs ys : List Event) → IsRising event_before event_same ys → filter p (insert_all event_before xs ys) ≡ insert_all event_before (filter p xs) (filter p ys)
  filter-insert_all [] ys h = refl
  filter-insert_all (x ∷ xs) ys h =
      let rises = rising-insert event_before event_same event_law x ys h in
      elim (cases_Bool (p x)) [
        | inl b ↦ grind (arith, filter, filter-insert_yes, filter_yes, filter-insert_all xs (insert event_before x ys) rises)
        | inr b ↦
            filter-insert_all xs (insert event_before x ys) rises ∙ ap (insert_all event_before (filter p xs)) (filter-insert_no p x ys b)
            ∙ ap (λ zs. insert_all event_before zs (filter p ys)) (sym (filter_no p x xs b))
      ]

  pub least_passing : (xs ys : List Event) → IsRising event_before event_same ys → least_with (slice_get (filter p ys) 0) (filter p xs) ≡ slice_get (filter p (insert_all event_before xs ys)) 0
  least_passing xs ys h =
      first-insert_all (filter p xs) (filter p ys) ∙ ap (λ r. slice_get r 0) (sym (filter-insert_all xs ys h))

pub least_whole : (xs ys : List Event) → least_with (slice_get ys 0) xs ≡ slice_get (insert_all event_before xs ys) 0
least_whole xs ys = first-insert_all xs ys

-- the list of all, sorted
pub sorted_whole : (xs ys zs all : List Event) → IsRising event_before event_same ys → ((e : Event) → times event_same e all ≡ times event_same e xs + times event_same e ys)
    → IsPermutation all zs → IsSorted event_ord.ghosts.cmp zs → zs ≡ insert_all event_before xs ys
sorted_whole xs ys zs all rising counts p s =
    let whole = insert_all event_before xs ys in
    let same : (e : Event) → times event_same e all ≡ times event_same e whole = λ e. counts e ∙ sym (times_whole e xs ys) in
    sorted_list all zs p s ∙ in_order-times event_before event_same event_law all whole same ∙ in_order_rising whole (rising-insert_all event_before event_same event_law xs ys rising)
