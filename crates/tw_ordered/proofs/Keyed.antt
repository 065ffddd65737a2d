-- Events in several lists, each in order and in the list that its key names.
use Rattle.std.proofs.Common.{◌≡◌, ◌==◌, ◌<◌, ◌≤◌, ◌+◌, ℕ, List, [], filter, length, get_or, set, ap, sym, ◌∙◌}
use Rattle.std.proofs.lemmas.Bool.{cases_Bool, eqb-false, eqb-true, cases_eq, cases_lt}
use Rattle.std.proofs.lemmas.List.{get_or_past, get_or_read, get_or-replicate, length-replicate}
use Rattle.tw_event.specs.declared.event.Event.{Event}
use Rattle.tw_event.specs.Order.{event_before, event_same}
use Rattle.tw_sim.specs.Ordered.{insert, one, take_out, times}
use Rattle.tw_sim.specs.Rising.{IsRising}
use Rattle.tw_sim.proofs.Counts.{none}
use Rattle.tw_sim.proofs.Ordered.{rising-insert, times-insert}
use Rattle.tw_ordered.specs.Buckets.{IsPlaced, together}
use Rattle.tw_ordered.specs.InOrder.{in_order}
use Rattle.tw_ordered.proofs.Events.{event_law, filter-in_order, in_order_rising, times-filter_no, times-filter_yes}
use Rattle.tw_ordered.proofs.Lists.{lists_inserted, lists_taken, placed_inserted, placed_taken, times-lists, times-placed, in_order_none, none_placed}
use Rattle.tw_ordered.proofs.Ordered.{in_order-times}
use Rattle.tw_ordered.proofs.Rows.{rising-take_out}
use Rattle.std.proofs.Common.{replicate, subst, arith, get_or-set_same, get_or-set_other}

-- one list changes
module _ (lists : List (List Event)) (i : ℕ) (within : i < length lists) (qs : List Event) where
  pub rising_set : ((r : ℕ) → IsRising event_before event_same (get_or lists r [])) → IsRising event_before event_same qs → (r : ℕ) → IsRising event_before event_same (get_or (set lists i qs) r [])
  rising_set old new r = grind (arith, cases_eq, set, get_or-set_same, get_or-set_other)

module _ (key : Event → ℕ) (lists : List (List Event)) (placed : IsPlaced key lists) where
  -- the events with one key are those of its list
  module _ (r : ℕ) where
    times-for : (e : Event) → times event_same e (filter (λ d. key d == r) (together lists)) ≡ times event_same e (get_or lists r [])
    times-for e = grind (arith, cases_Bool, times-filter_yes, times-placed, eqb-true, times-filter_no, none, eqb-false)

    pub filter_key : IsRising event_before event_same (get_or lists r []) → filter (λ e. key e == r) (in_order event_before (together lists)) ≡ get_or lists r []
    filter_key rising = grind (arith, filter-in_order, in_order-times, event_law, filter, times-for, in_order_rising)

  -- an event for no list is not there
  pub not_in_lists : (e : Event) → length lists ≤ key e → times event_same e (in_order event_before (together lists)) ≡ 0
  not_in_lists e l = times-lists key lists placed e ∙ ap (times event_same e) (get_or_past lists (key e) [] l)

  -- what happens to an event happens in the list of its key
  module _ (e : Event) (within : key e < length lists) (list : List Event) (list_is : list ≡ get_or lists (key e) list) (qs : List Event) where
    read : list ≡ get_or lists (key e) []
    read = get_or_read lists (key e) list within list_is []

    module _ (more : qs ≡ insert event_before e list) where
      counted : (d : Event) → times event_same d qs ≡ one event_same d e + times event_same d (get_or lists (key e) [])
      counted d =
          ap (times event_same d) more ∙ times-insert event_before event_same d e list ∙ ap (λ xs. one event_same d e + times event_same d xs) read

      pub more_placed : IsPlaced key (set lists (key e) qs)
      more_placed = placed_inserted key lists placed e within qs counted

      pub more_inserted : in_order event_before (together (set lists (key e) qs)) ≡ insert event_before e (in_order event_before (together lists))
      more_inserted = lists_inserted key lists placed e within qs counted

      pub more_rising : ((r : ℕ) → IsRising event_before event_same (get_or lists r [])) → (r : ℕ) → IsRising event_before event_same (get_or (set lists (key e) qs) r [])
      more_rising rising = grind (arith, read, rising_set, rising-insert, event_law)

    module _ (less : qs ≡ take_out event_same e list) where
      taken : qs ≡ take_out event_same e (get_or lists (key e) [])
      taken = less ∙ ap (take_out event_same e) read

      pub less_placed : IsPlaced key (set lists (key e) qs)
      less_placed = placed_taken key lists placed e within qs taken

      pub less_taken : in_order event_before (together (set lists (key e) qs)) ≡ take_out event_same e (in_order event_before (together lists))
      less_taken = lists_taken key lists placed e within qs taken

      pub less_rising : ((r : ℕ) → IsRising event_before event_same (get_or lists r [])) → (r : ℕ) → IsRising event_before event_same (get_or (set lists (key e) qs) r [])
      less_rising rising = grind (arith, read, rising_set, rising-take_out)

    pub times_in : times event_same e list ≡ times event_same e (in_order event_before (together lists))
    times_in = ap (times event_same e) read ∙ sym (times-lists key lists placed e)

-- lists that are all empty
module _ (n : ℕ) (lists : List (List Event)) (are : lists ≡ replicate n []) where
  pub empty_queue : (r : ℕ) → get_or lists r [] ≡ []
  empty_queue r = grind (arith, cases_lt, get_or-replicate, length-replicate, get_or_past)

  pub empty_placed : (key : Event → ℕ) → IsPlaced key lists
  empty_placed = none_placed lists (λ i l. empty_queue i)

  pub empty_rising : (r : ℕ) → IsRising event_before event_same (get_or lists r [])
  empty_rising r = subst (λ xs. IsRising event_before event_same xs) (sym (empty_queue r)) tt

  pub empty_events : in_order event_before (together lists) ≡ []
  empty_events = in_order_none lists (λ i l. empty_queue i)
