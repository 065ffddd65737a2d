-- The fields of a run on one thread, once the least pending event is handled.
use Rattle.std.proofs.Common.{◌≡◌, ◌≤◌, ◌<◌, ◌+◌, ℕ, ◌==◌, Bool, not, List, [], ◌∷◌, ◌++◌, length, reverse, set, drop, take, refl, ap, sym, ◌∙◌, subst, arith, if◌then◌else◌}
use Rattle.std.proofs.lemmas.List.{reverse-reverse}
use Rattle.tw_event.specs.declared.event.Event.{Event}
use Rattle.tw_event.specs.Order.{event_before}
use Rattle.tw_sim.specs.Ordered.{insert_all}
use Rattle.tw_model.specs.declared.limits.TheConstants.{LATEST}
use Rattle.tw_model.specs.Quiet.{last_change}
use Rattle.tw_model.specs.Case.{simulation}
use Rattle.tw_model.specs.State.{Router}
use Rattle.tw_seq.specs.declared.one_thread.OneThread.TheInside.{Inside}
use Rattle.tw_seq.specs.Run.{IsBegun, IsNextRun, Run, routers_after, world}
use Rattle.tw_seq.specs.Thread.{IsThread, handled_count, run_of, world_after}
use Rattle.tw_handlers.specs.Calls.{after_event, effect_at}
use Rattle.tw_seq.specs.Turn.{receiver}
use Rattle.tw_seq.proofs.Homes.{next_begun, next_run, next_world, sends_of}
use Rattle.tw_seq.proofs.Counted.{count_handled}
use Rattle.tw_seq.proofs.Next.{IsReady, next_change, next_routers, next_sends, next_within}
use Rattle.tw_seq.proofs.Steps.{goes_on}

pub from_empty : {A : Type 0} (xs old ys : List A) → xs ≡ old ++ ys → old ≡ [] → xs ≡ ys
from_empty xs old ys h none = h ∙ ap (λ l. l ++ ys) none

take_front : {A : Type 0} (ws ys : List A) → take (length ws) (ws ++ ys) ≡ ws
take_front [] ys = refl
take_front (w ∷ ws) ys = ap (λ l. w ∷ l) (take_front ws ys)

-- a vector with as many other items has these
pub other_items : {A : Type 0} (n : ℕ) (ws ys : List A) → length ws ≡ n → take n (ws ++ ys) ≡ ws
other_items n ws ys h = subst (λ k. take k (ws ++ ys) ≡ ws) h (take_front ws ys)

-- b has what handling e in a gives
pub record IsRenewed (a b : Inside) (e : Event) (old : List Router) (changed : Bool) : Type 0 where
  pub case : b.case.now ≡ a.case.now
  pub stop : b.stop ≡ a.stop
  pub routers : b.routers.items ≡ set old e.dst (after_event (receiver old e) e)
  pub homes : b.pending.routers ≡ a.pending.routers
  pub pending : b.pending.events ≡ insert_all event_before (effect_at (receiver old e) e).sends (drop 1 a.pending.events)
  pub sent : b.sends.items ≡ []
  pub is_change : changed ≡ not ((receiver old e).state.rib.0 == (after_event (receiver old e) e).state.rib.0)
  pub change : b.last_change ≡ (if changed then e.time else a.last_change)

module _ {a b : Inside} {e : Event} {old : List Router} {changed : Bool} (thread : IsThread a) (ready : IsReady (run_of a) old e) (h : IsRenewed a b e old changed) where
  -- the run once e is handled
  abbrev next : Run
  next = next_run (run_of a) e ready.next.0

  own_world : world_after a.case.now (handled_count a.routers.items) ≡ world (run_of a)
  own_world =
      let w = world_after a.case.now (handled_count a.routers.items) in
      λ i. record { log = sym (reverse-reverse w.log) i; rest = sym thread.waiting i }

  -- the routers have counted one event more
  counted : handled_count b.routers.items ≡ handled_count a.routers.items + 1
  counted = ap handled_count h.routers ∙ (count_handled old e (next_within ready) ∙ ap (λ rs. handled_count rs + 1) (ready.are ∙ sym thread.routers))

  new_world : world_after b.case.now (handled_count b.routers.items) ≡ world next
  new_world =
      let early : e.time < LATEST = omega (arith, thread.stop, ready.next.2) in
      (λ i. world_after (h.case i) (counted i))
      ∙ goes_on (simulation a.case.now) (handled_count a.routers.items) 1 LATEST (world (run_of a)) (world next) own_world (next_world (run_of a) e ready.next.0 LATEST ready.next.1 early)

  new_events : (run_of b).events ≡ (run_of a).events ++ e ∷ []
  new_events = ap (λ w. reverse w.log) new_world ∙ reverse-reverse ((run_of a).events ++ e ∷ [])

  new_pending : b.pending.events ≡ next.pending
  new_pending =
      h.pending ∙ (ap (λ sends. insert_all event_before sends (drop 1 a.pending.events)) (next_sends ready)
      ∙ ap (λ events. insert_all event_before (sends_of (run_of a) e) (drop 1 events)) ready.next.1)

  renewed_run : run_of b ≡ next
  renewed_run = λ i. record { case = h.case i; stop = h.stop i; events = new_events i; pending = new_pending i }

  pub renewed_thread : IsThread b
  renewed_thread = record {
    begun = subst IsBegun (sym renewed_run) (next_begun (run_of a) e ready.next.0 thread.begun ready.next.1 ready.next.2);
    waiting = new_pending ∙ sym (ap (λ w. w.rest) new_world);
    stop = subst (λ t. t ≤ LATEST) (sym h.stop) thread.stop;
    routers = h.routers ∙ (next_routers ready ∙ λ i. routers_after (sym h.case i) (sym new_events i));
    homes = h.homes ∙ (thread.homes ∙ ap (λ case. case.net.nodes) (sym h.case));
    change =
        h.change ∙ (ap (λ t. if changed then e.time else t) thread.change
        ∙ (next_change ready changed h.is_change
        ∙ λ i. last_change (sym h.case i) (reverse (sym new_events i))));
    sent = h.sent;
  }

  pub renewed_next : IsNextRun (run_of a) (run_of b)
  renewed_next =
      (h.case, h.stop, next_world (run_of a) e ready.next.0 (run_of a).stop ready.next.1 ready.next.2 ∙ ap world (sym renewed_run))
