-- A case's simulation keeps what every protocol keeps, and its routers number what they send.
use Rattle.std.proofs.Common.{◌≡◌, ◌<◌, ◌==◌, true, List, nat_le, nat_lt, subst, sym}
use Rattle.std.proofs.lemmas.Bool.{and_parts, ltb-false, or_parts}
use Rattle.tw_event.specs.declared.event.Event.{Event}
use Rattle.tw_event.proofs.Order.{before_not_self, before_time, before_total, before_trans, same_is, same_self}
use Rattle.tw_model.specs.declared.limits.TheConstants.{MOST_COUNTED}
use Rattle.tw_model.specs.State.{State}
use Rattle.tw_model.specs.Effect.{body_suits, effect, suits}
use Rattle.tw_sim.specs.Simulation.{IsLawful, IsNumbered, state, times}
use Rattle.tw_model.specs.Case.{Case, IsCase, opening_events, simulation}
use Rattle.tw_sim.proofs.Counts.{none}
use Rattle.tw_sim.proofs.Members.{In, in_times, times_in}
use Rattle.tw_model.proofs.Sends.{IsSent, Tells, tells_effect}
use Rattle.tw_model.proofs.Suits.{neighbour_suits, own_state, to_effect}
use Rattle.tw_model.proofs.Openings.{opening_no_update, opening_own, opening_suits, openings_once}
use Rattle.tw_model.proofs.Within.{suits_within}

module _ (case : Case) (is : IsCase case) where
  tells : (s : State) (e : Event) → Tells case e.dst e.time s.counters.sent (effect case.net e.dst s e)
  tells s e = tells_effect case is.net e.dst s e

  counted_in : (x : Event) (xs : List Event) → 0 < times (simulation case) x xs → In x xs
  counted_in = in_times (simulation case) same_is

  one_sent : (s : State) (e x : Event) → 0 < times (simulation case) x ((simulation case).sends s e)
      → IsSent e.dst e.time s.counters.sent (effect case.net e.dst s e).state.counters.sent x
  one_sent s e x h = (tells s e).sent x (counted_in x _ h)

  suit_sent : (e x : Event) (older : List Event)
      → ((y : Event) → 0 < times (simulation case) y older → (y.dst ≡ e.dst) × (suits case.net y.dst y ≡ true))
      → suits case.net e.dst e ≡ true
      → 0 < times (simulation case) x ((simulation case).sends (state (simulation case) e.dst older) e)
      → suits case.net x.dst x ≡ true
  suit_sent e x older all suit h =
      let s = state (simulation case) e.dst older in
      let own = own_state case e.dst older (λ y k. (all y (times_in (simulation case) same_self y older k)).0) in
      let fit = (and_parts (e.dst == e.dst) (body_suits case.net e.dst e e.body) suit).1 in
      neighbour_suits case.net is.net e.dst x (to_effect case.net e.dst s e fit own x (counted_in x ((simulation case).sends s e) h))

  pub lawful : IsLawful (simulation case)
  lawful = record {
    same_is = same_is;
    same_self = same_self;
    not_self = before_not_self;
    trans = before_trans;
    total = before_total;
    timely = before_time;
    later = λ s e x h. (one_sent s e x h).later;
    sender = λ s e x h. (one_sent s e x h).src;
    few = λ s e. (tells s e).few;
    suit_opening = λ e h. opening_suits case is e (counted_in e (opening_events case.scenes) h);
    suit_sends = suit_sent;
    receiver = λ e h. suits_within case.net e.dst e is.net h;
    opener = λ e h. (
        let there = counted_in e (opening_events case.scenes) h in
        subst (λ r. r < case.net.nodes) (sym (opening_own case is e there)) (suits_within case.net e.dst e is.net (opening_suits case is e there)));
  }

  pub numbered : IsNumbered (simulation case)
  numbered = record {
    numbered = λ s e x h. ((one_sent s e x h).least, (one_sent s e x h).most);
    rising = λ s e. (tells s e).rising;
    within = λ s e h. ltb-false MOST_COUNTED (effect case.net e.dst s e).state.counters.sent
        (or_parts (nat_le MOST_COUNTED s.counters.handled) (nat_lt MOST_COUNTED (effect case.net e.dst s e).state.counters.sent) h).1;
    once = λ s e x. (tells s e).once x;
    opening_once = openings_once case is;
    strange = λ s e x h. none (times (simulation case) x (opening_events case.scenes)) (λ k.
        let b = (one_sent s e x h).body in
        opening_no_update case is x (counted_in x (opening_events case.scenes) k) b.0 b.1 b.2);
  }
