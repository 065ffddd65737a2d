use Rattle.std.proofs.Common.{◌≡◌, ◌<◌, ◌++◌, drop, length, ap, sym, ◌∙◌, subst, arith}
use Rattle.tw_event.specs.Order.{event_before, event_same}
use Rattle.tw_sim.specs.Ordered.{times}
use Rattle.tw_sim.specs.Rising.{IsRising}
use Rattle.tw_ordered.specs.Buckets.{together}
use Rattle.tw_ordered.specs.InOrder.{in_order}
use Rattle.tw_calendar.specs.Ring.{hand_of}
use Rattle.tw_ordered.specs.Times.{first_time}
use Rattle.tw_calendar.proofs.Rings.{drop_more, rest_taken, rising_rest, some_left, time_left, time_taken, times_rest}
use Rattle.tw_calendar.proofs.ring.Ring.skip_hand.Goals as goal

pub invariant_of-self : goal.invariant_of-self
invariant_of-self c =
    let a = c.self.inside in
    let v = c.self.invariant in
    let l : a.taken < length a.hand = omega (arith, c.len.ensures, c.if-self-len.false) in
    let next = drop_more a.taken a.hand in
    record {
      taken = omega arith;
      rising = subst (λ xs. IsRising event_before event_same xs) (sym next) (rising_rest (hand_of a) v.rising);
      begun = λ e there. v.begun e (times_rest e (hand_of a) (subst (λ xs. 0 < times event_same e xs) next there));
      turn = v.turn;
    }

pub returns-clause-taken : goal.returns-clause-taken
returns-clause-taken c =
    let a = c.self.inside in
    let v = c.self.invariant in
    let l : a.taken < length a.hand = omega (arith, c.len.ensures, c.if-self-len.false) in
    ap (λ hand. in_order event_before (hand ++ together a.buckets.items)) (drop_more a.taken a.hand)
    ∙ rest_taken a.tick (together a.buckets.items) v.turn.after (hand_of a) (some_left a.taken a.hand l) v.rising v.begun ∙ ap (drop 1) c.self.view_is

pub returns-clause-before : goal.returns-clause-before
returns-clause-before c =
    let a = c.self.inside in
    let v = c.self.invariant in
    let l : a.taken < length a.hand = omega (arith, c.len.ensures, c.if-self-len.false) in
    let time : c.time.result ≡ first_time c.args.self.now =
    time_left c.time.result a.hand a.taken l (c.time.ensures a.taken)
    ∙ time_taken a.tick (together a.buckets.items) v.turn.after (hand_of a) (some_left a.taken a.hand l) v.rising v.begun ∙ ap first_time c.self.view_is in
    omega (arith, time, c.if-time-limit.false)
