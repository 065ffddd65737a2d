use Rattle.std.proofs.Common.{◌≡◌, ◌≤◌, [], length, get_or, ap, ◌∙◌, arith}
use Rattle.std.proofs.lemmas.List.{drop_all, get_or_read}
use Rattle.tw_event.specs.Order.{event_same}
use Rattle.tw_sim.specs.Ordered.{times}
use Rattle.tw_calendar.specs.Ring.{hand_of}
use Rattle.tw_ordered.specs.Times.{first_time}
use Rattle.tw_calendar.proofs.Rings.{inside, low}
use Rattle.tw_calendar.proofs.Turns.{turn_base}
use Rattle.tw_calendar.proofs.ring.Ring.go_to.Goals as goal

pub invariant_of-self : goal.invariant_of-self
invariant_of-self c =
    let a = c.self.inside in
    let v = c.self.invariant in
    let p = c.first_after.result in
    let f = c.first_after.ensures in
    let b = c.index in
    let beyond : length a.hand ≤ a.taken = omega (arith, c.len.ensures, c.if-self-len.false) in
    let none : hand_of a ≡ [] = drop_all a.taken a.hand beyond in
    let first : c.first_time.result ≡ first_time (get_or a.buckets.items p []) =
    c.first_time.ensures ∙ ap first_time (get_or_read a.buckets.items p b.result.now (inside a.tick a.marks a.buckets.items v.turn p f) b.ensures []) in
    record {
      taken = v.taken;
      rising = v.rising;
      begun = λ e there. let z = ap (times event_same e) none in absurd (omega arith);
      turn =
          turn_base (λ e. e.time) a.tick a.marks a.buckets.items v.turn c.args.time (omega (arith, c.if-time-self.false)) (λ e there.
          let l = low a.tick a.marks a.buckets.items v.turn p f e there in
          omega (arith, first, c.if-time-first_time.true));
    }
