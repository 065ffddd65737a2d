use Rattle.std.proofs.Common.{◌≡◌, ◌<◌, length, slice_get, ap, ◌∙◌, arith}
use Rattle.tw_ordered.specs.Buckets.{together}
use Rattle.tw_calendar.specs.Ring.{hand_of}
use Rattle.tw_ordered.specs.Times.{first_time}
use Rattle.tw_ordered.proofs.Told.{on_true}
use Rattle.tw_calendar.proofs.Rings.{first_taken, slice_left, some_left, time_left, time_taken}
use Rattle.tw_calendar.proofs.ring.Ring.copy_hand.Goals as goal

pub returns-clause-some : goal.returns-clause-some
returns-clause-some c =
    let a = c.self.inside in
    let v = c.self.invariant in
    let l : a.taken < length a.hand = omega (arith, c.len.ensures, c.if-self-len.false) in
    on_true c.copy.result (λ first.
    first ∙ slice_left a.taken a.hand ∙ first_taken a.tick (together a.buckets.items) v.turn.after (hand_of a) (some_left a.taken a.hand l) v.rising v.begun ∙ ap (λ r. slice_get r 0) c.self.view_is) c.copy.ensures.some

pub returns-clause-before : goal.returns-clause-before
returns-clause-before c =
    let a = c.self.inside in
    let v = c.self.invariant in
    let l : a.taken < length a.hand = omega (arith, c.len.ensures, c.if-self-len.false) in
    let time : c.time.result ≡ first_time c.args.self.now =
    time_left c.time.result a.hand a.taken l (c.time.ensures a.taken)
    ∙ time_taken a.tick (together a.buckets.items) v.turn.after (hand_of a) (some_left a.taken a.hand l) v.rising v.begun ∙ ap first_time c.self.view_is in
    on_true c.copy.result (λ first. omega (arith, time, c.if-time-limit.false)) c.copy.ensures.some
