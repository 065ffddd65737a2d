use Rattle.std.proofs.Common.{◌<◌, ◌≤◌, [], length, ap, ◌∙◌, arith}
use Rattle.std.proofs.lemmas.List.{get_or_read}
use Rattle.tw_ordered.specs.Buckets.{together}
use Rattle.tw_calendar.specs.Ring.{hand_of}
use Rattle.tw_ordered.specs.Times.{first_time}
use Rattle.tw_calendar.proofs.Rings.{inside, later_ticks, some_left, time_left, time_of_place, time_taken}
use Rattle.tw_calendar.proofs.ring.Ring.least_time.Goals as goal

pub returns-then-self-len : goal.returns-then-self-len
returns-then-self-len c =
    let a = c.self.inside in
    let v = c.self.invariant in
    let l : a.taken < length a.hand = omega (arith, c.len.ensures, c.if-self-len.true) in
    time_left c.time.result a.hand a.taken l (c.time.ensures a.taken)
    ∙ time_taken a.tick (together a.buckets.items) v.turn.after (hand_of a) (some_left a.taken a.hand l) v.rising v.begun ∙ ap first_time c.self.view_is

pub returns : goal.returns
returns c =
    let a = c.self.inside in
    let v = c.self.invariant in
    let p = c.first_after.result in
    let f = c.first_after.ensures in
    let b = c.index in
    let beyond : length a.hand ≤ a.taken = omega (arith, c.len.ensures, c.if-self-len.false) in
    c.first_time.ensures ∙ ap first_time (get_or_read a.buckets.items p b.result.now (inside a.tick a.marks a.buckets.items v.turn p f) b.ensures [])
    ∙ time_of_place a.tick a.marks a.buckets.items v.turn p f ∙ ap first_time (later_ticks a.hand a.taken a.buckets.items c.args.self.now beyond c.self.view_is)
