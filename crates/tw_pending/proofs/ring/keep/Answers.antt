use Rattle.std.proofs.Common.{◌+◌, ◌%◌, [], ◌∷◌, ap, sym, subst, arith}
use Rattle.std.proofs.lemmas.List.{length-map}
use Rattle.tw_pending.specs.Order.{AreWith}
use Rattle.tw_pending.specs.Ring.{IsRing, all_of, lists_of}
use Rattle.tw_pending.specs.declared.ring.TheConstants.{DAYS}
use Rattle.tw_pending.proofs.All.{kept_one}
use Rattle.tw_pending.proofs.Days.{within}
use Rattle.tw_pending.proofs.Rings.{kept_ring}
use Rattle.tw_pending.proofs.ring.keep.Goals as goal

pub returns-clause-ring : goal.returns-clause-ring
returns-clause-ring g c =
    let time = g.E.Timed.parts.time in
    let ring = c.args.ring.now in
    let days = lists_of ring.days.items in
    let place = c.time-time.result % DAYS in
    let long = length-map ring.days.items (λ d. d.items) in
    let p = within days place (omega (arith, c.if-place-len.false, c.len.ensures, ring.days.ok.0)) in
    let is = c.if-not-add.ensures.yes p.0 p.1 in
    subst (λ n. IsRing time ring.today n (lists_of c.add.new.days.items)) (sym c.in-Some.ensures.1)
    (subst (IsRing time ring.today (ring.waiting + 1)) (sym is)
    (kept_ring time ring.today ring.waiting days c.requires c.args.event place p.0 (ap (λ t. t % DAYS) (sym c.time-time.ensures))
    (omega (arith, c.time-time.ensures, c.if-time-ring.false)) (omega (arith, c.time-time.ensures, c.if-time-ring.false, c.if-time-ring-ge-DAYS.false))
    (omega (arith, c.time-time.ensures, c.time-time.type_inv)) p.1))

pub returns-clause-yes : goal.returns-clause-yes
returns-clause-yes g c =
    let ring = c.args.ring.now in
    let days = lists_of ring.days.items in
    let place = c.time-time.result % DAYS in
    let long = length-map ring.days.items (λ d. d.items) in
    let p = within days place (omega (arith, c.if-place-len.false, c.len.ensures, ring.days.ok.0)) in
    let is = c.if-not-add.ensures.yes p.0 p.1 in
    subst (λ kept. AreWith g.E.Ord.cmp (c.args.event ∷ []) (all_of days) (all_of kept)) (sym is) (kept_one g.E.Ord.cmp days place p.0 c.args.event p.1)
