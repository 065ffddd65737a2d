use Rattle.std.proofs.Common.{◌%◌, ◌-◌, [], ◌∷◌, ap, sym, ◌∙◌, subst, arith}
use Rattle.std.proofs.lemmas.List.{length-map}
use Rattle.tw_pending.specs.Order.{AreWith}
use Rattle.tw_pending.specs.Ring.{IsRing, all_of, lists_of}
use Rattle.tw_pending.specs.declared.ring.TheConstants.{DAYS}
use Rattle.tw_pending.proofs.Days.{within}
use Rattle.tw_pending.proofs.Lists.{only_there, removed_one, removed_ring, some_wait}
use Rattle.tw_pending.proofs.ring.let_go.Goals as goal

pub returns-then-not-remove_at-clause-none : goal.returns-then-not-remove_at-clause-none
returns-then-not-remove_at-clause-none g c =
    let ring = c.args.ring.now in
    let days = lists_of ring.days.items in
    let place = c.time.result % DAYS in
    let long = length-map ring.days.items (λ d. d.items) in
    let p = within days place (omega (arith, c.if-place-len.false, c.len.ensures, ring.days.ok.0)) in
    only_there g.E.Ord.cmp g.met.E.Ord.total g.met.E.Timed.exact g.E.Timed.parts.time ring.today c.args.event.now 0 days place p.0 (ap (λ t. t % DAYS) (sym c.time.ensures) ∙ omega arith) c.requires.are p.1
    ∙ c.if-not-remove_at.ensures.none p.0 p.1

pub overflow_sub-ring : goal.overflow_sub-ring
overflow_sub-ring g c =
    let ring = c.args.ring.now in
    let days = lists_of ring.days.items in
    let place = c.time.result % DAYS in
    let long = length-map ring.days.items (λ d. d.items) in
    let p = within days place (omega (arith, c.if-place-len.false, c.len.ensures, ring.days.ok.0)) in
    let gone = c.if-not-remove_at.ensures.yes p.0 p.1 in
    let some = some_wait g.E.Timed.parts.time ring.today ring.waiting days c.requires place gone.0 p.0 p.1 gone.1 in
    omega (arith, some)

pub returns-clause-ring : goal.returns-clause-ring
returns-clause-ring g c =
    let ring = c.args.ring.now in
    let days = lists_of ring.days.items in
    let place = c.time.result % DAYS in
    let long = length-map ring.days.items (λ d. d.items) in
    let p = within days place (omega (arith, c.if-place-len.false, c.len.ensures, ring.days.ok.0)) in
    let gone = c.if-not-remove_at.ensures.yes p.0 p.1 in
    subst (IsRing g.E.Timed.parts.time ring.today (ring.waiting - 1)) (sym gone.3)
    (removed_ring g.E.Timed.parts.time ring.today ring.waiting days c.requires place gone.0 p.0 p.1 gone.1)

pub returns-clause-yes : goal.returns-clause-yes
returns-clause-yes g c =
    let ring = c.args.ring.now in
    let days = lists_of ring.days.items in
    let place = c.time.result % DAYS in
    let long = length-map ring.days.items (λ d. d.items) in
    let p = within days place (omega (arith, c.if-place-len.false, c.len.ensures, ring.days.ok.0)) in
    let gone = c.if-not-remove_at.ensures.yes p.0 p.1 in
    subst (λ left. AreWith g.E.Ord.cmp (c.args.event.now ∷ []) (all_of left) (all_of days)) (sym gone.3)
    (removed_one g.E.Ord.cmp days place gone.0 p.0 c.args.event.now p.1 gone.2)
