use Rattle.std.proofs.Common.{rules, ◌≡◌, ℕ, ◌+◌, ◌-◌, ◌<◌, ◌%◌, ◌++◌, [], length, set, refl, sym, subst, arith}
use Rattle.tw_pending.specs.Order.{AreWith}
use Rattle.tw_pending.specs.Ring.{AreBefore, IsBegun, IsRing, all_of, lists_of}
use Rattle.tw_pending.specs.declared.ring.TheConstants.{DAYS}
use Rattle.tw_pending.proofs.All.{begun_one}
use Rattle.tw_pending.proofs.Counts.{all-in_order}
use Rattle.tw_pending.proofs.Days.{before_set, within}
use Rattle.tw_pending.proofs.Rings.{day_few, full_days, next_begun, next_ring, next_tick}
use Rattle.tw_pending.proofs.ring.next_day.Goals as goal

-- a place is below the number of days
below : (today n : ℕ) → n ≡ DAYS → (today + 1) % DAYS < n
below today n is = omega arith

pub overflow_add-ring : goal.overflow_add-ring
overflow_add-ring g c =
    let ring = c.args.ring.now in
    let next = next_tick g.E.Timed.parts.time ring.today ring.waiting (lists_of ring.days.items) c.requires.ring c.requires.some in
    search rules

pub overflow_sub-ring : goal.overflow_sub-ring
overflow_sub-ring g c =
    let time = g.E.Timed.parts.time in
    let ring = c.args.ring.now in
    let days = lists_of ring.days.items in
    let place = (ring.today + 1) % DAYS in
    let full = full_days time ring.today ring.waiting days c.requires.ring c.requires.some in
    let p = within days place (below ring.today (length days) full) in
    let few = day_few time ring.today ring.waiting days c.requires.ring place p.0 p.1 in
    omega (arith, c.begin.ensures.count p.0 p.1)

pub returns-clause-ring : goal.returns-clause-ring
returns-clause-ring g c =
    let time = g.E.Timed.parts.time in
    let ring = c.args.ring.now in
    let days = lists_of ring.days.items in
    let place = (ring.today + 1) % DAYS in
    let full = full_days time ring.today ring.waiting days c.requires.ring c.requires.some in
    let p = within days place (below ring.today (length days) full) in
    subst (IsRing time (ring.today + 1) (ring.waiting - c.begin.result)) (sym c.begin.ensures.days)
    (subst (λ n. IsRing time (ring.today + 1) (ring.waiting - n) (set days place [])) (sym (c.begin.ensures.count p.0 p.1))
    (next_ring time ring.today ring.waiting days c.requires.ring place p.0 refl p.1))

pub returns-clause-begun : goal.returns-clause-begun
returns-clause-begun g c =
    let time = g.E.Timed.parts.time in
    let ring = c.args.ring.now in
    let days = lists_of ring.days.items in
    let place = (ring.today + 1) % DAYS in
    let full = full_days time ring.today ring.waiting days c.requires.ring c.requires.some in
    let p = within days place (below ring.today (length days) full) in
    let begun = next_begun time ring.today ring.waiting days c.requires.ring place p.0 refl p.1 in
    subst (IsBegun time (ring.today + 1)) (sym (c.begin.ensures.tick p.0 p.1)) (all-in_order g.E.Ord.cmp _ p.0 begun)

pub returns-clause-all : goal.returns-clause-all
returns-clause-all g c =
    let time = g.E.Timed.parts.time in
    let ring = c.args.ring.now in
    let days = lists_of ring.days.items in
    let place = (ring.today + 1) % DAYS in
    let full = full_days time ring.today ring.waiting days c.requires.ring c.requires.some in
    let p = within days place (below ring.today (length days) full) in
    subst (λ left. AreWith g.E.Ord.cmp [] (all_of days) (c.begin.new.tick ++ all_of left)) (sym c.begin.ensures.days)
    (subst (λ tick. AreWith g.E.Ord.cmp [] (all_of days) (tick ++ all_of (set days place []))) (sym (c.begin.ensures.tick p.0 p.1)) (begun_one g.E.Ord.cmp days place p.0 p.1))

pub returns-clause-near : goal.returns-clause-near
returns-clause-near g c = λ horizon before.
    let days = lists_of c.args.ring.now.days.items in
    subst (AreBefore g.E.Timed.parts.time horizon) (sym c.begin.ensures.days) (before_set g.E.Timed.parts.time horizon days ((c.args.ring.now.today + 1) % DAYS) before)
