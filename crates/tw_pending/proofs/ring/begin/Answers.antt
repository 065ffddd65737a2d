use Rattle.std.proofs.Common.{length, set, ap, sym, ◌∙◌, arith}
use Rattle.tw_pending.specs.Order.{in_order}
use Rattle.tw_pending.specs.Ring.{lists_of}
use Rattle.tw_pending.proofs.Days.{day_is, lists_set, nil}
use Rattle.tw_pending.proofs.ring.begin.Goals as goal

pub returns-then-count-eq0-clause-days : goal.returns-then-count-eq0-clause-days
returns-then-count-eq0-clause-days g c =
    let day = c.index_mut-day.result.now in
    lists_set c.args.days.now.items c.args.place day
    ∙ ap (set (lists_of c.args.days.now.items) c.args.place) (nil day.items (omega (arith, c.len-count.ensures, day.ok.0, c.if-count-eq0.true)))

pub returns-then-count-eq0-clause-tick : goal.returns-then-count-eq0-clause-tick
returns-then-count-eq0-clause-tick g c = λ day there.
    let own = c.index_mut-day.result.now in
    let none = nil own.items (omega (arith, c.len-count.ensures, own.ok.0, c.if-count-eq0.true)) in
    c.requires.over
    ∙ ap (in_order g.E.Ord.cmp) (sym none ∙ day_is c.args.days.now.items c.args.place own day c.requires.within c.index_mut-day.ensures.value there)

pub returns-clause-count : goal.returns-clause-count
returns-clause-count g c = λ day there.
    let own = c.index_mut-day.result.now in
    let long = ap length (day_is c.args.days.now.items c.args.place own day c.requires.within c.index_mut-day.ensures.value there) in
    omega (arith, c.len-count.ensures, own.ok.0)

pub returns-clause-days : goal.returns-clause-days
returns-clause-days g c =
    lists_set c.args.days.now.items c.args.place c.take_over.new.events ∙ ap (set (lists_of c.args.days.now.items) c.args.place) c.take_over.ensures.empty

pub returns-clause-tick : goal.returns-clause-tick
returns-clause-tick g c = λ day there.
    let is = day_is c.args.days.now.items c.args.place c.index_mut-day.result.now day c.requires.within c.index_mut-day.ensures.value there in
    c.take_over.ensures.events ∙ ap (in_order g.E.Ord.cmp) is
