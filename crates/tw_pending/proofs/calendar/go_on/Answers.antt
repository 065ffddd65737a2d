use Rattle.std.proofs.Common.{[], ◌++◌, subst, sym}
use Rattle.tw_pending.specs.Order.{AreWith}
use Rattle.tw_pending.specs.Ring.{all_of, lists_of}
use Rattle.tw_pending.proofs.calendar.go_on.Goals as goal

pub returns-clause-all : goal.returns-clause-all
returns-clause-all g c =
    subst (λ days. AreWith g.E.Ord.cmp [] (c.args.tick.now ++ all_of (lists_of c.args.ring.now.days.items)) (c.settle.new.tick ++ all_of days)) (sym c.catch_up.ensures.days)
    c.settle.ensures.all
