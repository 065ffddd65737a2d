use Rattle.std.proofs.Common.{inl, arith}
use Rattle.tw_pending.specs.Ring.{lists_of}
use Rattle.tw_pending.proofs.Days.{all-map}
use Rattle.tw_pending.proofs.Rings.{idle_ring}
use Rattle.tw_pending.proofs.ring.catch_up.Goals as goal

pub returns-in-Some-clause-ring : goal.returns-in-Some-clause-ring
returns-in-Some-clause-ring g c =
    let ring = c.args.ring.now in
    idle_ring g.E.Timed.parts.time ring.today ring.waiting (lists_of ring.days.items) c.requires.ring c.max-ring.result (omega (arith, c.if-ring-gt0.false))

pub returns-in-Some-clause-begun : goal.returns-in-Some-clause-begun
returns-in-Some-clause-begun g c = all-map _ _ (λ e soon. omega (arith, soon, c.max-ring.ensures)) c.args.tick.now c.requires.begun

pub returns-in-Some-clause-due : goal.returns-in-Some-clause-due
returns-in-Some-clause-due g c = inl (omega (arith, c.if-ring-gt0.false))
