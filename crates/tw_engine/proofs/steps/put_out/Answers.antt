use Rattle.std.proofs.Common.{◌++◌, map, arith}
use Rattle.tw_pending.proofs.Walks.{all_pushed, pushed}
use Rattle.tw_sim.specs.declared.machine.Signed.{Signed}
use Rattle.tw_engine.proofs.steps.put_out.Goals as goal

pub loop-event-preserved : goal.loop-event-preserved
loop-event-preserved g c =
    let events = c.args.events.now in
    let signed : g.row.E.Denot → Signed g.row.E.Denot = λ e. record { event = e; plus = c.args.plus } in
    record {
      behind = pushed signed events c.loop-event.event-index c.event-item.result c.loop-event-test.true c.event-item.is (c.args.flight.now.items ++ map signed events) c.loop-event.flight.items
          c.push_reserved.new.self.items c.push_reserved.ensures.items c.loop-event.invariant.behind;
      room = omega arith;
    }

pub returns : goal.returns
returns g c =
    let events = c.args.events.now in
    let signed : g.row.E.Denot → Signed g.row.E.Denot = λ e. record { event = e; plus = c.args.plus } in
    all_pushed signed events c.loop-event.event-index c.loop-event-test.false (c.args.flight.now.items ++ map signed events) c.loop-event.flight.items c.loop-event.invariant.behind
