use Rattle.std.proofs.Common.{◌-◌, ◌<◌, arith, map}
use Rattle.tw_instance.specs.Tables.{row}
use Rattle.tw_model.specs.Net.{IsPath}
use Rattle.tw_elimination.specs.Wheel.{pivot_of, ring_to}
use Rattle.tw_elimination.proofs.Ring.{all_more, ring_end, ring_more}
use Rattle.tw_elimination.proofs.wheel.ring.Goals as goal

pub returns-then-pivot-last-clause-value : goal.returns-then-pivot-last-clause-value
returns-then-pivot-last-clause-value c =
    let net = c.args.instance.now in
    let left = row c.args.left.now in
    ring_end net left c.args.last (net.nodes - c.loop.counter) (pivot_of c.loop.pivot) (map pivot_of c.loop.pivots.items) (ring_to net left c.args.last) c.if-pivot-last.true c.loop.invariant.pivots

pub loop-preserved : goal.loop-preserved
loop-preserved c =
    let net = c.args.instance.now in
    let left = row c.args.left.now in
    let few = c.nodes-end.ensures.value in
    let low : c.loop.counter < net.nodes = omega (arith, c.loop-test.true, few) in
    record {
      pivots = ring_more net left c.args.last net.nodes c.loop.counter (pivot_of c.loop.pivot) c.loop.pivots.items c.push.new.self.items c.next_pivot-pivot-in-loop.result
          (ring_to net left c.args.last) low c.if-pivot-last.false c.in_ok-push.ensures.items c.next_pivot-pivot-in-loop.ensures.value c.loop.invariant.pivots;
      paths = all_more (λ p. IsPath net p.spoke × IsPath net p.rim) c.loop.pivots.items c.push.new.self.items c.next_pivot-pivot-in-loop.result
          c.in_ok-push.ensures.items c.loop.invariant.paths c.next_pivot-pivot-in-loop.ensures.paths;
    }
