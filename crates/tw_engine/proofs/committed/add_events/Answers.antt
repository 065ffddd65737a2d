use Rattle.std.proofs.Common.{◌++◌, map, arith}
use Rattle.tw_pending.proofs.Walks.{all_pushed, pushed}
use Rattle.tw_engine.proofs.committed.add_events.Goals as goal

pub loop-step-preserved : goal.loop-step-preserved
loop-step-preserved g c =
    let steps = c.args.steps.now in
    record {
      behind = pushed (λ d. d.event) steps c.loop-step.step-index c.step-item.result c.loop-step-test.true c.step-item.is (c.args.events.now.items ++ map (λ d. d.event) steps) c.loop-step.events.items
          c.push_reserved.new.self.items c.push_reserved.ensures.items c.loop-step.invariant.behind;
      room = omega arith;
    }

pub returns : goal.returns
returns g c =
    let steps = c.args.steps.now in
    all_pushed (λ d. d.event) steps c.loop-step.step-index c.loop-step-test.false (c.args.events.now.items ++ map (λ d. d.event) steps) c.loop-step.events.items c.loop-step.invariant.behind
