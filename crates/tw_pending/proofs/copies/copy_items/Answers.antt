use Rattle.std.proofs.Common.{◌++◌, map, arith}
use Rattle.tw_pending.proofs.Walks.{all_pushed, pushed}
use Rattle.tw_pending.proofs.copies.copy_items.Goals as goal

pub loop-item-preserved : goal.loop-item-preserved
loop-item-preserved g c =
    let items = c.args.items.now in
    record {
      behind = pushed (λ x. x.0) items c.loop-item.item-index c.item-item.result c.loop-item-test.true c.item-item.is (c.args.events.now.items ++ map (λ x. x.0) items) c.loop-item.events.items
          c.push_reserved.new.self.items c.push_reserved.ensures.items c.loop-item.invariant.behind;
      len = omega arith;
      capacity = omega arith;
    }

pub returns-clause-items : goal.returns-clause-items
returns-clause-items g c =
    let items = c.args.items.now in
    all_pushed (λ x. x.0) items c.loop-item.item-index c.loop-item-test.false (c.args.events.now.items ++ map (λ x. x.0) items) c.loop-item.events.items c.loop-item.invariant.behind
