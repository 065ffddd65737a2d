use Rattle.std.proofs.Common.{ap, sym, slice_get}
use Rattle.tw_shard.proofs.LettingGo.{none_past}
use Rattle.tw_shard.proofs.past.Past.new.Goals as goal

pub invariant_of-result : goal.invariant_of-result
invariant_of-result c = ap (λ l. slice_get l 0) (sym (none_past c.args.case.now c.instance.ensures.case c.args.node c.args.retains c.new.result.items c.new.ensures.items))

pub returns : goal.returns
returns c = λ i. record {
  case = c.args.case.now;
  node = c.args.node;
  retains = c.args.retains;
  events = none_past c.args.case.now c.instance.ensures.case c.args.node c.args.retains c.new.result.items c.new.ensures.items i;
  done = 0;
}
