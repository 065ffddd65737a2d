use Rattle.tw_seq.specs.declared.one_thread.OneThread.TheInside.{Inside}
use Rattle.tw_seq.proofs.Resumed.{IsResumed, resumed_is, resumed_thread}
use Rattle.tw_seq.proofs.one_thread.OneThread.resume.Goals as goal
use Rattle.tw_seq.proofs.one_thread.OneThread.resume.Goals.{After-new}

abbrev fields : After-new → Inside
fields c = record {
  case = c.args.case;
  stop = c.args.stop;
  routers = c.args.routers;
  pending = c.args.pending;
  sends = c.new.result;
  last_change = c.args.last_change;
}

resumed : (c : After-new) → IsResumed (fields c)
resumed c = record {
  case = c.instance.ensures.case;
  stop = c.requires.stop;
  routers = c.requires.routers;
  pending = c.requires.pending;
  homes = c.requires.homes;
  change = c.requires.change;
  sent = c.new.ensures.items;
}

pub invariant_of-result : goal.invariant_of-result
invariant_of-result c = let d = (goal.at.invariant_of-result c).After-new in resumed_thread (fields d) (resumed d)

pub returns-clause-value : goal.returns-clause-value
returns-clause-value c = let d = (goal.at.returns-clause-value c).After-new in resumed_is (fields d) (resumed d)

pub returns-clause-begun : goal.returns-clause-begun
returns-clause-begun c = let d = (goal.at.returns-clause-begun c).After-new in (resumed_thread (fields d) (resumed d)).begun
