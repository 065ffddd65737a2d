use Rattle.std.proofs.Common.{ap, map, refl, ◌∙◌}
use Rattle.std.specs.List.{range_with_len}
use Rattle.tw_model.specs.State.{opening}
use Rattle.tw_seq.specs.declared.one_thread.OneThread.TheInside.{Inside}
use Rattle.tw_seq.proofs.Opening.{IsOpening, opening_is, opening_thread}
use Rattle.tw_seq.proofs.one_thread.OneThread.new.Goals as goal
use Rattle.tw_seq.proofs.one_thread.OneThread.new.Goals.{After-new}

abbrev fields : After-new → Inside
fields c = record { case = c.args.case; stop = 0; routers = c.in_ok-routers.routers; pending = c.in_ok-pending.pending; sends = c.new.result; last_change = 0 }

opened : (c : After-new) → IsOpening (fields c)
opened c = record {
  case = c.instance.ensures.case;
  stop = refl;
  routers = c.in_ok-routers.ensures ∙ ap (λ net. map (λ r. record { net = net; node = r; state = opening net r }) (range_with_len 0 net.nodes)) c.instance.ensures.value;
  pending = c.in_ok-pending.ensures.events;
  homes = c.in_ok-pending.ensures.routers;
  change = refl;
  sent = c.new.ensures.items;
}

pub invariant_of-result : goal.invariant_of-result
invariant_of-result c = opening_thread (fields (goal.at.invariant_of-result c).After-new) (opened (goal.at.invariant_of-result c).After-new)

pub returns-clause-value : goal.returns-clause-value
returns-clause-value c = opening_is (fields (goal.at.returns-clause-value c).After-new) (opened (goal.at.returns-clause-value c).After-new)

pub returns-clause-begun : goal.returns-clause-begun
returns-clause-begun c = (opening_thread (fields (goal.at.returns-clause-begun c).After-new) (opened (goal.at.returns-clause-begun c).After-new)).begun
