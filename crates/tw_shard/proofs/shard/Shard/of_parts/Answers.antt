use Rattle.std.proofs.Common.{◌≡◌, sym, subst, ap, ◌∙◌}
use Rattle.tw_shard.specs.Inside.{HasHandledTo}
use Rattle.tw_shard.specs.Parts.{quiet_shard}
use Rattle.tw_shard.specs.Shard.{IsSoundShard, Shard}
use Rattle.tw_shard.proofs.shard.Shard.of_parts.Goals as goal

-- the shard that is made, with lists that are empty
abbrev made : goal.After-default → Shard
made c = record {
  terms = record { case = c.args.case.now; worker = c.args.worker; workers = c.args.workers; retains = c.args.retains; cancel = c.args.cancel };
  routers = c.args.roster.routers;
  timelines = c.args.timelines.items;
  pending = c.args.pending.events;
  kept = c.args.kept.events;
  outgoing = c.new.result.items;
  held = c.new-2.result.events;
  bound = c.args.bound;
}

abbrev quiet : goal.After-default → Shard
quiet c =
    quiet_shard (record { case = c.args.case.now; worker = c.args.worker; workers = c.args.workers; retains = c.args.retains; cancel = c.args.cancel }) c.args.bound
    c.args.roster.routers c.args.timelines.items c.args.pending.events c.args.kept.events

is_quiet : (c : goal.After-default) → made c ≡ quiet c
is_quiet c = λ i. record (made c) { outgoing = c.new.ensures.items i; held = c.new-2.ensures.empty i }

pub invariant_of-result : goal.invariant_of-result
invariant_of-result c =
    let nodes = c.nodes-nodes.ensures.value ∙ ap (λ net. net.nodes) c.instance.ensures.value in
    record {
      whole = subst IsSoundShard (sym (is_quiet c)) c.requires.whole;
      roster = c.requires.count;
      pending = c.requires.waiting;
      kept = c.requires.keeping;
      held = c.new-2.ensures.routers ∙ nodes;
      latest = subst (HasHandledTo c.args.latest) (sym (is_quiet c)) c.requires.latest;
    }

pub returns : goal.returns
returns c = is_quiet c
