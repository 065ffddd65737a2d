use Rattle.std.proofs.Common.{◌≡◌, ap, ◌∙◌}
use Rattle.tw_event.specs.Order.{event_before}
use Rattle.tw_ordered.specs.Queue.{Queue}
use Rattle.tw_shard.specs.declared.shard.Shard.TheInside.{Inside}
use Rattle.tw_shard.specs.Inside.{IsShard, shard_of}
use Rattle.tw_shard.specs.Shard.{Shard}
use Rattle.tw_sim.specs.Ordered.{insert}
use Rattle.tw_shard.proofs.shard.Shard.add_kept.Goals as goal

-- a shard with another list of what is kept
kept_shard : (a : Inside) (q : Queue) → IsShard a → q.routers ≡ a.kept.routers → IsShard (record a { kept = q })
kept_shard a q is routers = record {
  whole = record {
    case = is.whole.case;
    worker = is.whole.worker;
    apart = is.whole.apart;
    long = is.whole.long;
    routers = λ r own. let at = is.whole.routers r own in record { known = at.known; within = at.within; net = at.net; node = at.node; done = at.done; case = at.case; retains = at.retains };
    pending = is.whole.pending;
    held = is.whole.held;
  };
  roster = is.roster;
  pending = is.pending;
  kept = routers ∙ is.kept;
  held = is.held;
  latest = is.latest;
}

pub invariant_of-self-2 : goal.invariant_of-self-2
invariant_of-self-2 c = kept_shard c.self.inside c.insert.new.self c.self.invariant c.insert.ensures.routers

pub returns-clause-ok : goal.returns-clause-ok
returns-clause-ok c =
    ap (λ kept. record (shard_of c.self.inside) { kept = kept }) c.in_ok-insert.ensures.ok
    ∙ ap (λ (s : Shard). record s { kept = insert event_before c.args.event.now s.kept }) c.self.view_is
