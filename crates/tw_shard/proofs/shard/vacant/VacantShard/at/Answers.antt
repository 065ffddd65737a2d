use Rattle.std.proofs.Common.{◌<◌, ◌==◌, drop, filter, length, map, slice_index_or, take, ap, sym, ◌∙◌, subst, arith}
use Rattle.std.specs.List.{range_with_len}
use Rattle.tw_ordered.specs.Queue.{AreFor}
use Rattle.tw_shard.specs.Cut.{timeline_at}
use Rattle.tw_shard.specs.Roster.{has}
use Rattle.tw_shard.proofs.Cuts.{given_home, given_own}
use Rattle.tw_shard.proofs.shard.vacant.VacantShard.at.Goals as goal

pub queue_at-requires : goal.queue_at-requires
queue_at-requires c =
    let nodes = c.nodes-nodes.ensures.value ∙ ap (λ net. net.nodes) c.instance.ensures.value in
    subst (λ n. AreFor n c.args.pending.now) (sym nodes) (given_home c.args.case.now c.instance.ensures.case c.args.time c.args.pending.now c.requires.pending)

pub invariant_of-result : goal.invariant_of-result
invariant_of-result c =
    let case = c.args.case.now in
    let rs = c.in_ok-roster.roster.routers in
    let nodes = c.nodes-nodes.ensures.value ∙ ap (λ net. net.nodes) c.instance.ensures.value in
    let count = c.in_ok-roster.ensures.count ∙ nodes in
    let none = ap length c.in_ok-timelines.ensures.items in
    let many = ap length c.routers-count.ensures.value in
    record {
      case = c.instance.ensures.case;
      worker = c.requires.worker;
      known = λ k r at. subst (λ n. r < n) count (c.routers-count.ensures.roster.known k r at);
      apart = c.routers-count.ensures.roster.apart;
      roster = count;
      timelines = c.in_ok-timelines.ensures.items ∙ ap (λ n. map (timeline_at case c.args.retains c.args.time) (take n rs)) (sym none);
      rings = let rings = c.in_ok-rings.ensures.count in omega arith;
      empty = c.in_ok-rings.ensures.empty;
      room = let room = c.in_ok-timelines.ensures.capacity in omega arith;
      pending = c.in_ok-pending.ensures.events ∙ given_own case c.instance.ensures.case c.args.time c.args.pending.now c.requires.pending (has rs);
      waiting = c.in_ok-pending.ensures.routers ∙ nodes;
      kept = c.in_ok-kept.ensures.empty;
      keeping = c.in_ok-kept.ensures.routers ∙ nodes;
    }

pub returns : goal.returns
returns c =
    let case = c.args.case.now in
    let nodes = c.nodes-nodes.ensures.value ∙ ap (λ net. net.nodes) c.instance.ensures.value in
    let own = c.in_ok-roster.ensures.routers c.args.workers
    ∙ ap (λ n. filter (λ r. slice_index_or c.args.owners.now r c.args.workers == c.args.worker) (range_with_len 0 n)) nodes in
    let none = ap length c.in_ok-timelines.ensures.items in
    let missing = ap (λ n. drop n c.in_ok-roster.roster.routers) none ∙ own in
    λ i. record {
      case = case;
      worker = c.args.worker;
      workers = c.args.workers;
      time = c.args.time;
      retains = c.args.retains;
      cancel = c.args.cancel;
      routers = own i;
      missing = missing i;
    }
