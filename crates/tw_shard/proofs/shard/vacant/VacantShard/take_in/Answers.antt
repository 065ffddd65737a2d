use Rattle.std.proofs.Common.{◌≡◌, ◌-◌, [], Some, drop, slice_get, vec_len, ap, sym, ◌∙◌, subst, arith}
use Rattle.std.specs.List.{AllByRecursion}
use Rattle.tw_shard.specs.Cut.{timeline_at}
use Rattle.tw_shard.specs.Vacant.{Vacant, vacant_of}
use Rattle.tw_shard.proofs.Cuts.{all_taken, one_come, one_less, one_longer}
use Rattle.tw_shard.proofs.shard.vacant.VacantShard.take_in.Goals as goal

next : (c : goal.After-push_reserved) → slice_get (vacant_of c.self.inside).missing 0 ≡ Some c.args.router.router.node
next c = ap (λ (v : Vacant). slice_get v.missing 0) c.self.view_is ∙ c.requires.next

come : (c : goal.After-push_reserved) → c.at-timeline.result ≡ timeline_at c.self.inside.case.now c.self.inside.retains c.self.inside.time c.args.router.router.node
come c = c.at-timeline.ensures

pub invariant_of-self : goal.invariant_of-self
invariant_of-self c =
    let a = c.self.inside in
    let is = c.self.invariant in
    let line = timeline_at a.case.now a.retains a.time in
    let ts = a.timelines.items in
    let later = c.push_reserved.new.self.items in
    let t = c.at-timeline.result in
    let r = c.args.router.router.node in
    record {
      case = is.case;
      worker = is.worker;
      known = is.known;
      apart = is.apart;
      roster = is.roster;
      timelines = one_come line a.roster.routers ts later t r is.timelines (next c) (come c) c.push_reserved.ensures.items;
      rings =
          let longer = one_longer line a.roster.routers ts later t r is.timelines (next c) (come c) c.push_reserved.ensures.items in
          let less = c.in-Some.ensures.cases in
          let before = a.rings.ok.0 in
          let after = c.pop.new.self.ok.0 in
          let sum = is.rings in
          omega arith;
      empty = subst (AllByRecursion (λ ring. ring ≡ [])) (sym c.in-Some.ensures.rest) (all_taken (λ ring. ring ≡ []) (vec_len a.rings - 1) a.rings.items is.empty);
      room = let room = is.room in let same = c.push_reserved.ensures.capacity in omega arith;
      pending = is.pending;
      waiting = is.waiting;
      kept = is.kept;
      keeping = is.keeping;
    }

pub returns : goal.returns
returns c =
    let a = c.self.inside in
    let is = c.self.invariant in
    let line = timeline_at a.case.now a.retains a.time in
    let less = one_less line a.roster.routers a.timelines.items c.push_reserved.new.self.items c.at-timeline.result c.args.router.router.node is.timelines (next c) (come c)
    c.push_reserved.ensures.items in
    ap (λ rs. record (vacant_of a) { missing = rs }) less ∙ ap (λ (v : Vacant). record v { missing = drop 1 v.missing }) c.self.view_is
