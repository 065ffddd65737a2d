use Rattle.std.proofs.Common.{◌≡◌, true, ap, ◌∙◌, subst}
use Rattle.tw_shard.specs.Cut.{IsGone}
use Rattle.tw_shard.specs.Inside.{shard_of}
use Rattle.tw_shard.specs.Shard.{owns}
use Rattle.tw_shard.proofs.HandingOver.{is_gone, latest_taken, whole_taken}
use Rattle.tw_shard.proofs.shard.Shard.take_router.Goals as goal

mine : (c : goal.After-into_router) → owns (shard_of c.self.inside) c.args.router ≡ true
mine c = ap (λ s. owns s c.args.router) c.self.view_is ∙ c.requires.own

pub invariant_of-self : goal.invariant_of-self
invariant_of-self c =
    let a = c.self.inside in
    let s = shard_of a in
    let out = c.take_out in
    record {
      whole = whole_taken s c.args.router c.self.invariant.whole (mine c) out.new.roster.routers out.new.timelines.items out.ensures.routers out.ensures.timelines;
      roster = out.ensures.count ∙ c.self.invariant.roster;
      pending = c.self.invariant.pending;
      kept = c.self.invariant.kept;
      held = c.self.invariant.held;
      latest = latest_taken s c.args.router c.self.invariant.whole (mine c) out.new.roster.routers out.new.timelines.items out.ensures.routers out.ensures.timelines a.latest
          c.self.invariant.latest;
    }

pub returns-clause-gone : goal.returns-clause-gone
returns-clause-gone c =
    let s = shard_of c.self.inside in
    let out = c.take_out in
    subst (λ s. IsGone c.args.router s (record (shard_of c.self.inside) { routers = out.new.roster.routers; timelines = out.new.timelines.items })) c.self.view_is
    (is_gone s c.args.router c.self.invariant.whole (mine c) out.new.roster.routers out.new.timelines.items out.ensures.routers out.ensures.timelines)
