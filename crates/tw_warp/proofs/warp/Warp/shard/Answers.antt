use Rattle.std.proofs.Common.{◌≡◌, ◌<◌, length, ap, sym, ◌∙◌, subst}
use Rattle.tw_warp.specs.Inside.{warp_of}
use Rattle.tw_warp.specs.Warp.{IsShare, IsWarp, Warp, no_shard, shard_at}
use Rattle.tw_warp.proofs.Turns.{any_default}
use Rattle.tw_warp.proofs.warp.Warp.shard.Goals as goal

pub returns-clause-share : goal.returns-clause-share
returns-clause-share c =
    let w = c.args.self.now in
    let v = warp_of c.self.inside in
    let k = c.args.worker in
    let is : IsWarp w = subst IsWarp c.self.view_is c.self.invariant in
    let within : k < length v.shards = subst (λ (u : Warp). k < length u.shards) (sym c.self.view_is) c.requires in
    let there : c.index.result.now ≡ shard_at w k =
    c.index.ensures ∙ (any_default v.shards k c.index.result.now no_shard within ∙ ap (λ (u : Warp). shard_at u k) c.self.view_is) in
    subst (IsShare w k) (sym there) (is.shares k c.requires)
