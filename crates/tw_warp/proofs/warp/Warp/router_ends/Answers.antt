use Rattle.std.proofs.Common.{ap, map, sym, ◌∙◌, subst}
use Rattle.std.specs.List.{range_with_len}
use Rattle.tw_shard.specs.Shards.{HaveAll, ends_of_all}
use Rattle.tw_warp.proofs.AllShards.{have_all, same_ends}
use Rattle.tw_warp.specs.Committed.{end_at}
use Rattle.tw_warp.specs.Inside.{warp_of}
use Rattle.tw_warp.specs.Warp.{Warp, warp_core}
use Rattle.tw_warp.proofs.warp.Warp.router_ends.Goals as goal

pub router_ends-requires : goal.router_ends-requires
router_ends-requires c = let w = warp_of c.self.inside in subst (HaveAll w.case) (sym c.deref.ensures.value) (have_all w c.self.invariant)

pub returns : goal.returns
returns c =
    let w = warp_of c.self.inside in
    c.in_ok-ends.ensures
    ∙ (ap (ends_of_all w.case) c.deref.ensures.value ∙ (same_ends w c.self.invariant ∙ ap (λ (v : Warp). map (end_at v.case (warp_core v)) (range_with_len 0 v.case.net.nodes)) c.self.view_is))
