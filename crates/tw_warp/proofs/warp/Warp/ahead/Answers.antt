use Rattle.std.proofs.Common.{ap, sym, ◌∙◌, subst}
use Rattle.tw_shard.specs.Shards.{HaveAll, ahead_of_all}
use Rattle.tw_warp.proofs.AllShards.{have_all, same_ahead}
use Rattle.tw_warp.specs.Committed.{count_ahead}
use Rattle.tw_warp.specs.Inside.{warp_of}
use Rattle.tw_warp.proofs.warp.Warp.ahead.Goals as goal

pub count_ahead-requires : goal.count_ahead-requires
count_ahead-requires c = let w = warp_of c.self.inside in subst (HaveAll w.case) (sym c.deref.ensures.value) (have_all w c.self.invariant)

pub returns : goal.returns
returns c =
    let w = warp_of c.self.inside in
    c.count_ahead.ensures ∙ (ap (ahead_of_all w.case) c.deref.ensures.value ∙ (same_ahead w c.self.invariant ∙ ap count_ahead c.self.view_is))
