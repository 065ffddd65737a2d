use Rattle.std.proofs.Common.{◌∙◌}
use Rattle.std.proofs.lemmas.Option.{slice_get_within}
use Rattle.tw_model.specs.Net.{paths_of}
use Rattle.tw_router.proofs.Ranking.{rank_none, rank_some}
use Rattle.tw_router.proofs.ranks.rank_of.Goals as goal

pub returns-in-None : goal.returns-in-None
returns-in-None c = rank_none c.args.instance.now c.args.node c.args.order.now c.args.barred.now c.args.row (λ q. (λ h. let k = c.in-None.ensures.none q h in cc, λ e. cc))

pub rank_at-requires-clause-place : goal.rank_at-requires-clause-place
rank_at-requires-clause-place c =
    let at = c.in-Some.ensures.some in
    slice_get_within (paths_of c.args.instance.now c.args.node) c.in-Some.place at.0 at.1

pub returns-in-Some : goal.returns-in-Some
returns-in-Some c =
    let at = c.in-Some.ensures.some in
    c.rank_at.ensures at.0 at.1 ∙ rank_some c.args.instance.now c.args.node c.args.order.now c.args.barred.now c.args.row at.0 at.2
