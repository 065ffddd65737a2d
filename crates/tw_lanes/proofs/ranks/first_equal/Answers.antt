use Rattle.std.proofs.Common.{◌==◌, ◌∙◌, None, Some}
use Rattle.tw_lanes.proofs.Chunks.{position-skips}
use Rattle.tw_lanes.proofs.ranks.first_equal.Goals as goal

pub returns-in_err-place : goal.returns-in_err-place
returns-in_err-place c =
    let skip = c.skip_len-start.ensures in
    c.from_residual.ensures ∙ position-skips (λ other. other == c.args.rank) c.args.ranks.now c.skip_len-start.result (skip.within, skip.past) None c.in_err-place.ensures

pub returns : goal.returns
returns c =
    let skip = c.skip_len-start.ensures in
    position-skips (λ other. other == c.args.rank) c.args.ranks.now c.skip_len-start.result (skip.within, skip.past) (Some c.in_ok-place.place) c.in_ok-place.ensures
