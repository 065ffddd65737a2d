use Rattle.std.proofs.Common.{rules}
use Rattle.tw_rounds.proofs.Chunks.{IsCut, behind, joined}
use Rattle.tw_rounds.proofs.turning.+turns.Goals as goal

pub turn_from-turn_both-requires-clause-others : goal.turn_from-turn_both-requires-clause-others
turn_from-turn_both-requires-clause-others g t c κs within =
    let split = c.split_at_mut-share in
    let cut : IsCut c.args.size c.args.shares.now split.result.0.now split.result.1.now = (split.ensures.value, search rules) in
    behind c.args.size g.W.Turn.may_turn c.args.round c.args.start c.args.count c.min-first.result c.args.shares.now split.result.0.now split.result.1.now cut (search rules) (search rules) c.requires

pub turn_from-returns : goal.turn_from-returns
turn_from-returns g t c =
    let split = c.split_at_mut-share in
    let cut : IsCut c.args.size c.args.shares.now split.result.0.now split.result.1.now = (split.ensures.value, search rules) in
    joined c.args.size g.W.Turn.has_turned c.args.round c.args.start c.min-first.result c.args.shares.now split.result.0.now split.result.1.now c.turn_both.new.share c.turn_both.new.others cut (search rules)
    c.turn_both.ensures.share c.turn_both.ensures.others (search rules)
