use Rattle.tw_rounds.specs.Shares.{on_way}
use Rattle.tw_rounds.proofs.share.advance_at.Goals as goal

pub handle_at-requires-clause-share : goal.handle_at-requires-clause-share
handle_at-requires-clause-share g c = (on_way c.args.sent.now, c.requires.share)
