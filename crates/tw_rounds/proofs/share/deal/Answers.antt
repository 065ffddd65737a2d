use Rattle.tw_rounds.proofs.Shares.{goes_both}
use Rattle.tw_rounds.specs.Shares.{on_way}
use Rattle.tw_rounds.proofs.share.deal.Goals as goal

pub returns : goal.returns
returns g c =
    goes_both g.M.Event.Timed.parts g.M.Event.Ord.cmp g.M.ProcessModel.behaviour c.args.round c.args.start c.args.members.now c.receive_last.new.members c.send_at.new.members (on_way c.args.sent.now) (on_way c.receive_last.new.sent) (on_way c.send_at.new.sent) c.receive_last.ensures (c.send_at.ensures c.args.round c.args.start)

pub returns-then-number-start : goal.returns-then-number-start
returns-then-number-start g c = c.pass_on.ensures c.args.round c.args.start c.args.members.now
