use Rattle.tw_rounds.proofs.Shares.{goes_both, still_share}
use Rattle.tw_rounds.specs.Shares.{on_way}
use Rattle.tw_rounds.proofs.share.handle_next.Goals as goal

pub returns-in_err-send_at : goal.returns-in_err-send_at
returns-in_err-send_at g c =
    goes_both g.M.Event.Timed.parts g.M.Event.Ord.cmp g.M.ProcessModel.behaviour c.args.round c.args.start c.args.members.now c.advance_at.new.members c.send_at.new.members (on_way c.args.sent.now) (on_way c.advance_at.new.sent) (on_way c.send_at.new.sent) c.advance_at.ensures (c.send_at.ensures c.args.round c.args.start)

pub settle-requires : goal.settle-requires
settle-requires g c =
    let so_far = goes_both g.M.Event.Timed.parts g.M.Event.Ord.cmp g.M.ProcessModel.behaviour c.args.round c.args.start c.args.members.now c.advance_at.new.members c.send_at.new.members (on_way c.args.sent.now) (on_way c.advance_at.new.sent) (on_way c.send_at.new.sent) c.advance_at.ensures (c.send_at.ensures c.args.round c.args.start) in
    record { share = still_share g.M.Event.Timed.parts g.M.Event.Ord.cmp g.M.ProcessModel.behaviour c.args.round c.args.start c.args.members.now c.send_at.new.members (on_way c.args.sent.now) (on_way c.send_at.new.sent) c.requires.share so_far.rule }

pub returns : goal.returns
returns g c =
    let so_far = goes_both g.M.Event.Timed.parts g.M.Event.Ord.cmp g.M.ProcessModel.behaviour c.args.round c.args.start c.args.members.now c.advance_at.new.members c.send_at.new.members (on_way c.args.sent.now) (on_way c.advance_at.new.sent) (on_way c.send_at.new.sent) c.advance_at.ensures (c.send_at.ensures c.args.round c.args.start) in
    goes_both g.M.Event.Timed.parts g.M.Event.Ord.cmp g.M.ProcessModel.behaviour c.args.round c.args.start c.args.members.now c.send_at.new.members c.settle.new.members (on_way c.args.sent.now) (on_way c.send_at.new.sent) (on_way c.settle.new.sent) so_far c.settle.ensures
