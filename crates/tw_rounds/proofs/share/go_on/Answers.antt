use Rattle.tw_rounds.proofs.Shares.{goes_both, goes_same, still_share}
use Rattle.tw_rounds.specs.Shares.{on_way}
use Rattle.tw_rounds.proofs.share.go_on.Goals as goal

pub returns-in_err-schedule : goal.returns-in_err-schedule
returns-in_err-schedule g c = goes_same g.M.Event.Timed.parts g.M.Event.Ord.cmp g.M.ProcessModel.behaviour c.args.round c.args.start c.args.members.now (on_way c.args.sent.now)

pub settle-requires : goal.settle-requires
settle-requires g c = record { share = still_share g.M.Event.Timed.parts g.M.Event.Ord.cmp g.M.ProcessModel.behaviour c.args.round c.args.start c.args.members.now c.begin_all.new.members (on_way c.args.sent.now) (on_way c.begin_all.new.sent) c.requires.share c.begin_all.ensures.rule }

pub returns-in_err-settle : goal.returns-in_err-settle
returns-in_err-settle g c =
    goes_both g.M.Event.Timed.parts g.M.Event.Ord.cmp g.M.ProcessModel.behaviour c.args.round c.args.start c.args.members.now c.begin_all.new.members c.settle.new.members (on_way c.args.sent.now) (on_way c.begin_all.new.sent) (on_way c.settle.new.sent) c.begin_all.ensures c.settle.ensures

pub handle_all-requires : goal.handle_all-requires
handle_all-requires g c =
    let so_far = goes_both g.M.Event.Timed.parts g.M.Event.Ord.cmp g.M.ProcessModel.behaviour c.args.round c.args.start c.args.members.now c.begin_all.new.members c.settle.new.members (on_way c.args.sent.now) (on_way c.begin_all.new.sent) (on_way c.settle.new.sent) c.begin_all.ensures c.settle.ensures in
    record { share = still_share g.M.Event.Timed.parts g.M.Event.Ord.cmp g.M.ProcessModel.behaviour c.args.round c.args.start c.args.members.now c.settle.new.members (on_way c.args.sent.now) (on_way c.settle.new.sent) c.requires.share so_far.rule }

pub returns : goal.returns
returns g c =
    let so_far = goes_both g.M.Event.Timed.parts g.M.Event.Ord.cmp g.M.ProcessModel.behaviour c.args.round c.args.start c.args.members.now c.begin_all.new.members c.settle.new.members (on_way c.args.sent.now) (on_way c.begin_all.new.sent) (on_way c.settle.new.sent) c.begin_all.ensures c.settle.ensures in
    goes_both g.M.Event.Timed.parts g.M.Event.Ord.cmp g.M.ProcessModel.behaviour c.args.round c.args.start c.args.members.now c.settle.new.members c.handle_all.new.members (on_way c.args.sent.now) (on_way c.settle.new.sent) (on_way c.handle_all.new.sent) so_far c.handle_all.ensures
