use Rattle.tw_rounds.proofs.Shares.{goes_both, goes_same, still_share}
use Rattle.tw_rounds.specs.Shares.{on_way}
use Rattle.tw_rounds.proofs.share.handle_all.Goals as goal

pub loop-init : goal.loop-init
loop-init g c = goes_same g.M.Event.Timed.parts g.M.Event.Ord.cmp g.M.ProcessModel.behaviour c.args.round c.args.start c.args.members.now (on_way c.args.sent.now)

pub handle_next-requires : goal.handle_next-requires
handle_next-requires g c = record { share = still_share g.M.Event.Timed.parts g.M.Event.Ord.cmp g.M.ProcessModel.behaviour c.args.round c.args.start c.args.members.now c.loop.members (on_way c.args.sent.now) (on_way c.loop.sent) c.requires.share c.loop.invariant.rule }

pub returns-in_err-handle_next : goal.returns-in_err-handle_next
returns-in_err-handle_next g c =
    goes_both g.M.Event.Timed.parts g.M.Event.Ord.cmp g.M.ProcessModel.behaviour c.args.round c.args.start c.args.members.now c.loop.members c.handle_next.new.members (on_way c.args.sent.now) (on_way c.loop.sent) (on_way c.handle_next.new.sent) c.loop.invariant c.handle_next.ensures

pub loop-preserved : goal.loop-preserved
loop-preserved g c =
    goes_both g.M.Event.Timed.parts g.M.Event.Ord.cmp g.M.ProcessModel.behaviour c.args.round c.args.start c.args.members.now c.loop.members c.handle_next.new.members (on_way c.args.sent.now) (on_way c.loop.sent) (on_way c.handle_next.new.sent) c.loop.invariant c.handle_next.ensures
