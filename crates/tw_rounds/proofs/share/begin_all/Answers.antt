use Rattle.tw_rounds.proofs.Shares.{goes_both, goes_same, still_share}
use Rattle.tw_rounds.specs.Shares.{on_way}
use Rattle.tw_rounds.proofs.share.begin_all.Goals as goal

pub loop-place-init : goal.loop-place-init
loop-place-init g c = goes_same g.M.Event.Timed.parts g.M.Event.Ord.cmp g.M.ProcessModel.behaviour c.args.round c.args.start c.args.members.now (on_way c.args.sent.now)

pub begin_at-requires-clause-share : goal.begin_at-requires-clause-share
begin_at-requires-clause-share g c =
    (on_way c.loop-place.sent, still_share g.M.Event.Timed.parts g.M.Event.Ord.cmp g.M.ProcessModel.behaviour c.args.round c.args.start c.args.members.now c.loop-place.members (on_way c.args.sent.now) (on_way c.loop-place.sent) c.requires.share c.loop-place.invariant.rule)

pub returns-in_err-begin_at : goal.returns-in_err-begin_at
returns-in_err-begin_at g c =
    let f = on_way c.loop-place.sent in
    goes_both g.M.Event.Timed.parts g.M.Event.Ord.cmp g.M.ProcessModel.behaviour c.args.round c.args.start c.args.members.now c.loop-place.members c.begin_at.new.members (on_way c.args.sent.now) f f c.loop-place.invariant (c.begin_at.ensures f)

pub returns-in_err-send_at : goal.returns-in_err-send_at
returns-in_err-send_at g c =
    let f = on_way c.loop-place.sent in
    let begun = goes_both g.M.Event.Timed.parts g.M.Event.Ord.cmp g.M.ProcessModel.behaviour c.args.round c.args.start c.args.members.now c.loop-place.members c.begin_at.new.members (on_way c.args.sent.now) f f c.loop-place.invariant (c.begin_at.ensures f) in
    goes_both g.M.Event.Timed.parts g.M.Event.Ord.cmp g.M.ProcessModel.behaviour c.args.round c.args.start c.args.members.now c.begin_at.new.members c.send_at.new.members (on_way c.args.sent.now) f (on_way c.send_at.new.sent) begun (c.send_at.ensures c.args.round c.args.start)

pub loop-place-preserved : goal.loop-place-preserved
loop-place-preserved g c =
    let f = on_way c.loop-place.sent in
    let begun = goes_both g.M.Event.Timed.parts g.M.Event.Ord.cmp g.M.ProcessModel.behaviour c.args.round c.args.start c.args.members.now c.loop-place.members c.begin_at.new.members (on_way c.args.sent.now) f f c.loop-place.invariant (c.begin_at.ensures f) in
    goes_both g.M.Event.Timed.parts g.M.Event.Ord.cmp g.M.ProcessModel.behaviour c.args.round c.args.start c.args.members.now c.begin_at.new.members c.send_at.new.members (on_way c.args.sent.now) f (on_way c.send_at.new.sent) begun (c.send_at.ensures c.args.round c.args.start)
