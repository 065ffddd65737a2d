use Rattle.std.proofs.Common.{◌-◌, ◌≡◌, Some, length, slice_get, ap, sym, ◌∙◌, subst}
use Rattle.std.specs.Option.{option_copied}
use Rattle.tw_rounds.proofs.Shares.{goes_both, goes_same, still_share}
use Rattle.tw_rounds.specs.Shares.{on_way}
use Rattle.tw_rounds.proofs.share.settle.Goals as goal

pub loop-init : goal.loop-init
loop-init g c = goes_same g.M.Event.Timed.parts g.M.Event.Ord.cmp g.M.ProcessModel.behaviour c.args.round c.args.start c.args.members.now (on_way c.args.sent.now)

pub deal-requires-clause-last : goal.deal-requires-clause-last
deal-requires-clause-last g c =
    let s = c.in-Some.message.now in
    subst (λ ys. slice_get ys (length ys - 1) ≡ Some s) c.deref.ensures.value (sym (sym (ap option_copied c.in-Some.is) ∙ c.last.ensures.value))

pub deal-requires-clause-share : goal.deal-requires-clause-share
deal-requires-clause-share g c = still_share g.M.Event.Timed.parts g.M.Event.Ord.cmp g.M.ProcessModel.behaviour c.args.round c.args.start c.args.members.now c.loop.members (on_way c.args.sent.now) (on_way c.loop.sent) c.requires.share c.loop.invariant.rule

pub returns-in_err-deal : goal.returns-in_err-deal
returns-in_err-deal g c =
    goes_both g.M.Event.Timed.parts g.M.Event.Ord.cmp g.M.ProcessModel.behaviour c.args.round c.args.start c.args.members.now c.loop.members c.deal.new.members (on_way c.args.sent.now) (on_way c.loop.sent) (on_way c.deal.new.sent) c.loop.invariant c.deal.ensures

pub loop-preserved : goal.loop-preserved
loop-preserved g c =
    goes_both g.M.Event.Timed.parts g.M.Event.Ord.cmp g.M.ProcessModel.behaviour c.args.round c.args.start c.args.members.now c.loop.members c.deal.new.members (on_way c.args.sent.now) (on_way c.loop.sent) (on_way c.deal.new.sent) c.loop.invariant c.deal.ensures
