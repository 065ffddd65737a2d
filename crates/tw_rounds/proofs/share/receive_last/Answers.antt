use Rattle.std.proofs.Common.{◌-◌, ◌++◌, length, take, sym, subst}
use Rattle.tw_rounds.proofs.Lists.{popped}
use Rattle.tw_rounds.proofs.Shares.{last_apart}
use Rattle.tw_rounds.specs.Shares.{GoesOn, IsShare}
use Rattle.tw_rounds.proofs.share.receive_last.Goals as goal

pub receive_at-requires-clause-share : goal.receive_at-requires-clause-share
receive_at-requires-clause-share g c =
    let far = c.args.sent.now.far.items in
    let near = c.args.sent.now.near.items in
    (far ++ take (length near - 1) near, subst (IsShare g.M.Event.Timed.parts g.M.Event.Ord.cmp g.M.ProcessModel.behaviour c.args.round c.args.start c.args.members.now) (last_apart g.M.Event.Timed.parts g.M.Event.Ord.cmp g.M.ProcessModel.behaviour c.args.round c.args.start far near c.args.message c.requires.last) c.requires.share)

pub returns-in_err-receive_at : goal.returns-in_err-receive_at
returns-in_err-receive_at g c =
    let far = c.args.sent.now.far.items in
    let near = c.args.sent.now.near.items in
    let rest = far ++ take (length near - 1) near in
    subst (λ fs. GoesOn g.M.Event.Timed.parts g.M.Event.Ord.cmp g.M.ProcessModel.behaviour c.args.round c.args.start c.args.members.now fs c.receive_at.new.members fs) (sym (last_apart g.M.Event.Timed.parts g.M.Event.Ord.cmp g.M.ProcessModel.behaviour c.args.round c.args.start far near c.args.message c.requires.last))
    (c.in_err-receive_at.ensures.err rest)

pub returns : goal.returns
returns g c =
    let far = c.args.sent.now.far.items in
    let near = c.args.sent.now.near.items in
    let rest = far ++ take (length near - 1) near in
    let went = subst (λ fs. GoesOn g.M.Event.Timed.parts g.M.Event.Ord.cmp g.M.ProcessModel.behaviour c.args.round c.args.start c.args.members.now fs c.receive_at.new.members rest) (sym (last_apart g.M.Event.Timed.parts g.M.Event.Ord.cmp g.M.ProcessModel.behaviour c.args.round c.args.start far near c.args.message c.requires.last))
    (c.in_ok-receive_at.ensures.ok rest) in
    let left = popped near c.pop.new.self.items c.pop.result c.args.sent.now.near.len c.args.message c.pop.ensures.items c.pop.ensures.variant c.pop.ensures.rest c.requires.last in
    subst (λ ns. GoesOn g.M.Event.Timed.parts g.M.Event.Ord.cmp g.M.ProcessModel.behaviour c.args.round c.args.start c.args.members.now (far ++ near) c.receive_at.new.members (far ++ ns)) (sym left) went
