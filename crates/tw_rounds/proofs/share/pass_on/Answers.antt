use Rattle.std.proofs.Common.{◌++◌, ◌∷◌, [], sym, subst}
use Rattle.tw_rounds.proofs.Lists.{popped}
use Rattle.tw_rounds.proofs.Shares.{goes_same, passes}
use Rattle.tw_rounds.specs.Shares.{GoesOn}
use Rattle.tw_rounds.proofs.share.pass_on.Goals as goal

pub returns : goal.returns
returns g c = λ round start xs.
    let far = c.args.sent.now.far.items in
    let near = c.args.sent.now.near.items in
    let left = popped near c.pop.new.self.items c.pop.result c.args.sent.now.near.len c.args.message c.pop.ensures.items c.pop.ensures.variant c.pop.ensures.rest c.requires.last in
    subst (λ fs. GoesOn g.M.Event.Timed.parts g.M.Event.Ord.cmp g.M.ProcessModel.behaviour round start xs (far ++ near) xs (fs ++ c.pop.new.self.items)) (sym c.in_ok-push.ensures.items)
    (subst (λ ns. GoesOn g.M.Event.Timed.parts g.M.Event.Ord.cmp g.M.ProcessModel.behaviour round start xs (far ++ near) xs ((far ++ c.args.message ∷ []) ++ ns)) (sym left) (passes g.M.Event.Timed.parts g.M.Event.Ord.cmp g.M.ProcessModel.behaviour round start xs far near c.args.message c.requires.last))

pub returns-in_err-push : goal.returns-in_err-push
returns-in_err-push g c = λ round start xs.
    let far = c.args.sent.now.far.items in
    let near = c.args.sent.now.near.items in
    subst (λ fs. GoesOn g.M.Event.Timed.parts g.M.Event.Ord.cmp g.M.ProcessModel.behaviour round start xs (far ++ near) xs (fs ++ near)) (sym c.in_err-push.ensures.items) (goes_same g.M.Event.Timed.parts g.M.Event.Ord.cmp g.M.ProcessModel.behaviour round start xs (far ++ near))
