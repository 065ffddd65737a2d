use Rattle.tw_rounds.specs.Shares.{GoesOn, on_way}
use Rattle.tw_rounds.proofs.share.begin_all.Given as goal

-- so far the rule goes on
abbrev pub invariant-loop-place : goal.invariant-loop-place
invariant-loop-place g l = GoesOn g.M.Event.Timed.parts g.M.Event.Ord.cmp g.M.ProcessModel.behaviour l.round l.start l.fn.members (on_way l.fn.sent) l.members (on_way l.sent)
