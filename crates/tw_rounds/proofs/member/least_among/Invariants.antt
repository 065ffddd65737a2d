use Rattle.std.proofs.Common.{◌≡◌, drop}
use Rattle.tw_rounds.specs.Times.{earliest}
use Rattle.tw_rounds.proofs.member.least_among.Given as goal

-- what is left goes on from the least so far
abbrev pub invariant-loop-message : goal.invariant-loop-message
invariant-loop-message g l = earliest g.E.Timed.parts.time (drop l.message-index l.messages) l.least ≡ earliest g.E.Timed.parts.time l.messages l.fn.time
