use Rattle.tw_core.proofs.Steps.{deliver_keeps, handle_keeps, release_keeps, undo_keeps, undoing_keeps, widen_keeps}
use Rattle.tw_core.proofs.laws.calls_keep_parts.Goals as goal

pub returns-clause-handle : goal.returns-clause-handle
returns-clause-handle c = λ start m law t C D r good h. handle_keeps m law t C D r good h

pub returns-clause-undo : goal.returns-clause-undo
returns-clause-undo c = λ start m law t C D r le good h. undo_keeps m law t C D r le good h

pub returns-clause-deliver : goal.returns-clause-deliver
returns-clause-deliver c = λ start m law t C D k good h. deliver_keeps m law t C D k good h

pub returns-clause-undoing : goal.returns-clause-undoing
returns-clause-undoing c = λ start m law t C r e older late good newest. undoing_keeps m law t C r e older late good newest

pub returns-clause-release : goal.returns-clause-release
returns-clause-release c = λ start m law t C r good. release_keeps m law t C r good

pub returns-clause-widen : goal.returns-clause-widen
returns-clause-widen c = λ start m law t C r good. widen_keeps m law t C r good
