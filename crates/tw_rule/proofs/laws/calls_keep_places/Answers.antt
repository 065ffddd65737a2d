use Rattle.tw_rule.proofs.Before.{kept_before}
use Rattle.tw_rule.proofs.Calls.{keeps_commit, keeps_handle, keeps_receive, keeps_release, keeps_roll_back, keeps_unsent, keeps_widen}
use Rattle.tw_rule.proofs.laws.calls_keep_places.Goals as goal

pub returns-clause-handle : goal.returns-clause-handle
returns-clause-handle c = λ start m law stop r p D place h. keeps_handle m law stop r p D place h

pub returns-clause-receive : goal.returns-clause-receive
returns-clause-receive c = λ start m law stop k p s place there. keeps_receive m law stop k p s place there

pub returns-clause-roll_back : goal.returns-clause-roll_back
returns-clause-roll_back c = λ start m law stop k p s D place there h. keeps_roll_back m law stop k p s D place there h

pub returns-clause-unsent : goal.returns-clause-unsent
returns-clause-unsent c = λ start m law stop p unsent outgoing place plus minus. keeps_unsent m law stop p unsent outgoing place plus minus

pub returns-clause-before : goal.returns-clause-before
returns-clause-before c = λ start m law stop t p q place from keeps. kept_before m law stop t p q place from keeps

pub returns-clause-commit : goal.returns-clause-commit
returns-clause-commit c = λ start m law stop r p place. keeps_commit m law stop r p place

pub returns-clause-release : goal.returns-clause-release
returns-clause-release c = λ start m law stop r p place. keeps_release m law stop r p place

pub returns-clause-widen : goal.returns-clause-widen
returns-clause-widen c = λ start m law stop r p place. keeps_widen m law stop r p place
