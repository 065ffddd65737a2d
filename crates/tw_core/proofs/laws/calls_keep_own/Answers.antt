use Rattle.tw_core.proofs.Own.{own_arrival, own_handle, own_release, own_undo}
use Rattle.tw_core.proofs.laws.calls_keep_own.Goals as goal

pub returns-clause-handle : goal.returns-clause-handle
returns-clause-handle c = λ start m law owns C D r own h. own_handle m law owns C D r own h

pub returns-clause-undo : goal.returns-clause-undo
returns-clause-undo c = λ start m law owns t C D r good own h. own_undo m law owns t C D r good own h

pub returns-clause-arrival : goal.returns-clause-arrival
returns-clause-arrival c = λ start m law owns t C x good own mine. own_arrival m law owns t C x good own mine

pub returns-clause-release : goal.returns-clause-release
returns-clause-release c = λ start m law owns C r own. own_release m law owns C r own
