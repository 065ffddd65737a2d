use Rattle.tw_policy.proofs.Safe.{solved_safe}
use Rattle.tw_policy.proofs.laws.solved_is_safe.Goals as goal

pub returns : goal.returns
returns c = λ case is n solved. solved_safe case is n solved
