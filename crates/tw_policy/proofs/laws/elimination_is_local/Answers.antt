use Rattle.std.proofs.Common.{◌==◌, [], ◌∷◌, ap, if◌then◌else◌}
use Rattle.tw_model.specs.Net.{origin_path}
use Rattle.tw_policy.proofs.Halts.{remaining_same}
use Rattle.tw_policy.proofs.laws.elimination_is_local.Goals as goal

pub returns : goal.returns
returns c = λ net states one two v same. ap (λ xs. if v == 0 then origin_path ∷ [] else xs) (remaining_same net states one two v same [] (states v).order)
