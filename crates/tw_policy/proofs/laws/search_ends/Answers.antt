use Rattle.tw_policy.specs.Search.{all_paths}
use Rattle.tw_policy.proofs.Ends as ends
use Rattle.tw_policy.proofs.laws.search_ends.Goals as goal

pub returns : goal.returns
returns c = λ net states n few. ends.ends net states n (all_paths net states) few
