use Rattle.std.proofs.Common.{subst}
use Rattle.tw_model.specs.Rules.{IsNet}
use Rattle.tw_instance.proofs.Sound.{is_whole}
use Rattle.tw_instance.proofs.instance.Instance.nodes.Goals as goal

pub returns-clause-few_paths : goal.returns-clause-few_paths
returns-clause-few_paths c = (is_whole c.args.self.now (subst IsNet c.self.view_is c.self.invariant.net)).few_paths

pub returns-clause-distinct : goal.returns-clause-distinct
returns-clause-distinct c = (is_whole c.args.self.now (subst IsNet c.self.view_is c.self.invariant.net)).distinct
