use Rattle.tw_model.specs.Rules.{nodes_fault}
use Rattle.tw_text.proofs.Adding.{refused}
use Rattle.tw_text.proofs.draft.with_nodes.Goals as goal

pub returns-in-Err : goal.returns-in-Err
returns-in-Err c = rw (← c.in-Ok.ensures.1) (refused c.new.result _ _ (nodes_fault c.in-Ok.nodes) _ c.in-Err.is c.rule_fault.ensures c.new.ensures.rule)
