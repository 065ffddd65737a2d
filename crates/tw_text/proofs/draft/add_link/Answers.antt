use Rattle.tw_text.proofs.Adding.{link_refused}
use Rattle.tw_text.proofs.draft.add_link.Goals as goal

pub returns-in-Err : goal.returns-in-Err
returns-in-Err c =
    λ version. link_refused c.add_link.result _ _ version c.args.instance.now c.args.first c.args.second c.args.delay c.args.back _ _ c.in_ok-first.ensures c.in_ok-second.ensures c.in-Err.is c.rule_fault.ensures c.add_link.ensures.rule
