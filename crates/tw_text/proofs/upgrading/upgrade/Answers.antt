use Rattle.std.proofs.Common.{ap}
use Rattle.tw_sim.specs.Seq.{at, log, rest}
use Rattle.tw_text.proofs.Judged.{case_only_memory, same_run}
use Rattle.tw_text.proofs.upgrading.upgrade.Goals as goal

pub unreachable-requires : goal.unreachable-requires
unreachable-requires c =
    let memory = case_only_memory c.args.case.now _ _ _ _ _ c.instance.ensures.case c.in_ok-instance.ensures c.instance.ensures.value c.in_ok-scenario.ensures.items c.scenario.ensures.value c.in-Err-Fault.ensures.told in
    cc

pub returns-in-Ok-clause-log : goal.returns-in-Ok-clause-log
returns-in-Ok-clause-log c t =
    ap (λ m. log m t) (same_run _ c.args.case.now _ _ _ _ c.in-Ok.ensures.ok c.in_ok-instance.ensures c.instance.ensures.value c.in_ok-scenario.ensures.items c.scenario.ensures.value)

pub returns-in-Ok-clause-at : goal.returns-in-Ok-clause-at
returns-in-Ok-clause-at c t r =
    ap (λ m. at m t r) (same_run _ c.args.case.now _ _ _ _ c.in-Ok.ensures.ok c.in_ok-instance.ensures c.instance.ensures.value c.in_ok-scenario.ensures.items c.scenario.ensures.value)

pub returns-in-Ok-clause-rest : goal.returns-in-Ok-clause-rest
returns-in-Ok-clause-rest c t =
    ap (λ m. rest m t) (same_run _ c.args.case.now _ _ _ _ c.in-Ok.ensures.ok c.in_ok-instance.ensures c.instance.ensures.value c.in_ok-scenario.ensures.items c.scenario.ensures.value)
