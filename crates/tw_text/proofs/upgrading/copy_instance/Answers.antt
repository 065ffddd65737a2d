use Rattle.tw_text.proofs.Judged.{instance_only_memory}
use Rattle.tw_text.proofs.upgrading.copy_instance.Goals as goal

pub unreachable-requires : goal.unreachable-requires
unreachable-requires c =
    let refused = c.in-Err-Fault.ensures.told in
    let memory = instance_only_memory c.args.instance.now _ _ _ _ _ _ c.nodes.ensures.net c.nodes.ensures.value c.in_ok-links.ensures.items c.links.ensures.value c.in_ok-paths.ensures c.paths.ensures.value refused in
    cc
