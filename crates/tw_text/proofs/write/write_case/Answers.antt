use Rattle.std.proofs.Common.{ap, ◌∙◌}
use Rattle.tw_text.proofs.Writing.{case-pushed}
use Rattle.tw_text.proofs.write.write_case.Goals as goal

pub returns : goal.returns
returns c =
    ap (λ v. v.items) c.into_bytes.ensures.value
    ∙ case-pushed c.args.case.now _ _ _ _ _ _ _ _ _ _ _ c.version-version.ensures.case c.version-version.ensures.value c.instance-instance.ensures.value c.nodes-nodes.ensures.value
    c.links.ensures.value c.paths.ensures.value c.scenario.ensures.value c.in_ok-text.ensures.ok c.in_ok-push_links.ensures c.in_ok-push_paths.ensures c.in_ok-push_scenes.ensures
    c.in_ok-push_str.ensures.bytes
