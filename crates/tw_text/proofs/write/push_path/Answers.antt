use Rattle.std.proofs.Common.{◌++◌, ap, ◌∙◌, lit<}
use Rattle.std.specs.String.{string_bytes}
use Rattle.tw_text.proofs.Writing.{path-pushed}
use Rattle.tw_text.proofs.write.push_path.Goals as goal

pub returns : goal.returns
returns c =
    path-pushed _ _ _ _ c.args.owner c.args.nodes.now c.in_ok-write.ensures.bytes c.in_ok-push_nodes.ensures
    (c.in_ok-push.ensures.bytes ∙ ap (λ t. string_bytes c.push_nodes.new.text ++ t) (c.in_ok-push.ensures.ascii (lit< tt)))
