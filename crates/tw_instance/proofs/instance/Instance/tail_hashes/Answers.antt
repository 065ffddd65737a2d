use Rattle.std.proofs.Common.{ap, ◌∙◌}
use Rattle.tw_instance.specs.Tables.{row, tail_hashes_of}
use Rattle.tw_instance.proofs.instance.Instance.tail_hashes.Goals as goal

pub returns : goal.returns
returns c =
    c.row_of.ensures
    ∙ (ap (λ rows. row rows c.args.node) c.deref.ensures.value ∙ (c.self.invariant.tail_hashes.rows c.args.node ∙ ap (λ n. tail_hashes_of n c.args.node) c.self.view_is))
