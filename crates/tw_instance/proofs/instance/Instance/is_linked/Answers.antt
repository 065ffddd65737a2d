use Rattle.std.proofs.Common.{ap, ◌∙◌}
use Rattle.tw_model.specs.Rules.{is_linked}
use Rattle.tw_instance.specs.Adjacency.{cell}
use Rattle.tw_instance.specs.Tables.{items}
use Rattle.tw_instance.proofs.Matrix.{linked_either}
use Rattle.tw_instance.proofs.instance.Instance.is_linked.Goals as goal

pub returns : goal.returns
returns c =
    let a = c.max.result in
    let b = c.min.result in
    c.are_joined.ensures ∙ (ap (λ m. cell (items m) a b) c.deref.ensures.value ∙ (c.self.invariant.adjacency.cells a b
    ∙ (ap (λ n. is_linked n.links a b) c.self.view_is
    ∙ linked_either c.args.self.now.links c.args.first c.args.second a b c.max.ensures c.min.ensures)))
