use Rattle.std.proofs.Common.{◌≡◌, ◌∙◌, ◌==◌, [], ◌∷◌, ap, arith, length, sym, if◌then◌else◌}
use Rattle.std.proofs.lemmas.List.{length-map}
use Rattle.tw_instance.specs.Tables.{items}
use Rattle.tw_stable.proofs.Rows.{only_more, row_at}
use Rattle.tw_stable.proofs.lists.with_only.Goals as goal

pub loop-node-preserved : goal.loop-node-preserved
loop-node-preserved c =
    let lists = c.args.lists.now in
    let k = c.loop-node.node in
    let row = row_at lists k c.index-lists-node.result c.loop-node-test.true c.index-lists-node.is in
    let long : length (items lists) ≡ length lists = length-map lists (λ v. v.items) in
    let low = c.loop-node-test.true in
    only_more (items lists) c.args.router k c.args.path c.loop-node.with.items c.push.new.self.items c.in_ok-copy_or_only.field-0 (omega arith) c.in_ok-push.ensures.items
    (c.in_ok-copy_or_only.ensures ∙ ap (λ xs. if k == c.args.router then c.args.path ∷ [] else xs) (c.deref.ensures.value ∙ sym row)) c.loop-node.invariant
