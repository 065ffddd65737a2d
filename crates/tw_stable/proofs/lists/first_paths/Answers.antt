use Rattle.std.proofs.Common.{◌∙◌, ap, get_or, sym}
use Rattle.tw_elimination.specs.Narrowing.{list_at}
use Rattle.tw_instance.specs.Tables.{items}
use Rattle.tw_model.specs.Net.{empty_path}
use Rattle.tw_policy.specs.Search.{first_of}
use Rattle.tw_stable.proofs.Rows.{map_more, row_at}
use Rattle.tw_stable.proofs.lists.first_paths.Goals as goal

pub loop-paths-preserved : goal.loop-paths-preserved
loop-paths-preserved c =
    let lists = c.args.lists.now in
    let k = c.loop-paths.paths-index in
    let row = row_at lists k c.paths-item.result c.loop-paths-test.true c.paths-item.is in
    map_more (first_of (list_at (items lists))) k c.loop-paths.ribs.items c.push.new.self.items c.first_of.result c.in_ok-push.ensures.items
    (c.first_of.ensures ∙ ap (λ xs. get_or xs 0 empty_path) (c.deref.ensures.value ∙ sym row)) c.loop-paths.invariant
