use Rattle.std.proofs.Common.{◌≡◌, ◌∙◌, ap, arith, false, length, sym, true}
use Rattle.std.proofs.lemmas.Bool.{le-ltb, lt-ltb}
use Rattle.tw_elimination.specs.Narrowing.{list_at}
use Rattle.tw_instance.specs.Tables.{items}
use Rattle.tw_policy.specs.Search.{has_choice}
use Rattle.tw_stable.proofs.Rows.{find_here, find_more, row_at}
use Rattle.tw_stable.proofs.lists.first_choice.Goals as goal

pub returns-then-as_slice-gt1 : goal.returns-then-as_slice-gt1
returns-then-as_slice-gt1 c =
    let lists = c.args.lists.now in
    let k = c.loop-node.node in
    let long = ap length (row_at lists k c.index-lists-node.result c.loop-node-test.true c.index-lists-node.is) ∙ ap length (sym c.as_slice.ensures.value) in
    let many = c.if-as_slice-gt1.true in
    let passes : has_choice (list_at (items lists)) k ≡ true = lt-ltb 1 (length (list_at (items lists) k)) (omega arith) in
    sym (find_here (has_choice (list_at (items lists))) k (length lists) c.loop-node-test.true passes) ∙ c.loop-node.invariant

pub loop-node-preserved : goal.loop-node-preserved
loop-node-preserved c =
    let lists = c.args.lists.now in
    let k = c.loop-node.node in
    let long = ap length (row_at lists k c.index-lists-node.result c.loop-node-test.true c.index-lists-node.is) ∙ ap length (sym c.as_slice.ensures.value) in
    let few = c.if-as_slice-gt1.false in
    let fails : has_choice (list_at (items lists)) k ≡ false = le-ltb 1 (length (list_at (items lists) k)) (omega arith) in
    sym (find_more (has_choice (list_at (items lists))) k (length lists) c.loop-node-test.true fails) ∙ c.loop-node.invariant
