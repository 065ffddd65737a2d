use Rattle.std.proofs.Common.{◌≡◌, ◌==◌, ◌∙◌, ap, arith, false, length, sym, true}
use Rattle.std.proofs.lemmas.Bool.{both_ways, eq-eqb, eqb-true, le-ltb, lt-ltb}
use Rattle.tw_elimination.specs.Narrowing.{list_at}
use Rattle.tw_instance.specs.Tables.{items}
use Rattle.tw_policy.specs.Search.{has_any}
use Rattle.tw_stable.proofs.Rows.{all_fails, all_more, row_at}
use Rattle.tw_stable.proofs.lists.have_all.Goals as goal

pub returns-then-is_empty : goal.returns-then-is_empty
returns-then-is_empty c =
    let lists = c.args.lists.now in
    let k = c.loop-paths.paths-index in
    let long = ap length (row_at lists k c.paths-item.result c.loop-paths-test.true c.paths-item.is) ∙ ap length (sym c.as_slice.ensures.value) in
    let none : length c.as_slice.result.now ≡ 0 = eqb-true (length c.as_slice.result.now) 0 (sym c.is_empty.ensures ∙ c.if-is_empty.true) in
    let fails : has_any (list_at (items lists)) k ≡ false = le-ltb 0 (length (list_at (items lists) k)) (omega arith) in
    sym (all_fails (has_any (list_at (items lists))) k (length lists) c.loop-paths-test.true fails) ∙ c.loop-paths.invariant

pub loop-paths-preserved : goal.loop-paths-preserved
loop-paths-preserved c =
    let lists = c.args.lists.now in
    let k = c.loop-paths.paths-index in
    let long = ap length (row_at lists k c.paths-item.result c.loop-paths-test.true c.paths-item.is) ∙ ap length (sym c.as_slice.ensures.value) in
    let some : (length c.as_slice.result.now ≡ 0) → ⊥ = λ e. both_ways (length c.as_slice.result.now == 0) (sym c.is_empty.ensures ∙ c.if-is_empty.false) (eq-eqb (length c.as_slice.result.now) 0 e) in
    let passes : has_any (list_at (items lists)) k ≡ true = lt-ltb 0 (length (list_at (items lists) k)) (omega arith) in
    sym (all_more (has_any (list_at (items lists))) k (length lists) c.loop-paths-test.true passes) ∙ c.loop-paths.invariant
