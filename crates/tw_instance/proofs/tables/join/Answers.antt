use Rattle.std.proofs.Common.{◌∙◌}
use Rattle.tw_instance.proofs.Rows.{items-join, items_same, on_err}
use Rattle.tw_instance.proofs.tables.join.Goals as goal

pub returns-in_err-reserve-clause-err : goal.returns-in_err-reserve-clause-err
returns-in_err-reserve-clause-err c =
    on_err c.from_residual.result _ (items_same c.args.rows.now c.args.link.now.first c.reserve.new.self c.index-rows-first.result c.in_err-reserve.ensures.items)

pub returns-in_err-reserve-2-clause-err : goal.returns-in_err-reserve-2-clause-err
returns-in_err-reserve-2-clause-err c =
    on_err c.from_residual-in_err-reserve-2.result _
    (items_same _ c.args.link.now.second c.reserve-2.new.self c.index-rows-second.result c.in_err-reserve-2.ensures.items
    ∙ items_same c.args.rows.now c.args.link.now.first c.reserve.new.self c.index-rows-first.result c.in_ok-reserve.ensures.items)

pub returns-clause-ok : goal.returns-clause-ok
returns-clause-ok c =
    items-join c.args.rows.now c.args.link.now c.reserve.new.self c.reserve-2.new.self c.insert_reserved.new.row c.insert_reserved-2.new.row
    c.index-rows-first.result c.index-rows-second.result c.index-rows-first-2.result c.index-rows-second-2.result
    c.requires.first c.requires.second c.requires.apart
    c.in_ok-reserve.ensures.items c.in_ok-reserve-2.ensures.items c.insert_reserved.ensures c.insert_reserved-2.ensures
