use Rattle.std.proofs.Common.{refl}
use Rattle.tw_instance.proofs.Rows.{items-push, items_same, on_err}
use Rattle.tw_instance.proofs.tables.push_path.Goals as goal

pub returns-in_err-reserve-clause-err : goal.returns-in_err-reserve-clause-err
returns-in_err-reserve-clause-err c =
    on_err c.from_residual.result _ (items_same c.args.numbers.now c.args.node c.reserve.new.self c.index-numbers-node.result c.in_err-reserve.ensures.items, refl)

pub returns-in_err-reserve-2-clause-err : goal.returns-in_err-reserve-2-clause-err
returns-in_err-reserve-2-clause-err c =
    on_err c.from_residual-in_err-reserve-2.result _ (
      items_same c.args.numbers.now c.args.node c.reserve.new.self c.index-numbers-node.result c.in_ok-reserve.ensures.items,
      items_same c.args.hashes.now c.args.node c.reserve-2.new.self c.index-hashes-node.result c.in_err-reserve-2.ensures.items,
    )

pub returns-clause-numbers : goal.returns-clause-numbers
returns-clause-numbers c =
    items-push c.args.numbers.now c.args.node c.reserve.new.self c.push_reserved.new.self c.index-numbers-node.result c.index-numbers-node-2.result c.args.number c.requires.number
    c.in_ok-reserve.ensures.items c.push_reserved.ensures.items

pub returns-clause-hashes : goal.returns-clause-hashes
returns-clause-hashes c =
    items-push c.args.hashes.now c.args.node c.reserve-2.new.self c.push_reserved-2.new.self c.index-hashes-node.result c.index-hashes-node-2.result c.args.hash c.requires.hash
    c.in_ok-reserve-2.ensures.items c.push_reserved-2.ensures.items
