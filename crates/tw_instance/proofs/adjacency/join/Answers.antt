use Rattle.std.proofs.Common.{arith}
use Rattle.tw_instance.proofs.Matrix.{joined_items, row_wide, second_wide}
use Rattle.tw_instance.proofs.adjacency.join.Goals as goal

pub set-requires : goal.set-requires
set-requires c =
    let wide = row_wide c.args.rows.now c.args.first c.index-rows-first.result c.requires.first c.requires.square in
    let within = c.requires.second in
    omega arith

pub set-requires-2 : goal.set-requires-2
set-requires-2 c =
    let wide = second_wide c.args.rows.now c.args.first c.args.second c.set.new.row c.index-rows-first.result c.index-rows-second.result c.requires.first c.requires.second c.requires.square c.set.ensures in
    let within = c.requires.first in
    omega arith

pub returns : goal.returns
returns c =
    joined_items c.args.rows.now c.args.first c.args.second c.set.new.row c.set-2.new.row c.index-rows-first.result c.index-rows-second.result
    c.requires.first c.requires.second c.set.ensures c.set-2.ensures
