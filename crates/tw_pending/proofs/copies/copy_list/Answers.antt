use Rattle.std.proofs.Common.{◌++◌, arith}
use Rattle.tw_pending.proofs.Copied.{where_ok}
use Rattle.tw_pending.proofs.copies.copy_list.Goals as goal

pub returns-clause-items : goal.returns-clause-items
returns-clause-items g c =
    let ok = c.extend_from_slice.ensures.succeeds (omega (arith, c.requires)) in
    where_ok c.extend_from_slice.result ok c.extend_from_slice.new.self.items (c.args.events.now.items ++ c.args.list.now) c.args.events.now.items c.extend_from_slice.ensures.items
