use Rattle.std.proofs.Common.{◌∙◌, ap, insert, nat_lt}
use Rattle.std.specs.List.{prefix_len}
use Rattle.tw_instance.proofs.Hops.{insert_hop}
use Rattle.tw_instance.proofs.tables.insert_reserved.Goals as goal

pub returns : goal.returns
returns c =
    let row = c.args.row.now.items in
    let hop = c.args.hop in
    let done = c.insert.ensures.succeeds c.requires in
    let put = rw done at c.insert.ensures.items in
    let index = c.count_below-index.ensures.value ∙ ap (λ r. prefix_len (λ h. nat_lt h.peer hop.peer) r) c.deref.ensures.value in
    put ∙ (ap (λ k. insert row k hop) index ∙ insert_hop hop row)
