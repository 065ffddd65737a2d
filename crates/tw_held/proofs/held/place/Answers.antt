use Rattle.std.proofs.Common.{◌++◌, ◌∷◌, [], ap, ◌∙◌}
use Rattle.tw_event.specs.Order.{event_before}
use Rattle.tw_sim.specs.Ordered.{insert_all}
use Rattle.tw_ordered.proofs.Spares.{insert_all_in, insert_all_more}
use Rattle.tw_held.proofs.held.place.Goals as goal

pub returns-then-insert-clause-ok : goal.returns-then-insert-clause-ok
returns-then-insert-clause-ok c =
    insert_all_in c.args.event c.args.spare.now.items c.args.table.now c.insert.new.self c.if-insert.ensures.added

pub returns-clause-ok : goal.returns-clause-ok
returns-clause-ok c =
    let e = c.args.event in
    let spare = c.args.spare.now.items in
    ap (λ xs. insert_all event_before xs c.insert.new.self) c.in_ok-push.ensures.items ∙ ap (insert_all event_before (spare ++ e ∷ [])) c.if-insert.ensures.same
    ∙ insert_all_more e spare c.args.table.now
