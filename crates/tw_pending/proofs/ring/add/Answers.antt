use Rattle.std.proofs.Common.{◌++◌, ◌∷◌, [], set, ap, ◌∙◌}
use Rattle.tw_pending.specs.Ring.{lists_of}
use Rattle.tw_pending.proofs.Days.{day_is, lists_same, lists_set}
use Rattle.tw_pending.proofs.ring.add.Goals as goal

pub returns-then-is_err-clause-no : goal.returns-then-is_err-clause-no
returns-then-is_err-clause-no g c =
    lists_same c.args.days.now.items c.args.place c.reserve.new.self c.index_mut-day.result.now c.index_mut-day.ensures.value c.reserve.ensures.items

pub returns-clause-yes : goal.returns-clause-yes
returns-clause-yes g c = λ day there.
    let is = day_is c.args.days.now.items c.args.place c.index_mut-day.result.now day c.requires c.index_mut-day.ensures.value there in
    lists_set c.args.days.now.items c.args.place c.push_reserved.new.self
    ∙ ap (set (lists_of c.args.days.now.items) c.args.place) (c.push_reserved.ensures.items ∙ ap (λ xs. xs ++ c.args.event ∷ []) (c.reserve.ensures.items ∙ is))
