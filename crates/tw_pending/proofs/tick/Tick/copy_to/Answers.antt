use Rattle.std.proofs.Common.{◌++◌, append-nil, length, ap, sym, ◌∙◌, arith}
use Rattle.tw_pending.proofs.Removed.{from_place}
use Rattle.tw_pending.proofs.tick.Tick.copy_to.Goals as goal

pub returns-then-is_over-clause-items : goal.returns-then-is_over-clause-items
returns-then-is_over-clause-items g c = sym (append-nil c.args.events.now.items) ∙ ap (λ xs. c.args.events.now.items ++ xs) (sym c.if-is_over.ensures.yes)

pub returns-then-is_over-clause-len : goal.returns-then-is_over-clause-len
returns-then-is_over-clause-len g c = let none = ap length c.if-is_over.ensures.yes in omega arith

pub copy_list-requires : goal.copy_list-requires
copy_list-requires g c =
    let a = c.self.inside in
    let same = ap length (from_place a.taken c.deref.result.now a.events.items c.deref.ensures.value) in
    let seen = ap length c.self.view_is in
    omega (arith, c.requires)

pub returns-clause-items : goal.returns-clause-items
returns-clause-items g c =
    let a = c.self.inside in
    c.copy_list.ensures.items ∙ ap (λ xs. c.args.events.now.items ++ xs) (from_place a.taken c.deref.result.now a.events.items c.deref.ensures.value ∙ c.self.view_is)

pub returns-clause-len : goal.returns-clause-len
returns-clause-len g c =
    let a = c.self.inside in
    let same = ap length (from_place a.taken c.deref.result.now a.events.items c.deref.ensures.value) in
    let seen = ap length c.self.view_is in
    omega (arith, c.copy_list.ensures.len)
