use Rattle.std.proofs.Common.{◌==◌, length, ap, sym, ◌∙◌, arith}
use Rattle.tw_event.specs.Order.{event_before}
use Rattle.tw_sim.specs.Ordered.{insert_all}
use Rattle.tw_held.specs.Held.{sent_by}
use Rattle.tw_ordered.proofs.Released.{length-filter-insert_all, length-filter-le, no_length}
use Rattle.tw_held.proofs.held.HeldSends.count_of_sender.Goals as goal

pub returns-then-self-eq0 : goal.returns-then-self-eq0
returns-then-self-eq0 c =
    let none = no_length _ (sym (c.self.invariant.len) ∙ c.if-self-eq0.true) in
    ap (λ xs. length (sent_by c.args.router xs)) (sym none) ∙ ap (λ q. length (sent_by c.args.router q.events)) c.self.view_is

pub overflow_add-result : goal.overflow_add-result
overflow_add-result c =
    let a = c.self.inside in
    let r = c.args.router in
    let whole = insert_all event_before a.spare.items a.table in
    let spare = c.count_of.ensures ∙ ap (λ xs. length (sent_by r xs)) c.deref.ensures.value in
    let both = length-filter-insert_all (λ e. e.src == r) a.spare.items a.table in
    let few = length-filter-le (λ e. e.src == r) whole in
    let counted = c.self.invariant.len in
    let table = c.count_of-2.ensures in
    omega arith

pub returns : goal.returns
returns c =
    let a = c.self.inside in
    let r = c.args.router in
    let spare = c.count_of.ensures ∙ ap (λ xs. length (sent_by r xs)) c.deref.ensures.value in
    let both = length-filter-insert_all (λ e. e.src == r) a.spare.items a.table in
    let all = ap (λ q. length (sent_by r q.events)) c.self.view_is in
    let table = c.count_of-2.ensures in
    omega arith
