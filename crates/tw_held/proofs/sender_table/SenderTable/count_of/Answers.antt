use Rattle.std.proofs.Common.{[], get_or, length, sym, ap, ◌∙◌}
use Rattle.tw_held.specs.Held.{sent_by}
use Rattle.tw_ordered.proofs.Keyed.{filter_key}
use Rattle.tw_held.proofs.sender_table.SenderTable.count_of.Goals as goal

pub returns-in-Some : goal.returns-in-Some
returns-in-Some c =
    let lists = c.self.inside.queues.items in
    let v = c.self.invariant in
    let r = c.args.router in
    let some = c.in-Some.ensures.some ∙ ap (λ xs. get_or xs r []) c.deref.ensures.value in
    let own = filter_key (λ e. e.src) lists v.placed r (v.rising r) in
    c.len.ensures ∙ ap (λ xs. length xs) (some ∙ sym own ∙ ap (sent_by r) c.self.view_is)

pub returns-in-None : goal.returns-in-None
returns-in-None c =
    let lists = c.self.inside.queues.items in
    let v = c.self.invariant in
    let r = c.args.router in
    let none = ap (λ xs. get_or xs r []) (sym c.deref.ensures.value) ∙ c.in-None.ensures.none in
    let own = filter_key (λ e. e.src) lists v.placed r (v.rising r) in
    ap (λ xs. length xs) (sym none ∙ sym own ∙ ap (sent_by r) c.self.view_is)
