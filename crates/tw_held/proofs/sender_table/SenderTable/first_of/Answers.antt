use Rattle.std.proofs.Common.{[], get_or, slice_get, sym, ap, ◌∙◌}
use Rattle.std.specs.Option.{option_copied}
use Rattle.tw_held.specs.Held.{sent_by}
use Rattle.tw_ordered.proofs.Keyed.{filter_key}
use Rattle.tw_held.proofs.sender_table.SenderTable.first_of.Goals as goal

pub returns-in_err-queue_of : goal.returns-in_err-queue_of
returns-in_err-queue_of c =
    let lists = c.self.inside.queues.items in
    let v = c.self.invariant in
    let r = c.args.router in
    let none = ap (λ xs. get_or xs r []) (sym c.deref.ensures.value) ∙ c.in_err-queue_of.ensures.none in
    let own = filter_key (λ e. e.src) lists v.placed r (v.rising r) in
    ap option_copied c.from_residual.ensures ∙ ap (λ xs. slice_get xs 0) (sym none ∙ sym own ∙ ap (sent_by r) c.self.view_is)

pub returns : goal.returns
returns c =
    let lists = c.self.inside.queues.items in
    let v = c.self.invariant in
    let r = c.args.router in
    let some = c.in_ok-queue_of.ensures.some ∙ ap (λ xs. get_or xs r []) c.deref.ensures.value in
    let own = filter_key (λ e. e.src) lists v.placed r (v.rising r) in
    c.first.ensures.first ∙ ap (λ xs. slice_get xs 0) (some ∙ sym own ∙ ap (sent_by r) c.self.view_is)
