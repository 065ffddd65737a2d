use Rattle.std.proofs.Common.{◌==◌, [], filter, get_or, slice_get, sym, ap, ◌∙◌}
use Rattle.std.specs.Option.{option_copied}
use Rattle.tw_ordered.proofs.Keyed.{filter_key}
use Rattle.tw_queue.proofs.queue_table.QueueTable.first_at.Goals as goal

pub returns-in_err-queue_of : goal.returns-in_err-queue_of
returns-in_err-queue_of c =
    let lists = c.self.inside.queues.items in
    let v = c.self.invariant in
    let r = c.args.router in
    let none = ap (λ xs. get_or xs r []) (sym c.deref.ensures.value) ∙ c.in_err-queue_of.ensures.none in
    let same = filter_key (λ e. e.dst) lists v.placed r (v.rising r) in
    ap option_copied c.from_residual.ensures ∙ ap (λ xs. slice_get xs 0) (sym none ∙ sym same) ∙ ap (λ t. slice_get (filter (λ e. e.dst == r) t.events) 0) c.self.view_is

pub returns : goal.returns
returns c =
    let lists = c.self.inside.queues.items in
    let v = c.self.invariant in
    let r = c.args.router in
    let some = c.in_ok-queue_of.ensures.some ∙ ap (λ xs. get_or xs r []) c.deref.ensures.value in
    let same = filter_key (λ e. e.dst) lists v.placed r (v.rising r) in
    c.first.ensures.first ∙ ap (λ xs. slice_get xs 0) (some ∙ sym same) ∙ ap (λ t. slice_get (filter (λ e. e.dst == r) t.events) 0) c.self.view_is
