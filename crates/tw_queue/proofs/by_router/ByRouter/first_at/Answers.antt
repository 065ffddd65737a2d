use Rattle.std.proofs.Common.{◌≡◌, ◌==◌, Bor, IfSome, None, Option, Some, filter, slice_get, ap, sym, subst, ◌∙◌, ℕ}
use Rattle.tw_event.specs.declared.event.Event.{Event}
use Rattle.std.specs.Option.{option_copied}
use Rattle.tw_ordered.specs.InOrder.{least_with}
use Rattle.tw_queue.specs.ByRouter.{room_of}
use Rattle.tw_ordered.specs.Queue.{IsQueue}
use Rattle.tw_ordered.proofs.Events.{home_of_first}
use Rattle.tw_ordered.proofs.Spares.{least_passing}
use Rattle.tw_queue.proofs.Wholes.{whole_queue}
use Rattle.tw_queue.proofs.by_router.ByRouter.first_at.Goals as goal

home_copied : (r : ℕ) (o : Option (Bor Event)) → IfSome (option_copied o) (λ e. e.dst ≡ r) → IfSome o (λ e. e.now.dst ≡ r)
home_copied r None h = tt
home_copied r (Some e) h = h

pub returns-clause-first : goal.returns-clause-first
returns-clause-first c =
    let a = c.self.inside in
    let r = c.args.router in
    let own = filter (λ e. e.dst == r) a.spare.items in
    c.least_for.ensures ∙ ap (λ xs. least_with (option_copied c.first_at.result) (filter (λ e. e.dst == r) xs)) c.deref.ensures.value ∙ ap (λ o. least_with o own) c.first_at.ensures
    ∙ least_passing (λ e. e.dst == r) a.spare.items a.table.events c.self.invariant.table.rising ∙ ap (λ q. slice_get (filter (λ e. e.dst == r) q.events) 0) c.self.view_is

pub returns-clause-queue : goal.returns-clause-queue
returns-clause-queue c =
    let a = c.self.inside in
    let v = c.self.invariant in
    subst IsQueue c.self.view_is (whole_queue a.routers (room_of a) a.table a.spare.items v.routers v.table v.spare)

pub returns-clause-home : goal.returns-clause-home
returns-clause-home c =
    home_copied c.args.router c.least_for.result
    (subst (λ o. IfSome o (λ e. e.dst ≡ c.args.router)) (sym (returns-clause-first c)) (home_of_first c.args.router c.args.self.now.events))
