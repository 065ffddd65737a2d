use Rattle.std.proofs.Common.{slice_get, ap, sym, ◌∙◌}
use Rattle.std.specs.Option.{option_copied}
use Rattle.tw_ordered.specs.InOrder.{least_with}
use Rattle.tw_ordered.proofs.Released.{no_length}
use Rattle.tw_ordered.proofs.Spares.{least_whole}
use Rattle.tw_held.proofs.held.HeldSends.least.Goals as goal

pub returns-then-self-eq0 : goal.returns-then-self-eq0
returns-then-self-eq0 c =
    let none = no_length _ (sym (c.self.invariant.len) ∙ c.if-self-eq0.true) in
    ap (λ xs. slice_get xs 0) (sym none) ∙ ap (λ q. slice_get q.events 0) c.self.view_is

pub returns : goal.returns
returns c =
    let a = c.self.inside in
    c.soonest_of.ensures ∙ ap (least_with (option_copied c.least.result)) c.deref.ensures.value ∙ ap (λ o. least_with o a.spare.items) c.least.ensures
    ∙ least_whole a.spare.items a.table ∙ ap (λ q. slice_get q.events 0) c.self.view_is
