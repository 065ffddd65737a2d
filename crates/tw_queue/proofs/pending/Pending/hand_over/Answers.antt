use Rattle.std.proofs.Common.{◌==◌, drop, ap, sym, ◌∙◌, arith}
use Rattle.tw_ordered.proofs.Released.{length-filter-le, no_first_nothing, none_passes}
use Rattle.tw_queue.proofs.pending.Pending.hand_over.Goals as goal

pub loop-event-init : goal.loop-event-init
loop-event-init c = grind (arith, length-filter-le)

pub returns-clause-rest : goal.returns-clause-rest
returns-clause-rest c =
    let r = c.args.router in
    let taken = c.take_first_at.ensures in
    let nothing = no_first_nothing _ (sym taken.first ∙ c.in_default.is) in
    let gone = taken.own ∙ ap (drop 1) nothing in
    sym (none_passes (λ e. e.dst == r) c.take_first_at.new.self.events gone) ∙ taken.others ∙ c.loop-event.invariant.others
