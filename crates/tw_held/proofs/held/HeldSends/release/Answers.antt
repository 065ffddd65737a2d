use Rattle.std.proofs.Common.{◌==◌, drop, ap, sym, ◌∙◌}
use Rattle.tw_ordered.proofs.Released.{no_first_nothing, none_passes}
use Rattle.tw_held.proofs.held.HeldSends.release.Goals as goal

pub returns-clause-events : goal.returns-clause-events
returns-clause-events c =
    let r = c.args.router in
    let taken = c.take_first_of.ensures in
    let nothing = no_first_nothing _ (sym taken.first ∙ c.in_default.is) in
    let gone = taken.own ∙ ap (drop 1) nothing in
    sym (none_passes (λ e. e.src == r) c.take_first_of.new.self.events gone) ∙ taken.others ∙ c.loop-event.invariant.others
