use Rattle.std.proofs.Common.{◌==◌, drop, refl, ap, sym, ◌∙◌, arith}
use Rattle.tw_event.specs.Order.{event_before}
use Rattle.tw_held.specs.Held.{sent_by}
use Rattle.tw_sim.specs.Ordered.{insert_all}
use Rattle.tw_ordered.proofs.Released.{no_first_nothing, none_passes}
use Rattle.tw_held.proofs.held.HeldSends.hand_over.Goals as goal

pub loop-sent-init : goal.loop-sent-init
loop-sent-init c =
    let r = c.args.router in
    let few = c.count_of_sender.ensures in
    let free = c.in_ok-reserve.ensures.ok in
    let events = c.reserve.ensures.events in
    record {
      places = omega arith;
      given = ap (λ es. insert_all event_before (sent_by r c.args.self.now.events) es) events;
      others = refl;
      routers = refl;
      to_routers = c.reserve.ensures.routers;
      room = omega arith;
    }

pub returns-clause-rest : goal.returns-clause-rest
returns-clause-rest c =
    let r = c.args.router in
    let taken = c.take_first_of.ensures in
    let nothing = no_first_nothing _ (sym taken.first ∙ c.in_default.is) in
    let gone = taken.own ∙ ap (drop 1) nothing in
    sym (none_passes (λ e. e.src == r) c.take_first_of.new.self.events gone) ∙ taken.others ∙ c.loop-sent.invariant.others
