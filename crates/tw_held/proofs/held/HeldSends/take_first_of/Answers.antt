use Rattle.std.proofs.Common.{◌≡◌, ◌<◌, ◌==◌, Some, slice_get, ap, sym, ◌∙◌}
use Rattle.std.specs.Option.{option_copied}
use Rattle.tw_held.specs.Held.{sent_by, sent_by_others}
use Rattle.tw_ordered.proofs.Released.{all_first, first_out, others_stay}
use Rattle.tw_held.proofs.held.HeldSends.take_first_of.Goals as goal

first_is : (c : goal.After-remove_one) → slice_get (sent_by c.args.router c.args.self.now.events) 0 ≡ Some c.in_ok-event.field-0.now
first_is c = sym c.first_of.ensures.first ∙ ap option_copied c.in_ok-event.was

pub returns-clause-own : goal.returns-clause-own
returns-clause-own c =
    let r = c.args.router in
    ap (sent_by r) c.remove_one.ensures.events ∙ first_out (λ e. e.src == r) c.in_ok-event.field-0.now c.args.self.now.events (first_is c)

pub returns-clause-others : goal.returns-clause-others
returns-clause-others c =
    let r = c.args.router in
    ap (sent_by_others r) c.remove_one.ensures.events ∙ others_stay (λ e. e.src == r) c.in_ok-event.field-0.now c.args.self.now.events (first_is c)

pub returns-clause-sender : goal.returns-clause-sender
returns-clause-sender c =
    let h = c.args.self.now in
    all_first (λ e. e.src == c.args.router) (λ e. e.src < h.routers) c.in_ok-event.field-0.now h.events c.first_of.ensures.held.senders (first_is c)
