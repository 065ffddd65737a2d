use Rattle.std.proofs.Common.{◌≡◌, [], ap, sym, ◌∙◌, arith}
use Rattle.std.proofs.lemmas.Bool.{false≢true}
use Rattle.tw_event.specs.Order.{event_same}
use Rattle.tw_sim.specs.Ordered.{take_out, times}
use Rattle.tw_queue.proofs.Halves.{none_pending}
use Rattle.tw_queue.proofs.pending.Pending.remove_one.Goals as goal

none : (c : goal.Then-self-eq0) → c.args.self.now.events ≡ []
none c =
    let a = c.self.inside in
    let n = c.self.invariant.len in
    none_pending a.calendar a.rest.events c.args.self.now.events (ap (λ q. q.events) c.self.view_is) (omega (arith, c.if-self-eq0.true))

pub returns-then-self-eq0-clause-found : goal.returns-then-self-eq0-clause-found
returns-then-self-eq0-clause-found c =
    let z = ap (times event_same c.args.event.now) (none c) in
    (λ u. absurd (false≢true u), λ l. absurd (omega arith))

pub returns-then-self-eq0-clause-events : goal.returns-then-self-eq0-clause-events
returns-then-self-eq0-clause-events c = none c ∙ ap (take_out event_same c.args.event.now) (sym (none c))
