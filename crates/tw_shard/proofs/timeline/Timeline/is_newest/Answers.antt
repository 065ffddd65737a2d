use Rattle.std.proofs.Common.{ap, ◌∙◌}
use Rattle.std.proofs.lemmas.Bool.{OnTrue_at}
use Rattle.tw_core.specs.Steps.{is_newest}
use Rattle.tw_event.proofs.Order.{event_eq}
use Rattle.tw_model.specs.Case.{simulation}
use Rattle.tw_shard.specs.Timeline.{Timeline, history}
use Rattle.tw_shard.proofs.Queues.{newest_same}
use Rattle.tw_shard.proofs.Rings.{newest_otherwise}
use Rattle.tw_shard.proofs.timeline.Timeline.is_newest.Goals as goal

pub returns-in-Some : goal.returns-in-Some
returns-in-Some c = λ case.
    c.eq.ensures ∙ (event_eq c.args.event.now c.in-Some.newest.now ∙ newest_same case c.args.event.now c.in-Some.newest.now (history c.args.self.now) c.in-Some.ensures.value)

pub returns-then-ends_otherwise : goal.returns-then-ends_otherwise
returns-then-ends_otherwise c = λ case.
    let a = c.self.inside in
    newest_otherwise case c.args.event.now a.ahead a.past.events (OnTrue_at c.if-ends_otherwise.true c.ends_otherwise.ensures)
    ∙ ap (λ (t : Timeline). is_newest (simulation case) c.args.event.now (history t)) c.self.view_is
