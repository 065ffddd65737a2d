use Rattle.std.proofs.Common.{◌≡◌, ◌++◌, ◌-◌, OnOk, drop, length, take, ap, sym, ◌∙◌, subst}
use Rattle.std.proofs.lemmas.List.{drop-map}
use Rattle.tw_calendar.specs.Update.{event_at, events_at}
use Rattle.tw_calendar.proofs.Updates.{take_rest}
use Rattle.tw_calendar.proofs.tick.Tick.append_from.Goals as goal

pub returns : goal.returns
returns c =
    let a = c.self.inside in
    subst (λ xs. OnOk c.append_at.result (c.append_at.new.events.items ≡ c.args.events.now.items ++ xs))
    (ap (λ us. events_at a.time (take (length us - c.args.start) (drop c.args.start us))) c.deref.ensures.value ∙ ap (events_at a.time) (take_rest c.args.start a.updates.items) ∙ sym (drop-map (event_at a.time) c.args.start a.updates.items) ∙ ap (drop c.args.start) c.self.view_is)
    c.append_at.ensures
