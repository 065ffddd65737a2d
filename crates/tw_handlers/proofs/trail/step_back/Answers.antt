use Rattle.std.proofs.Common.{◌≡◌, ◌-◌, ◌++◌, List, [], ◌∷◌, length, take, ap, sym, ◌∙◌, arith}
use Rattle.std.proofs.lemmas.List.{take-map}
use Rattle.tw_event.specs.declared.event.Event.{Event}
use Rattle.tw_handlers.specs.declared.trail.Done.{Done}
use Rattle.tw_handlers.specs.Trail.{handled_events, history_of, state_at_start}
use Rattle.tw_handlers.proofs.Leading.{IsTrail-pop, before_last, handled-last, history-pop, sends-pop, split-last}
use Rattle.tw_handlers.proofs.trail.step_back.Goals as goal

pub undo-requires-clause-handled : goal.undo-requires-clause-handled
undo-requires-clause-handled c =
    let router = c.args.router.now in
    let steps = c.args.steps.now.items in
    let n = c.len-last.result - 1 in
    let split : steps ≡ take n steps ++ c.index.result.now ∷ [] = split-last steps n c.index.result.now (omega arith) c.index.ensures in
    let handled = handled-last router steps (take n steps) c.index.result.now split c.requires.trail in
    (before_last router steps (take n steps), handled)

pub returns-clause-trail : goal.returns-clause-trail
returns-clause-trail c =
    let router = c.args.router.now in
    let steps = c.args.steps.now.items in
    let n = c.len-last.result - 1 in
    let split : steps ≡ take n steps ++ c.index.result.now ∷ [] = split-last steps n c.index.result.now (omega arith) c.index.ensures in
    let handled = handled-last router steps (take n steps) c.index.result.now split c.requires.trail in
    IsTrail-pop router c.undo.new.router steps (take n steps) c.truncate.new.self.items c.index.result.now split c.requires.trail
    (c.in_ok-undo.ensures.state (before_last router steps (take n steps)) handled) c.truncate.ensures.items

pub returns-clause-ok : goal.returns-clause-ok
returns-clause-ok c =
    let router = c.args.router.now in
    let steps = c.args.steps.now.items in
    let n = c.len-last.result - 1 in
    let split : steps ≡ take n steps ++ c.index.result.now ∷ [] = split-last steps n c.index.result.now (omega arith) c.index.ensures in
    let handled = handled-last router steps (take n steps) c.index.result.now split c.requires.trail in
    let events : handled_events (take n steps) ≡ take (length steps - 1) (handled_events steps) =
    sym (take-map (λ (d : Done). d.event) n steps) ∙ ap (λ k. take k (handled_events steps)) (omega arith) in
    history-pop router c.undo.new.router steps (take n steps) c.truncate.new.self.items c.index.result.now split c.requires.trail
    (c.in_ok-undo.ensures.state (before_last router steps (take n steps)) handled) c.truncate.ensures.items
    ∙ ap (λ (es : List Event). record (history_of router steps) { events = es }) events

pub returns-clause-sends : goal.returns-clause-sends
returns-clause-sends c =
    let router = c.args.router.now in
    let steps = c.args.steps.now.items in
    let n = c.len-last.result - 1 in
    let split : steps ≡ take n steps ++ c.index.result.now ∷ [] = split-last steps n c.index.result.now (omega arith) c.index.ensures in
    let handled = handled-last router steps (take n steps) c.index.result.now split c.requires.trail in
    let s = state_at_start router.net router.node router.state steps in
    c.in_ok-undo.ensures.sends (before_last router steps (take n steps)) handled
    ∙ ap (λ (es : List Event). c.args.sends.now.items ++ es) (sends-pop router.net router.node s steps (take n steps) c.index.result.now split)
