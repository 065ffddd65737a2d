use Rattle.std.proofs.Common.{◌≡◌, ◌-◌, length, take, sym, subst, ◌∙◌}
use Rattle.std.specs.Io.KnownBytes.{Appends}
use Rattle.std.specs.List.{All}
use Rattle.tw_commands.proofs.Undoing.{event_named, last_fits_router, last_sends, own_after, sends_named}
use Rattle.tw_commands.specs.Trail.{undo_lines}
use Rattle.tw_model.specs.Effect.{effect}
use Rattle.tw_model.specs.History.{state_after}
use Rattle.tw_model.proofs.Suits.{IsOwnState, own_opening}
use Rattle.tw_report.specs.Lines.{NamesPath}
use Rattle.tw_commands.proofs.trail_page.undo_last.Goals as goal

pub put_undo-requires-clause-event : goal.put_undo-requires-clause-event
put_undo-requires-clause-event c =
    let fit = last_fits_router c.args.instance.now c.args.trail.now.opening.node c.args.trail.now.events _ c.args.event.now c.requires.last c.requires.fits in
    event_named c.args.instance.now c.args.trail.now.opening.node c.args.event.now fit

pub put_undo-requires-clause-sends : goal.put_undo-requires-clause-sends
put_undo-requires-clause-sends c =
    let net = c.args.instance.now in
    let t = c.args.trail.now in
    let older = take (length t.events - 1) t.events in
    let sent = (effect net t.opening.node (state_after net t.opening.node t.opening.state older) c.args.event.now).sends in
    let fit = last_fits_router net t.opening.node t.events older c.args.event.now c.requires.last c.requires.fits in
    let own : IsOwnState net t.opening.node t.opening.state = subst (λ s. IsOwnState net t.opening.node s) (sym c.requires.opening) (own_opening net t.opening.node) in
    let named = sends_named net t.opening.node (state_after net t.opening.node t.opening.state older) c.args.event.now (own_after net t.opening.node t.opening.state older own) fit in
    let same : c.deref.result.now ≡ sent =
    c.deref.ensures
    ∙ last_sends t.opening.net net t.opening.node t.opening.state t.events older c.new-sends.result.items c.undo_to.new.sends.items c.args.event.now c.len.result
    c.requires.own c.requires.last c.len.ensures c.new-sends.ensures.items c.in_ok-undo_to.ensures.sends in
    subst (λ xs. All (λ x. NamesPath net x.body) xs) (sym same) named

pub returns-clause-lines : goal.returns-clause-lines
returns-clause-lines c =
    let net = c.args.instance.now in
    let t = c.args.trail.now in
    let older = take (length t.events - 1) t.events in
    let sent = (effect net t.opening.node (state_after net t.opening.node t.opening.state older) c.args.event.now).sends in
    let same : c.deref.result.now ≡ sent =
    c.deref.ensures
    ∙ last_sends t.opening.net net t.opening.node t.opening.state t.events older c.new-sends.result.items c.undo_to.new.sends.items c.args.event.now c.len.result
    c.requires.own c.requires.last c.len.ensures c.new-sends.ensures.items c.in_ok-undo_to.ensures.sends in
    subst (λ xs. Appends c.args.page.now.written c.put_undo.new.sink.written (undo_lines net c.args.event.now xs)) same c.in_ok-put_undo.ensures.0
