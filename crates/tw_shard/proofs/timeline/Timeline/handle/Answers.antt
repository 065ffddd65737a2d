use Rattle.std.proofs.Common.{◌≡◌, ◌++◌, true, map, ap, sym, subst, ◌∙◌}
use Rattle.tw_core.specs.Steps.{still_held, to_send}
use Rattle.tw_handlers.specs.Record.{IsHandled}
use Rattle.tw_model.specs.Case.{simulation}
use Rattle.tw_model.specs.Effect.{effect}
use Rattle.tw_model.specs.State.{Router}
use Rattle.tw_shard.specs.Timeline.{IsTimeline, Timeline, history, sends_after, signed, timeline_of}
use Rattle.tw_shard.proofs.timeline.Timeline.handle.Goals as goal

-- what was written is what the event sends
sent : (c : goal.After-send_unheld) → c.deref.result.now ≡ sends_after (timeline_of c.self.inside) (history (timeline_of c.self.inside)) c.args.event.now
sent c =
    let router = c.self.inside.router in
    let e = c.args.event.now in
    c.deref.ensures
    ∙ (c.in_ok-note.ensures.sends
    ∙ (ap (λ xs. xs ++ (effect router.net router.node router.state e).sends) c.empty.ensures
    ∙ ap (λ s. (effect router.net router.node s e).sends) c.self.invariant.state))

pub returns-clause-sends : goal.returns-clause-sends
returns-clause-sends c =
    let t = timeline_of c.self.inside in
    let held = c.args.held.now.events in
    c.send_unheld.ensures.sends t.case
    ∙ ((λ i. c.in_default.ensures.messages i ++ map (signed true) (to_send (simulation t.case) (sent c i) held))
    ∙ ap (λ (t : Timeline). c.args.outgoing.now.items ++ map (signed true) (to_send (simulation t.case) (sends_after t (history t) c.args.event.now) held)) c.self.view_is)

pub returns-clause-held : goal.returns-clause-held
returns-clause-held c =
    let t = timeline_of c.self.inside in
    let held = c.args.held.now.events in
    c.send_unheld.ensures.held t.case
    ∙ (ap (λ xs. still_held (simulation t.case) xs held) (sent c)
    ∙ ap (λ (t : Timeline). still_held (simulation t.case) (sends_after t (history t) c.args.event.now) held) c.self.view_is)

-- the router that was taken back is as it was
router_back : (c : goal.After-from) → c.take_back.new.router ≡ c.self.inside.router
router_back c =
    let a = c.self.inside in
    let e = c.args.event.now in
    let state = c.in_ok-note.ensures.state in
    let came = subst (λ (r : Router). IsHandled r.net r.node a.router.state e c.in_ok-note.note c.handle_fitting.new.router.state) (sym state) c.in_ok-note.ensures.handled in
    c.take_back.ensures a.router.state came ∙ ap (λ (r : Router). record r { state = a.router.state }) state

pub invariant_of-self-in-Err : goal.invariant_of-self-in-Err
invariant_of-self-in-Err c =
    let a = c.self.inside in
    subst (λ (r : Router). IsTimeline (record { router = r; past = a.past; ahead = c.add_step.new.ahead; room = a.room; past_change = a.past_change })) (sym (router_back c))
    (subst (λ steps. IsTimeline (record { router = a.router; past = a.past; ahead = steps; room = a.room; past_change = a.past_change })) (sym c.in-Err.ensures.err) c.self.invariant)

pub returns-in-Err-clause-err : goal.returns-in-Err-clause-err
returns-in-Err-clause-err c =
    let a = c.self.inside in
    (λ i. timeline_of (record { router = router_back c i; past = a.past; ahead = c.in-Err.ensures.err i; room = a.room; past_change = a.past_change })) ∙ c.self.view_is
