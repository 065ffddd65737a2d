use Rattle.std.proofs.Common.{◌≡◌, ◌-◌, ◌≤◌, true, List, ◌++◌, [], ◌∷◌, refl, length, reverse, take, ap, sym, ◌∙◌, subst, arith}
use Rattle.std.specs.Option.{option_copied}
use Rattle.tw_core.specs.Steps.{held_back, sent_back}
use Rattle.tw_handlers.specs.Record.{IsHandled}
use Rattle.tw_model.specs.Case.{simulation}
use Rattle.tw_model.specs.Effect.{effect, fits}
use Rattle.tw_model.specs.Rules.{IsNet}
use Rattle.tw_event.specs.declared.event.Event.{Event}
use Rattle.tw_model.specs.State.{Router, State}
use Rattle.tw_held.specs.Held.{AreFrom}
use Rattle.tw_shard.specs.Timeline.{AreNoted, IsTimeline, Timeline, events_of, known, sends_after}
use Rattle.tw_shard.specs.declared.timeline.HandledEvent.{HandledEvent}
use Rattle.tw_shard.proofs.Histories.{few_sends, newest_first, newest_noted, sends_from}
use Rattle.tw_shard.proofs.Rings.{last_is}
use Rattle.tw_shard.proofs.timeline.Timeline.undo.Goals as goal

pub undo-requires-clause-handled : goal.undo-requires-clause-handled
undo-requires-clause-handled c =
    let a = c.self.inside in
    let older = take (length a.ahead - 1) a.ahead in
    let d = c.unwrap.result.now in
    let split = last_is a.ahead d (sym c.last.ensures ∙ ap option_copied c.unwrap.ensures) in (
      known a.router.net a.router.node (events_of (reverse older) ++ a.past.events),
      newest_noted a.router.net a.router.node a.past.events a.ahead older d a.router.state split c.self.invariant.noted c.self.invariant.state,
    )

-- what is to be taken back is at most 64 events, each from a router of the net
told : (c : goal.After-call_back-arg-2-1) → (length c.deref.result.now ≤ 64) × AreFrom c.self.inside.router.net.nodes c.deref.result.now
told c =
    let a = c.self.inside in
    let older = take (length a.ahead - 1) a.ahead in
    let d = c.unwrap.result.now in
    let split = last_is a.ahead d (sym c.last.ensures ∙ ap option_copied c.unwrap.ensures) in
    let before = known a.router.net a.router.node (events_of (reverse older) ++ a.past.events) in
    let came = newest_noted a.router.net a.router.node a.past.events a.ahead older d a.router.state split c.self.invariant.noted c.self.invariant.state in
    let sends = (effect a.router.net a.router.node before d.event).sends in
    let sent : c.deref.result.now ≡ sends = c.deref.ensures ∙ (c.in_ok-undo.ensures.sends before came ∙ ap (λ xs. xs ++ sends) c.clear.ensures.items) in
    let net = subst (λ (t : Timeline). IsNet t.net) (sym c.self.view_is) c.requires.net in
    subst (λ xs. (length xs ≤ 64) × AreFrom a.router.net.nodes xs) (sym sent)
    (few_sends a.router.net a.router.node before d.event net, sends_from a.router.net a.router.node before d.event net came.fits)

pub call_back-requires-clause-room : goal.call_back-requires-clause-room
call_back-requires-clause-room c = λ at_once. let count = (told c).0 in let room = c.in_ok-make_room.ensures.room at_once in omega arith

pub call_back-requires-clause-space : goal.call_back-requires-clause-space
call_back-requires-clause-space c = λ late. let count = (told c).0 in let room = c.in_ok-make_room.ensures.held late in omega arith

pub call_back-requires-clause-senders : goal.call_back-requires-clause-senders
call_back-requires-clause-senders c =
    let count = c.in_ok-make_room.ensures.routers ∙ (c.requires.routers ∙ ap (λ (t : Timeline). t.net.nodes) (sym c.self.view_is)) in
    subst (λ n. AreFrom n c.deref.result.now) (sym count) (told c).1

-- the steps without the newest one
abbrev older : goal.After-result-1 → List HandledEvent
older c = take (length c.self.inside.ahead - 1) c.self.inside.ahead

split : (c : goal.After-result-1) → c.self.inside.ahead ≡ older c ++ c.unwrap.result.now ∷ []
split c = last_is c.self.inside.ahead c.unwrap.result.now (sym c.last.ensures ∙ ap option_copied c.unwrap.ensures)

-- what the router knew before it
abbrev before : goal.After-result-1 → State
before c = known c.self.inside.router.net c.self.inside.router.node (events_of (reverse (older c)) ++ c.self.inside.past.events)

came : (c : goal.After-result-1) → IsHandled c.self.inside.router.net c.self.inside.router.node (before c) c.unwrap.result.now.event c.unwrap.result.now.note c.self.inside.router.state
came c =
    let a = c.self.inside in
    newest_noted a.router.net a.router.node a.past.events a.ahead (older c) c.unwrap.result.now a.router.state (split c) c.self.invariant.noted c.self.invariant.state

-- what it had sent
abbrev had_sent : goal.After-result-1 → List Event
had_sent c = (effect c.self.inside.router.net c.self.inside.router.node (before c) c.unwrap.result.now.event).sends

sent : (c : goal.After-result-1) → c.deref.result.now ≡ had_sent c
sent c = c.deref.ensures ∙ (c.in_ok-undo.ensures.sends (before c) (came c) ∙ ap (λ xs. xs ++ had_sent c) c.clear.ensures.items)

pub invariant_of-self-2 : goal.invariant_of-self-2
invariant_of-self-2 c =
    let a = c.self.inside in
    let is = c.self.invariant in
    let noted = subst (AreNoted a.router.net a.router.node a.past.events) (newest_first a.ahead (older c) c.unwrap.result.now (split c)) is.noted in
    subst (λ (r : Router). IsTimeline (record { router = r; past = a.past; ahead = c.drop_last.new.self; room = a.room; past_change = a.past_change }))
    (sym (c.in_ok-undo.ensures.state (before c) (came c)))
    (subst (λ (l : List HandledEvent). IsTimeline (record { router = record a.router { state = before c }; past = a.past; ahead = l; room = a.room; past_change = a.past_change }))
    (sym c.drop_last.ensures)
    (record { state = refl; noted = noted.1; past = is.past; change = is.change; node = is.node; is_case = is.is_case }))

pub returns-clause-ok : goal.returns-clause-ok
returns-clause-ok c =
    let a = c.self.inside in
    let d = c.unwrap.result.now in
    let left = events_of (reverse (older c)) in
    let m = simulation a.past.case in
    let room = c.in_ok-make_room.ensures in
    let router = c.in_ok-undo.ensures.state (before c) (came c) in (
      left,
      ap (λ (t : Timeline). t.ahead) (sym c.self.view_is) ∙ ap events_of (newest_first a.ahead (older c) d (split c)),
      (λ i. record {
        net = (router i).net;
        node = (router i).node;
        ahead = events_of (reverse (c.drop_last.ensures i));
        past = a.past.events;
        done = a.past.done;
        room = a.room;
        case = a.past.case;
        retains = a.past.retains;
      })
          ∙ ap (λ (t : Timeline). record t { ahead = left }) c.self.view_is,
      c.call_back.ensures.outgoing a.past.case
          ∙ ((λ i. room.messages i ++ sent_back m c.args.cancel (sent c i))
          ∙ ap (λ (t : Timeline). c.args.outgoing.now.items ++ sent_back (simulation t.case) c.args.cancel (sends_after t (left ++ t.past) d.event)) c.self.view_is),
      c.call_back.ensures.held a.past.case
          ∙ ((λ i. held_back m c.args.cancel (sent c i) (room.events i))
          ∙ ap (λ (t : Timeline). held_back (simulation t.case) c.args.cancel (sends_after t (left ++ t.past) d.event) c.args.held.now.events) c.self.view_is),
    )

pub returns-clause-fits : goal.returns-clause-fits
returns-clause-fits c =
    subst (λ (t : Timeline). fits t.net t.node c.unwrap.result.now.event ≡ true) c.self.view_is (came c).fits
