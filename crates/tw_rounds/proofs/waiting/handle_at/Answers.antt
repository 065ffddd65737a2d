use Rattle.std.proofs.Common.{◌≡◌, true, drop, get_or, set, ap, ◌∙◌, subst}
use Rattle.std.proofs.lemmas.Option.{slice_get-get_or}
use Rattle.std.specs.Result.{IsErrOf}
use Rattle.tw_engine.specs.Process.{handled_in_turn}
use Rattle.tw_pending.specs.Order.{is_before}
use Rattle.tw_process.specs.Behaviour.{simulation_of}
use Rattle.tw_process.specs.declared.refused.Refused.TheVariants.{CounterFull}
use Rattle.tw_rounds.proofs.Lists.{on_err, on_ok}
use Rattle.tw_rounds.specs.Members.{Mailed}
use Rattle.tw_sim.specs.Ordered.{insert_all}
use Rattle.tw_sim.specs.Simulation.{state}
use Rattle.tw_rounds.proofs.waiting.handle_at.Goals as goal

pub returns-clause-ok : goal.returns-clause-ok
returns-clause-ok g c =
    let sim = λ (model : g.row.M.Denot). simulation_of g.M.Event.Timed.parts g.M.Event.Ord.cmp (g.M.ProcessModel.behaviour model) in
    let xs = c.args.members.now in
    let read = c.index-members-number.result in
    let here = slice_get-get_or xs c.args.number read c.requires.here in
    on_ok c.handle_in_turn.result (λ became x at. (
    let same : get_or xs c.args.number read ≡ x = cc (here, at) in
    ap (set xs c.args.number) (became ∙ ap (λ (z : Mailed _ _). record z { process = handled_in_turn (sim z.process.model) c.args.event.now z.process }) same))) c.handle_in_turn.ensures.ok

pub returns-clause-err : goal.returns-clause-err
returns-clause-err g c =
    let xs = c.args.members.now in
    let read = c.index-members-number.result in
    let here = slice_get-get_or xs c.args.number read c.requires.here in
    on_err c.handle_in_turn.result (λ became x at. (
    let same : get_or xs c.args.number read ≡ x = cc (here, at) in
    ap (set xs c.args.number) (became ∙ same))) c.handle_in_turn.ensures.err

pub returns-clause-pending : goal.returns-clause-pending
returns-clause-pending g c =
    let sim = λ (model : g.row.M.Denot). simulation_of g.M.Event.Timed.parts g.M.Event.Ord.cmp (g.M.ProcessModel.behaviour model) in
    let xs = c.args.members.now in
    let read = c.index-members-number.result in
    let here = slice_get-get_or xs c.args.number read c.requires.here in
    on_ok c.handle_in_turn.result (λ became x at. (
    let same : get_or xs c.args.number read ≡ x = cc (here, at) in
    became ∙ ap (λ (z : Mailed _ _). let m = sim z.process.model in
    insert_all (is_before g.M.Event.Ord.cmp) (m.sends (state m z.process.number z.process.past) c.args.event.now) (drop 1 c.args.pending.now)) same)) c.handle_in_turn.ensures.pending

pub returns-clause-full : goal.returns-clause-full
returns-clause-full g c = λ x at.
    let sim = λ (model : g.row.M.Denot). simulation_of g.M.Event.Timed.parts g.M.Event.Ord.cmp (g.M.ProcessModel.behaviour model) in
    let xs = c.args.members.now in
    let read = c.index-members-number.result in
    let here = slice_get-get_or xs c.args.number read c.requires.here in
    let same : get_or xs c.args.number read ≡ x = cc (here, at) in
    subst (λ (z : Mailed _ _). let m = sim z.process.model in IsErrOf c.handle_in_turn.result CounterFull → m.full (state m z.process.number z.process.past) c.args.event.now ≡ true) same
    c.handle_in_turn.ensures.full

pub handle_in_turn-requires-clause-settled : goal.handle_in_turn-requires-clause-settled
handle_in_turn-requires-clause-settled g c =
    let xs = c.args.members.now in
    let read = c.index-members-number.result in
    c.requires.settled (get_or xs c.args.number read) (slice_get-get_or xs c.args.number read c.requires.here)

pub handle_in_turn-requires-clause-own : goal.handle_in_turn-requires-clause-own
handle_in_turn-requires-clause-own g c =
    let xs = c.args.members.now in
    let read = c.index-members-number.result in
    c.requires.own (get_or xs c.args.number read) (slice_get-get_or xs c.args.number read c.requires.here)

pub handle_in_turn-requires-clause-suits : goal.handle_in_turn-requires-clause-suits
handle_in_turn-requires-clause-suits g c =
    let xs = c.args.members.now in
    let read = c.index-members-number.result in
    c.requires.suits (get_or xs c.args.number read) (slice_get-get_or xs c.args.number read c.requires.here)

pub handle_in_turn-requires-clause-time : goal.handle_in_turn-requires-clause-time
handle_in_turn-requires-clause-time g c =
    let xs = c.args.members.now in
    let read = c.index-members-number.result in
    c.requires.time (get_or xs c.args.number read) (slice_get-get_or xs c.args.number read c.requires.here)

pub handle_in_turn-requires-clause-turn : goal.handle_in_turn-requires-clause-turn
handle_in_turn-requires-clause-turn g c =
    let xs = c.args.members.now in
    let read = c.index-members-number.result in
    c.requires.turn (get_or xs c.args.number read) (slice_get-get_or xs c.args.number read c.requires.here)

pub handle_in_turn-requires-clause-room : goal.handle_in_turn-requires-clause-room
handle_in_turn-requires-clause-room g c =
    let xs = c.args.members.now in
    let read = c.index-members-number.result in
    c.requires.room (get_or xs c.args.number read) (slice_get-get_or xs c.args.number read c.requires.here)
