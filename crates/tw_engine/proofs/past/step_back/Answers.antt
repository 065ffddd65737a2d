use Rattle.std.proofs.Common.{ap}
use Rattle.tw_engine.specs.Past.{events_of}
use Rattle.tw_engine.proofs.Newest.{known_after, newest_known, newest_noted, past_less, turned}
use Rattle.tw_process.specs.Behaviour.{simulation_of}
use Rattle.tw_engine.proofs.past.step_back.Goals as goal

pub reverse-requires-clause-home : goal.reverse-requires-clause-home
reverse-requires-clause-home g c =
    let m = simulation_of g.M.Event.Timed.parts g.M.Event.Ord.cmp (g.M.ProcessModel.behaviour c.args.model.now) in
    let all = c.args.steps.now.items in
    let steps = c.take_last-step.new.self.items in
    let d = c.take_last-step.result in
    (newest_noted m (g.M.ProcessModel.behaviour c.args.model.now).latest (g.M.ProcessModel.is_note c.args.model.now) c.args.number c.args.committed.now.past (g.M.ProcessModel.known c.args.state.now) c.args.done all steps d c.take_last-step.ensures.items c.requires.past).2

pub reverse-requires-clause-suits : goal.reverse-requires-clause-suits
reverse-requires-clause-suits g c =
    let m = simulation_of g.M.Event.Timed.parts g.M.Event.Ord.cmp (g.M.ProcessModel.behaviour c.args.model.now) in
    let all = c.args.steps.now.items in
    let steps = c.take_last-step.new.self.items in
    let d = c.take_last-step.result in
    (newest_noted m (g.M.ProcessModel.behaviour c.args.model.now).latest (g.M.ProcessModel.is_note c.args.model.now) c.args.number c.args.committed.now.past (g.M.ProcessModel.known c.args.state.now) c.args.done all steps d c.take_last-step.ensures.items c.requires.past).3

pub reverse-requires-clause-time : goal.reverse-requires-clause-time
reverse-requires-clause-time g c =
    let m = simulation_of g.M.Event.Timed.parts g.M.Event.Ord.cmp (g.M.ProcessModel.behaviour c.args.model.now) in
    let all = c.args.steps.now.items in
    let steps = c.take_last-step.new.self.items in
    let d = c.take_last-step.result in
    (newest_noted m (g.M.ProcessModel.behaviour c.args.model.now).latest (g.M.ProcessModel.is_note c.args.model.now) c.args.number c.args.committed.now.past (g.M.ProcessModel.known c.args.state.now) c.args.done all steps d c.take_last-step.ensures.items c.requires.past).4

pub reverse-requires-clause-note : goal.reverse-requires-clause-note
reverse-requires-clause-note g c =
    let m = simulation_of g.M.Event.Timed.parts g.M.Event.Ord.cmp (g.M.ProcessModel.behaviour c.args.model.now) in
    let all = c.args.steps.now.items in
    let steps = c.take_last-step.new.self.items in
    let d = c.take_last-step.result in
    let noted = newest_noted m (g.M.ProcessModel.behaviour c.args.model.now).latest (g.M.ProcessModel.is_note c.args.model.now) c.args.number c.args.committed.now.past (g.M.ProcessModel.known c.args.state.now) c.args.done all steps d c.take_last-step.ensures.items c.requires.past in
    (known_after m (g.M.ProcessModel.behaviour c.args.model.now).latest (g.M.ProcessModel.is_note c.args.model.now) c.args.number c.args.committed.now.past steps, noted.0, newest_known m (g.M.ProcessModel.behaviour c.args.model.now).latest (g.M.ProcessModel.is_note c.args.model.now) c.args.number c.args.committed.now.past (g.M.ProcessModel.known c.args.state.now) c.args.done all steps d c.take_last-step.ensures.items c.requires.past, noted.1)

pub returns-clause-past : goal.returns-clause-past
returns-clause-past g c =
    let m = simulation_of g.M.Event.Timed.parts g.M.Event.Ord.cmp (g.M.ProcessModel.behaviour c.args.model.now) in
    let all = c.args.steps.now.items in
    let steps = c.take_last-step.new.self.items in
    let d = c.take_last-step.result in
    let noted = newest_noted m (g.M.ProcessModel.behaviour c.args.model.now).latest (g.M.ProcessModel.is_note c.args.model.now) c.args.number c.args.committed.now.past (g.M.ProcessModel.known c.args.state.now) c.args.done all steps d c.take_last-step.ensures.items c.requires.past in
    let before = known_after m (g.M.ProcessModel.behaviour c.args.model.now).latest (g.M.ProcessModel.is_note c.args.model.now) c.args.number c.args.committed.now.past steps in
    past_less m (g.M.ProcessModel.behaviour c.args.model.now).latest (g.M.ProcessModel.is_note c.args.model.now) c.args.number c.args.committed.now.past (g.M.ProcessModel.known c.args.state.now) c.args.done all steps d c.take_last-step.ensures.items c.requires.past (g.M.ProcessModel.known c.reverse.new.state)
    (c.reverse.ensures.known before noted.0 (newest_known m (g.M.ProcessModel.behaviour c.args.model.now).latest (g.M.ProcessModel.is_note c.args.model.now) c.args.number c.args.committed.now.past (g.M.ProcessModel.known c.args.state.now) c.args.done all steps d c.take_last-step.ensures.items c.requires.past))

pub returns-clause-undone : goal.returns-clause-undone
returns-clause-undone g c =
    let m = simulation_of g.M.Event.Timed.parts g.M.Event.Ord.cmp (g.M.ProcessModel.behaviour c.args.model.now) in
    let all = c.args.steps.now.items in
    let steps = c.take_last-step.new.self.items in
    let d = c.take_last-step.result in
    let noted = newest_noted m (g.M.ProcessModel.behaviour c.args.model.now).latest (g.M.ProcessModel.is_note c.args.model.now) c.args.number c.args.committed.now.past (g.M.ProcessModel.known c.args.state.now) c.args.done all steps d c.take_last-step.ensures.items c.requires.past in
    let before = known_after m (g.M.ProcessModel.behaviour c.args.model.now).latest (g.M.ProcessModel.is_note c.args.model.now) c.args.number c.args.committed.now.past steps in
    record { newest = d.event; was = ap events_of (turned all steps d c.take_last-step.ensures.items); sent = c.reverse.ensures.sends before noted.0 (newest_known m (g.M.ProcessModel.behaviour c.args.model.now).latest (g.M.ProcessModel.is_note c.args.model.now) c.args.number c.args.committed.now.past (g.M.ProcessModel.known c.args.state.now) c.args.done all steps d c.take_last-step.ensures.items c.requires.past) }
