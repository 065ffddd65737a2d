use Rattle.std.proofs.Common.{ap}
use Rattle.tw_engine.specs.Past.{events_of}
use Rattle.tw_engine.proofs.Newest.{is_room, past_kept, past_more, turned}
use Rattle.tw_process.specs.Behaviour.{simulation_of}
use Rattle.tw_engine.proofs.past.advance.Goals as goal

pub returns-in-Ok-clause-past : goal.returns-in-Ok-clause-past
returns-in-Ok-clause-past g c =
    let m = simulation_of g.M.Event.Timed.parts g.M.Event.Ord.cmp (g.M.ProcessModel.behaviour c.args.model.now) in
    let told = c.in_ok-note.ensures in
    past_more m (g.M.ProcessModel.behaviour c.args.model.now).latest (g.M.ProcessModel.is_note c.args.model.now) c.args.number c.args.committed.now.past
    (g.M.ProcessModel.known c.args.state.now) c.args.done c.push.new.self.items c.args.steps.now.items (record { event = c.args.event; note = c.in_ok-note.note }) c.in-Ok.ensures.items
    (g.M.ProcessModel.known c.forward.new.state) c.requires.past told.state told.note (is_room c.in_ok-note.note _ told.full) c.requires.home c.requires.suits c.requires.time

pub returns-in-Ok-clause-ok : goal.returns-in-Ok-clause-ok
returns-in-Ok-clause-ok g c = ap events_of (turned c.push.new.self.items c.args.steps.now.items (record { event = c.args.event; note = c.in_ok-note.note }) c.in-Ok.ensures.items)

pub returns-in-Err-clause-past : goal.returns-in-Err-clause-past
returns-in-Err-clause-past g c =
    let m = simulation_of g.M.Event.Timed.parts g.M.Event.Ord.cmp (g.M.ProcessModel.behaviour c.args.model.now) in
    let known = g.M.ProcessModel.known in
    let told = c.in_ok-note.ensures in
    past_kept m (g.M.ProcessModel.behaviour c.args.model.now).latest (g.M.ProcessModel.is_note c.args.model.now) c.args.number c.args.committed.now.past
    (known c.args.state.now) (known c.take_back.new.state) c.args.done c.args.steps.now.items c.push.new.self.items c.in-Err.ensures.items
    (c.take_back.ensures.known (known c.args.state.now) told.note told.state) c.requires.past
