use Rattle.tw_handlers.proofs.Leading.{IsTrail-push, history-push}
use Rattle.tw_handlers.proofs.trail.advance.Goals as goal

pub returns-in-Ok-clause-trail : goal.returns-in-Ok-clause-trail
returns-in-Ok-clause-trail c =
    IsTrail-push c.args.router.now c.handle_fitting.new.router c.args.steps.now.items _ _ _ c.in_ok-note.ensures.state c.in-Ok.ensures.items c.requires.trail c.in_ok-note.ensures.handled

pub returns-in-Ok-clause-ok : goal.returns-in-Ok-clause-ok
returns-in-Ok-clause-ok c =
    history-push c.args.router.now c.handle_fitting.new.router c.args.steps.now.items _ _ _ c.in_ok-note.ensures.state c.in-Ok.ensures.items c.requires.trail c.in_ok-note.ensures.handled
