use Rattle.tw_handlers.proofs.Fitting.{IsPath-fits}
use Rattle.tw_handlers.proofs.handling.handle_any.Goals as goal

pub handle_update-requires-clause-path : goal.handle_update-requires-clause-path
handle_update-requires-clause-path c =
    IsPath-fits c.args.router.now.net c.args.router.now.node c.args.event.now c.in-Update.path c.in-Update.session c.requires.fits c.in-Update.is
