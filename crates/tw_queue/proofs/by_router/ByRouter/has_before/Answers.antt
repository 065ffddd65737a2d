use Rattle.std.proofs.Common.{arith, ap, sym, ◌∙◌}
use Rattle.std.specs.Option.{option_copied}
use Rattle.tw_calendar.proofs.Early.{first_early, none_for}
use Rattle.tw_queue.proofs.by_router.ByRouter.has_before.Goals as goal

pub returns-in-Some : goal.returns-in-Some
returns-in-Some c = grind (arith, first_early)

pub returns-in-None : goal.returns-in-None
returns-in-None c =
    none_for c.args.router c.args.limit c.args.self.now.events (sym c.first_at.ensures.first ∙ ap option_copied c.in-None.is)
