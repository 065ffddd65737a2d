use Rattle.std.proofs.Common.{◌∙◌, sym}
use Rattle.tw_elimination.proofs.Rounds.{take_written}
use Rattle.tw_elimination.proofs.Scripts.{routers_stand}
use Rattle.tw_elimination.proofs.standing.standing_routers.Goals as goal

pub returns : goal.returns
returns c =
    take_written c.in_ok-routers.routers.len c.handle_all.new.routers c.in_ok-routers.routers.items (sym (c.handle_all.auto.routers ∙ c.deref_mut.ensures.len))
    ∙ routers_stand c.args.case.now c.in_ok-events.ensures.case c.deref.result.now c.handle_all.new.routers (c.deref.ensures.value ∙ c.in_ok-events.ensures.order)
    c.in_ok-handle_all.ensures
