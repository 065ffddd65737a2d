use Rattle.std.proofs.Common.{get_or}
use Rattle.std.proofs.lemmas.Option.{slice_get-get_or}
use Rattle.tw_process.specs.Behaviour.{simulation_of}
use Rattle.tw_rounds.proofs.Stages.{sent_on_ruled}
use Rattle.tw_rounds.proofs.dealing.send_on_at.Goals as goal

pub returns : goal.returns
returns g c = λ model stop bound ruled.
    let xs = c.args.members.now in
    let read = c.index-members-number.result in
    let x = get_or xs c.args.number read in
    let at = slice_get-get_or xs c.args.number read c.requires in
    sent_on_ruled (simulation_of g.M.Event.Timed.parts g.M.Event.Ord.cmp (g.M.ProcessModel.behaviour model)) model stop bound c.args.flight.now.items xs ruled c.send_on.result c.args.number x c.send_on.new.self c.send_on.new.flight.items at
    c.send_on.ensures.ok c.send_on.ensures.sent c.send_on.ensures.err c.send_on.ensures.unsent
