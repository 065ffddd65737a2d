use Rattle.std.proofs.Common.{get_or}
use Rattle.std.proofs.lemmas.Option.{slice_get-get_or}
use Rattle.tw_rounds.proofs.Shares.{sends}
use Rattle.tw_rounds.proofs.share.send_at.Goals as goal

pub returns : goal.returns
returns g c = λ round start.
    let xs = c.args.members.now in
    let read = c.index-members-place-2.result in
    let x = get_or xs c.args.place read in
    let at = slice_get-get_or xs c.args.place read c.requires in
    sends g.M.Event.Timed.parts g.M.Event.Ord.cmp g.M.ProcessModel.behaviour round start xs c.args.place x at c.send_out.result c.send_out.new.self c.args.sent.now.far.items c.args.sent.now.near.items c.send_out.new.flight.items
    c.send_out.ensures.ok c.send_out.ensures.sent c.send_out.ensures.err c.send_out.ensures.unsent
