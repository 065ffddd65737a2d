use Rattle.std.proofs.Common.{get_or, arith}
use Rattle.std.proofs.lemmas.Option.{slice_get-get_or}
use Rattle.tw_rounds.proofs.Shares.{begun, may_begin}
use Rattle.tw_rounds.proofs.share.begin_at.Goals as goal

pub returns : goal.returns
returns g c = λ sent.
    let xs = c.args.members.now in
    let read = c.index-members-place.result in
    let x = get_or xs c.args.place read in
    let at = slice_get-get_or xs c.args.place read c.requires.here in
    let sound = may_begin g.M.Event.Timed.parts g.M.Event.Ord.cmp g.M.ProcessModel.behaviour c.args.round c.args.start xs c.args.place x at c.requires.share.0 c.requires.share.1 in
    let keeps = c.begin_round.ensures.kept c.args.round.stop (omega arith) sound in
    begun g.M.Event.Timed.parts g.M.Event.Ord.cmp g.M.ProcessModel.behaviour c.args.round c.args.start xs c.args.place x at sent c.begin_round.new.self keeps.outbox c.begin_round.ensures.kept
