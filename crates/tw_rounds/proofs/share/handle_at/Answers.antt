use Rattle.std.proofs.Common.{get_or}
use Rattle.std.proofs.lemmas.Option.{slice_get-get_or}
use Rattle.tw_rounds.proofs.Shares.{advanced, early_at, is_sound}
use Rattle.tw_rounds.proofs.share.handle_at.Goals as goal

pub handle_next-requires : goal.handle_next-requires
handle_next-requires g c =
    let xs = c.args.members.now in
    let read = c.index-members-place.result in
    let x = get_or xs c.args.place read in
    let at = slice_get-get_or xs c.args.place read c.requires.here in
    early_at g.M.Event.Timed.parts g.M.Event.Ord.cmp g.M.ProcessModel.behaviour c.args.round c.args.start xs c.args.place x at c.requires.share.0 c.requires.share.1

pub returns : goal.returns
returns g c = λ sent.
    let xs = c.args.members.now in
    let read = c.index-members-place.result in
    let x = get_or xs c.args.place read in
    let at = slice_get-get_or xs c.args.place read c.requires.here in
    let sound = is_sound g.M.Event.Timed.parts g.M.Event.Ord.cmp g.M.ProcessModel.behaviour c.args.round c.args.start xs c.args.place x at c.requires.share.0 c.requires.share.1 in
    let keeps = c.handle_next.ensures.kept c.args.round.stop c.requires.share.1.limit sound in
    advanced g.M.Event.Timed.parts g.M.Event.Ord.cmp g.M.ProcessModel.behaviour c.args.round c.args.start xs c.args.place x at sent c.handle_next.new.self c.requires.share.1.limit keeps.outbox c.handle_next.ensures.kept
