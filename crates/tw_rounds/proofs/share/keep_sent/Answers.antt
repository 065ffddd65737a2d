use Rattle.std.proofs.Common.{[], get_or, set, sym, subst}
use Rattle.std.proofs.lemmas.Option.{slice_get-get_or}
use Rattle.tw_rounds.proofs.Shares.{put_aside}
use Rattle.tw_rounds.specs.Shares.{KeepsRule, on_way}
use Rattle.tw_rounds.proofs.share.keep_sent.Goals as goal

pub returns : goal.returns
returns g c = λ round start.
    let xs = c.args.members.now in
    let read = c.index-members-0.result in
    let x = get_or xs 0 read in
    let at = slice_get-get_or xs 0 read c.requires.some in
    subst (λ y. KeepsRule g.M.Event.Timed.parts g.M.Event.Ord.cmp g.M.ProcessModel.behaviour round start xs (on_way c.args.sent) (set xs 0 y) []) (sym c.end_round.ensures)
    (put_aside g.M.Event.Timed.parts g.M.Event.Ord.cmp g.M.ProcessModel.behaviour round start xs 0 x at (on_way c.args.sent) (c.requires.empty x at))
