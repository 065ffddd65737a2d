use Rattle.std.proofs.Common.{◌≡◌, [], get_or, set, ap, ◌∙◌, sym, subst}
use Rattle.std.proofs.lemmas.Option.{slice_get-get_or}
use Rattle.tw_rounds.proofs.Lists.{get_set}
use Rattle.tw_rounds.proofs.Shares.{taken}
use Rattle.tw_rounds.specs.Members.{sent_on}
use Rattle.tw_rounds.specs.Shares.{KeepsRule, on_way}
use Rattle.tw_rounds.proofs.share.take_sent.Goals as goal

pub returns-clause-rule : goal.returns-clause-rule
returns-clause-rule g c = λ round start.
    let xs = c.args.members.now in
    let read = c.index-members-0.result in
    let x = get_or xs 0 read in
    let at = slice_get-get_or xs 0 read c.requires.some in
    subst (λ y. KeepsRule g.M.Event.Timed.parts g.M.Event.Ord.cmp g.M.ProcessModel.behaviour round start xs [] (set xs 0 y) (on_way c.take_sent.result)) (sym c.take_sent.ensures.rest)
    (subst (KeepsRule g.M.Event.Timed.parts g.M.Event.Ord.cmp g.M.ProcessModel.behaviour round start xs [] (set xs 0 (sent_on x))) (sym c.take_sent.ensures.value) (taken g.M.Event.Timed.parts g.M.Event.Ord.cmp g.M.ProcessModel.behaviour round start xs 0 x at))

pub returns-clause-empty : goal.returns-clause-empty
returns-clause-empty g c = λ y to.
    let xs = c.args.members.now in
    let read = c.index-members-0.result in
    let x = get_or xs 0 read in
    let at = slice_get-get_or xs 0 read c.requires.some in
    let there = get_set xs 0 x c.take_sent.new.self at in
    let same : y ≡ c.take_sent.new.self = cc in
    ap (λ z. z.outbox) (same ∙ c.take_sent.ensures.rest)
