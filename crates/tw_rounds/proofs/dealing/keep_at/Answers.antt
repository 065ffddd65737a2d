use Rattle.std.proofs.Common.{◌≡◌, ◌++◌, ◌∷◌, [], get_or, set, ap, ◌∙◌}
use Rattle.std.proofs.lemmas.Option.{slice_get-get_or}
use Rattle.tw_rounds.proofs.Lists.{on_err, on_ok}
use Rattle.tw_rounds.specs.Members.{Mailed}
use Rattle.tw_rounds.proofs.dealing.keep_at.Goals as goal

pub returns-clause-ok : goal.returns-clause-ok
returns-clause-ok g c =
    let xs = c.args.members.now in
    let read = c.index-members-number.result in
    let here = slice_get-get_or xs c.args.number read c.requires in
    on_ok c.keep.result (λ became x at. (
    let same : get_or xs c.args.number read ≡ x = cc (here, at) in
    ap (set xs c.args.number) (became ∙ ap (λ (z : Mailed _ _). record z { outbox = z.outbox ++ c.args.message ∷ [] }) same))) c.keep.ensures.ok

pub returns-clause-err : goal.returns-clause-err
returns-clause-err g c =
    let xs = c.args.members.now in
    let read = c.index-members-number.result in
    let here = slice_get-get_or xs c.args.number read c.requires in
    on_err c.keep.result (λ became x at. (
    let same : get_or xs c.args.number read ≡ x = cc (here, at) in
    ap (set xs c.args.number) (became ∙ same))) c.keep.ensures.err
