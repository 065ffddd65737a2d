use Rattle.std.proofs.Common.{◌≡◌, get_or, set, ap, ◌∙◌}
use Rattle.std.proofs.lemmas.Option.{slice_get-get_or}
use Rattle.tw_rounds.specs.Members.{raised}
use Rattle.tw_rounds.proofs.waiting.raise_at.Goals as goal

pub returns : goal.returns
returns g c = λ x at.
    let xs = c.args.members.now in
    let read = c.index-members-place.result in
    let here = slice_get-get_or xs c.args.place read c.requires in
    let same : get_or xs c.args.place read ≡ x = cc (here, at) in
    ap (set xs c.args.place) (c.raise_bound.ensures ∙ ap (raised c.args.bound) same)
