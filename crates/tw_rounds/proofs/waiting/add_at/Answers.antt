use Rattle.std.proofs.Common.{◌≡◌, get_or, set, ap, ◌∙◌}
use Rattle.std.proofs.lemmas.Option.{slice_get-get_or}
use Rattle.tw_process.specs.Behaviour.{simulation_of}
use Rattle.tw_rounds.proofs.Lists.{on_err, on_ok}
use Rattle.tw_rounds.specs.Members.{Mailed, awaiting}
use Rattle.tw_rounds.proofs.waiting.add_at.Goals as goal

pub add_pending-requires-clause-own : goal.add_pending-requires-clause-own
add_pending-requires-clause-own g c =
    let xs = c.args.members.now in
    let read = c.index-members-number.result in
    let at = slice_get-get_or xs c.args.number read c.requires.here in
    c.requires.own (get_or xs c.args.number read) at

pub add_pending-requires-clause-suit : goal.add_pending-requires-clause-suit
add_pending-requires-clause-suit g c =
    let xs = c.args.members.now in
    let read = c.index-members-number.result in
    let at = slice_get-get_or xs c.args.number read c.requires.here in
    c.requires.suit (get_or xs c.args.number read) at

pub returns-clause-ok : goal.returns-clause-ok
returns-clause-ok g c =
    let sim = λ (model : g.row.M.Denot). simulation_of g.M.Event.Timed.parts g.M.Event.Ord.cmp (g.M.ProcessModel.behaviour model) in
    let xs = c.args.members.now in
    let read = c.index-members-number.result in
    let here = slice_get-get_or xs c.args.number read c.requires.here in
    on_ok c.add_pending.result (λ became x at. (
    let same : get_or xs c.args.number read ≡ x = cc (here, at) in
    ap (set xs c.args.number) (became ∙ ap (λ (z : Mailed _ _). awaiting (sim z.process.model) c.args.event z) same))) c.add_pending.ensures.ok

pub returns-clause-err : goal.returns-clause-err
returns-clause-err g c =
    let xs = c.args.members.now in
    let read = c.index-members-number.result in
    let here = slice_get-get_or xs c.args.number read c.requires.here in
    on_err c.add_pending.result (λ became x at. (
    let same : get_or xs c.args.number read ≡ x = cc (here, at) in
    ap (set xs c.args.number) (became ∙ same))) c.add_pending.ensures.err
