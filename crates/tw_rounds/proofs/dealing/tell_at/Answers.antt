use Rattle.std.proofs.Common.{◌≡◌, ◌+◌, ◌≤◌, Err, get_or, ap, sym, ◌∙◌, subst, arith}
use Rattle.std.proofs.lemmas.Option.{slice_get-get_or}
use Rattle.std.proofs.lemmas.Result.{err_from_is_err_and}
use Rattle.tw_process.specs.Behaviour.{simulation_of}
use Rattle.tw_process.specs.declared.refused.Refused.{Refused}
use Rattle.tw_process.specs.declared.refused.Refused.TheVariants.{CounterFull}
use Rattle.tw_rounds.proofs.Stages.{told_full, told_ruled}
use Rattle.tw_rounds.proofs.dealing.tell_at.Goals as goal

pub handle_next-requires : goal.handle_next-requires
handle_next-requires g c =
    let xs = c.args.members.now in
    let read = c.index-members-number.result in
    let x = get_or xs c.args.number read in
    let at = slice_get-get_or xs c.args.number read c.requires.here in
    let r = c.requires.ruled in
    let same = (r.5.each c.args.number x at).1 in
    subst (λ md. c.args.bound + 1 ≤ (g.M.ProcessModel.behaviour md).latest) (sym same) (let early = r.3 in omega arith)

pub returns-in_err-handle_next-clause-ruled : goal.returns-in_err-handle_next-clause-ruled
returns-in_err-handle_next-clause-ruled g c = λ model stop flight lt ruled.
    let sim = λ (model : g.row.M.Denot). simulation_of g.M.Event.Timed.parts g.M.Event.Ord.cmp (g.M.ProcessModel.behaviour model) in
    let xs = c.args.members.now in
    let read = c.index-members-number.result in
    let x = get_or xs c.args.number read in
    let at = slice_get-get_or xs c.args.number read c.requires.here in
    told_ruled sim model stop c.args.bound flight xs ruled c.args.number x c.handle_next.new.self at lt c.handle_next.ensures.kept

pub returns-in_err-handle_next-clause-full : goal.returns-in_err-handle_next-clause-full
returns-in_err-handle_next-clause-full g c = λ model stop flight lt ruled told.
    let sim = λ (model : g.row.M.Denot). simulation_of g.M.Event.Timed.parts g.M.Event.Ord.cmp (g.M.ProcessModel.behaviour model) in
    let xs = c.args.members.now in
    let read = c.index-members-number.result in
    let x = get_or xs c.args.number read in
    let at = slice_get-get_or xs c.args.number read c.requires.here in
    let p = err_from_is_err_and c.from_residual.result c.from_residual.ensures.1 in
    let is_full : ◌≡◌ {A = Refused} p.0 CounterFull = cc (p.1, told) in
    told_full sim model stop c.args.bound flight xs ruled c.args.number x c.handle_next.new.self at (c.in_err-handle_next.ensures.full (ap (λ x. Err x) (sym p.2 ∙ is_full)))

pub returns-clause-ruled : goal.returns-clause-ruled
returns-clause-ruled g c = λ model stop flight lt ruled.
    let sim = λ (model : g.row.M.Denot). simulation_of g.M.Event.Timed.parts g.M.Event.Ord.cmp (g.M.ProcessModel.behaviour model) in
    let xs = c.args.members.now in
    let read = c.index-members-number.result in
    let x = get_or xs c.args.number read in
    let at = slice_get-get_or xs c.args.number read c.requires.here in
    told_ruled sim model stop c.args.bound flight xs ruled c.args.number x c.handle_next.new.self at lt c.handle_next.ensures.kept
