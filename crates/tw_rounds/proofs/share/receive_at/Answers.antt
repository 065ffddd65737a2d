use Rattle.std.proofs.Common.{get_or, arith}
use Rattle.std.proofs.lemmas.Option.{slice_get-get_or}
use Rattle.tw_rounds.proofs.Lists.{on_err, on_ok}
use Rattle.tw_rounds.proofs.Shares.{may_receive, met, received}
use Rattle.tw_rounds.proofs.share.receive_at.Goals as goal

pub receive-requires : goal.receive-requires
receive-requires g c =
    let xs = c.args.members.now in
    let read = c.index-members-place.result in
    let x = get_or xs c.args.place read in
    let at = slice_get-get_or xs c.args.place read c.requires.here in
    (c.args.round.stop, may_receive g.M.Event.Timed.parts g.M.Event.Ord.cmp g.M.ProcessModel.behaviour c.args.round c.args.start xs c.args.place x at c.requires.share.0 c.args.message c.requires.own c.requires.share.1)

pub returns-clause-ok : goal.returns-clause-ok
returns-clause-ok g c = λ sent.
    let xs = c.args.members.now in
    let read = c.index-members-place.result in
    let x = get_or xs c.args.place read in
    let at = slice_get-get_or xs c.args.place read c.requires.here in
    let sound = may_receive g.M.Event.Timed.parts g.M.Event.Ord.cmp g.M.ProcessModel.behaviour c.args.round c.args.start xs c.args.place x at c.requires.share.0 c.args.message c.requires.own c.requires.share.1 in
    on_ok c.receive.result (λ keeps.
    received g.M.Event.Timed.parts g.M.Event.Ord.cmp g.M.ProcessModel.behaviour c.args.round c.args.start xs c.args.place x at sent c.args.message c.receive.new.self c.requires.own (keeps c.args.round.stop (omega arith) sound).outbox keeps) c.receive.ensures.ok

pub returns-clause-err : goal.returns-clause-err
returns-clause-err g c = λ sent.
    let xs = c.args.members.now in
    let read = c.index-members-place.result in
    let x = get_or xs c.args.place read in
    let at = slice_get-get_or xs c.args.place read c.requires.here in
    let sound = may_receive g.M.Event.Timed.parts g.M.Event.Ord.cmp g.M.ProcessModel.behaviour c.args.round c.args.start xs c.args.place x at c.requires.share.0 c.args.message c.requires.own c.requires.share.1 in
    on_err c.receive.result (λ keeps.
    met g.M.Event.Timed.parts g.M.Event.Ord.cmp g.M.ProcessModel.behaviour c.args.round c.args.start xs c.args.place x at sent c.args.message c.receive.new.self c.requires.own (keeps c.args.round.stop (omega arith) sound).outbox keeps) c.receive.ensures.err
