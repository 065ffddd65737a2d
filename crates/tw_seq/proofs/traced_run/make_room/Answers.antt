use Rattle.std.proofs.Common.{◌∙◌, ◌<◌, IfSome, Some, ap, length, sym, subst, arith}
use Rattle.tw_seq.specs.Traced.{retained}
use Rattle.tw_seq.proofs.Retained.{lists_same, room_made}
use Rattle.tw_seq.proofs.traced_run.make_room.Goals as goal

pub returns-in_err-reserve-in-Some-clause-same : goal.returns-in_err-reserve-in-Some-clause-same
returns-in_err-reserve-in-Some-clause-same c =
    let old = c.index_mut.result.now in
    ap Some (lists_same c.in-Some.logs.items c.args.router c.reserve.new.self old (c.in_err-reserve-in-Some.ensures.items ∙ ap (λ log. log.items) c.index_mut.ensures.value))
    ∙ ap retained (sym c.in-Some.is)

pub returns-in_ok-reserve-in-Some-clause-same : goal.returns-in_ok-reserve-in-Some-clause-same
returns-in_ok-reserve-in-Some-clause-same c =
    let old = c.index_mut.result.now in
    ap Some (lists_same c.in-Some.logs.items c.args.router c.reserve.new.self old (c.in_ok-reserve-in-Some.ensures.items ∙ ap (λ log. log.items) c.index_mut.ensures.value))
    ∙ ap retained (sym c.in-Some.is)

pub returns-in_ok-reserve-in-Some-clause-room : goal.returns-in_ok-reserve-in-Some-clause-room
returns-in_ok-reserve-in-Some-clause-room c =
    let within = subst (λ logs. IfSome logs (λ logs. c.args.router < length logs.items)) c.in-Some.is c.requires in
    room_made c.args.router c.in-Some.logs.items c.reserve.new.self within (omega (arith, c.in_ok-reserve-in-Some.ensures.ok, c.in_ok-reserve-in-Some.ensures.len))
