use Rattle.std.proofs.Common.{Err, ap, ◌∙◌}
use Rattle.tw_process.specs.Behaviour.{simulation_of}
use Rattle.tw_rounds.proofs.Members.{never_refused}
use Rattle.tw_rounds.proofs.member.receive.Goals as goal

pub unreachable-requires : goal.unreachable-requires
unreachable-requires g c =
    let p = c.args.process.now in
    let m = simulation_of g.M.Event.Timed.parts g.M.Event.Ord.cmp (g.M.ProcessModel.behaviour p.model) in
    let told = c.in-Err-Rejected.is ∙ ap (λ x. Err x) c.in-Err-Rejected.field-0-is in
    let refused = (c.receive.ensures.refused c.in-Err-Rejected.field-0-0).0 told in
    let welcome = never_refused m p c.args.message.event c.requires.own c.requires.late c.requires.suits in
    cc

pub returns-in-Ok-clause-ok : goal.returns-in-Ok-clause-ok
returns-in-Ok-clause-ok g c = λ stop. c.in-Ok.ensures.ok stop
