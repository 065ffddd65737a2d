use Rattle.std.proofs.Common.{◌∙◌, sym, subst}
use Rattle.tw_device.specs.Sink.{Puts}
use Rattle.tw_policy_commands.specs.Safe.{texts}
use Rattle.tw_policy_commands.proofs.Texts.{verdict_safe, verdict_wheel}
use Rattle.tw_policy_commands.proofs.safe.put_verdict.Goals as goal

pub returns-then-is_solved : goal.returns-then-is_solved
returns-then-is_solved g c =
    let e = c.args.elimination.now in
    subst (λ t. Puts c.put_safe.result (g.S.Sink.written c.args.sink.now) (g.S.Sink.written c.put_safe.new.sink) (g.S.Sink.failed c.put_safe.new.sink) t)
    (verdict_safe e.case e.rounds c.rests_before.result c.args.robust c.rests_before.ensures c.requires.robust (sym c.is_solved.ensures ∙ c.if-is_solved.true)) c.put_safe.ensures

pub returns-else-is_solved : goal.returns-else-is_solved
returns-else-is_solved g c =
    let e = c.args.elimination.now in
    subst (λ t. Puts c.put_wheel.result (g.S.Sink.written c.args.sink.now) (g.S.Sink.written c.put_wheel.new.sink) (g.S.Sink.failed c.put_wheel.new.sink) t)
    (verdict_wheel e.case e.rounds (texts c.args.wheel.now) c.requires.wheel (sym c.is_solved.ensures ∙ c.if-is_solved.false)) c.put_wheel.ensures
