use Rattle.std.proofs.Common.{subst, sym}
use Rattle.tw_device.specs.Sink.{Puts}
use Rattle.tw_policy_commands.specs.Stable.{count_line}
use Rattle.tw_policy_commands.proofs.stable.put_count.Goals as goal

pub returns-then-are_all : goal.returns-then-are_all
returns-then-are_all g c =
    subst (λ b. Puts c.put_line.result (g.S.Sink.written c.args.sink.now) (g.S.Sink.written c.put_line.new.sink) (g.S.Sink.failed c.put_line.new.sink) (count_line c.args.count b))
    (sym c.if-are_all.true) c.put_line.ensures

pub returns-else-are_all : goal.returns-else-are_all
returns-else-are_all g c =
    subst (λ b. Puts c.put_least.result (g.S.Sink.written c.args.sink.now) (g.S.Sink.written c.put_least.new.sink) (g.S.Sink.failed c.put_least.new.sink) (count_line c.args.count b))
    (sym c.if-are_all.false) c.put_least.ensures
