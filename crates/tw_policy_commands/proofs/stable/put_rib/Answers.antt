use Rattle.std.proofs.Common.{[], ◌∷◌, codes, subst}
use Rattle.std.specs.Fmt.{decimal}
use Rattle.tw_device.specs.Sink.{Puts}
use Rattle.tw_report.specs.Words.{line, path_text}
use Rattle.tw_policy_commands.proofs.stable.put_rib.Goals as goal

pub returns : goal.returns
returns g c =
    subst (λ p. Puts c.put_line.result (g.S.Sink.written c.args.sink.now) (g.S.Sink.written c.put_line.new.sink) (g.S.Sink.failed c.put_line.new.sink)
    (line (codes "router" ∷ decimal c.args.node ∷ codes "rib" ∷ path_text p ∷ []))) c.path-path.ensures.value c.put_line.ensures
