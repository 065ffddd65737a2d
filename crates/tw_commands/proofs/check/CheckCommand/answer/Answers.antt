use Rattle.std.proofs.Common.{length, refl, subst, ap, ◌∙◌}
use Rattle.std.specs.Io.KnownBytes.{Appends}
use Rattle.tw_commands.proofs.Sizes.{same_sizes}
use Rattle.tw_commands.proofs.check.CheckCommand.answer.Goals as goal

pub returns : goal.returns
returns g c =
    let net = c.instance-instance.ensures.value in
    let nodes = c.from.ensures ∙ (c.nodes.ensures.value ∙ ap (λ n. n.nodes) net) in
    let links = ap length (c.links.ensures.value ∙ ap (λ n. n.links) net) in
    let paths = ap length (c.paths.ensures.value ∙ ap (λ n. n.permitted) net) in
    let scenes = ap length c.scenario.ensures.value in
    record {
      as_told = refl;
      whole = subst (λ text. Appends (g.W.Sink.written c.args.sink.now) (g.W.Sink.written c.put_line.new.sink) text) (same_sizes _ _ _ _ _ _ _ _ nodes links paths scenes) c.in_ok-put_line.ensures.0;
      still = c.in_ok-put_line.ensures.1;
    }
