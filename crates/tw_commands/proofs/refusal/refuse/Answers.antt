use Rattle.std.proofs.Common.{refl, subst}
use Rattle.std.specs.Io.KnownBytes.{Appends}
use Rattle.tw_commands.proofs.Refusals.{refusal_line}
use Rattle.tw_commands.proofs.refusal.refuse.Goals as goal

pub returns : goal.returns
returns g c =
    record {
      as_told = refl;
      whole = subst (λ text. Appends (g.W.Sink.written c.args.sink.now) (g.W.Sink.written c.put_refused.new.sink) text)
          (refusal_line c.args.fault _ _ c.code.ensures c.name.ensures) c.in_ok-put_refused.ensures.0;
      still = c.in_ok-put_refused.ensures.1;
    }
