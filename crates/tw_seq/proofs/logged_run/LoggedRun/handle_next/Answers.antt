use Rattle.std.proofs.Common.{◌++◌, ◌∷◌, [], ap, sym, ◌∙◌, subst}
use Rattle.tw_seq.specs.Run.{IsNext, IsStuck}
use Rattle.tw_seq.proofs.Logged.{next_events}
use Rattle.tw_seq.proofs.logged_run.LoggedRun.handle_next.Goals as goal

pub invariant_of-self-2 : goal.invariant_of-self-2
invariant_of-self-2 c =
    let e = c.args.event.now in
    let first = subst (λ run. IsNext run e) (sym c.self.view_is) c.requires in
    let told = c.in_ok-handle_next.ensures in
    record {
      begun = told.begun;
      log =
          c.push_reserved.ensures.items
          ∙ (ap (λ xs. xs ++ e ∷ []) (c.reserve.ensures.items ∙ c.self.invariant.log)
          ∙ sym (next_events c.self.inside.run c.handle_next.new.self e first told.ok));
    }

pub returns-clause-stuck : goal.returns-clause-stuck
returns-clause-stuck c = λ stuck. absurd (cc (c.in_ok-handle_next.ensures.stuck (subst IsStuck (sym c.self.view_is) stuck)))
