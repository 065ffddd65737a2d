use Rattle.std.proofs.Common.{Err, max, ap, subst, ◌∙◌, arith, ◌≡◌}
use Rattle.tw_phold.specs.Phold.{simulation}
use Rattle.tw_rounds.specs.Warp.{IsRight, IsStuck}
use Rattle.twarp_phold.specs.Due.{IsHeldUp}
use Rattle.twarp_phold.specs.Report.{report_text}
use Rattle.twarp_phold.specs.declared.cause.Status.TheVariants.{Done}
use Rattle.twarp_phold.proofs.Ends.{run_refused}
use Rattle.twarp_phold.proofs.perform.run_in_rounds.Goals as goal

pub returns-in_err-run_in_rounds : goal.returns-in_err-run_in_rounds
returns-in_err-run_in_rounds g c =
    let opened = c.in_ok-run.ensures in
    let told = c.in_err-run_in_rounds.ensures in
    let at_0 : max 0 c.args.stop ≡ c.args.stop = omega arith in
    run_refused c.from_residual-in_err-run_in_rounds.result c.in_err-run_in_rounds.field-0.0 Done (report_text c.args.phold.now c.args.stop) (IsHeldUp c.args.phold.now c.args.stop) _ _
    c.from_residual-in_err-run_in_rounds.ensures.1
    (λ is. record {
      run = c.run_in_rounds.new.self;
      own = told.model ∙ opened.same;
      to_stop = told.stop ∙ (ap (λ x. max x c.args.stop) opened.stop ∙ at_0);
      right = subst (λ m. IsRight (simulation m) c.run_in_rounds.new.self) opened.same told.right;
      stuck = subst (λ m. IsStuck (simulation m) c.run_in_rounds.new.self) opened.same (told.full (ap (λ x. Err x) is));
    })
    c.requires.open
