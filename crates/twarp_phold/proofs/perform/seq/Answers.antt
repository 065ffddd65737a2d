use Rattle.std.proofs.Common.{Err, max, ap, subst, ◌∙◌, arith, ◌≡◌}
use Rattle.tw_phold.specs.Phold.{simulation}
use Rattle.tw_sequential.specs.Run.{Continues, IsStuck}
use Rattle.twarp_phold.specs.Due.{GetsStuck}
use Rattle.twarp_phold.specs.Report.{report_text}
use Rattle.twarp_phold.specs.declared.cause.Status.TheVariants.{Done}
use Rattle.twarp_phold.proofs.Ends.{run_refused}
use Rattle.twarp_phold.proofs.perform.seq.Goals as goal

pub returns-in_err-run_to : goal.returns-in_err-run_to
returns-in_err-run_to g c =
    let opened = c.in_ok-run.ensures.value in
    let told = c.in_err-run_to.ensures in
    let at_0 : max 0 c.args.stop ≡ c.args.stop = omega arith in
    run_refused c.from_residual-in_err-run_to.result c.in_err-run_to.field-0.0 Done (report_text c.args.phold.now c.args.stop) (GetsStuck c.args.phold.now c.args.stop) _ _
    c.from_residual-in_err-run_to.ensures.1
    (λ is. record {
      run = c.run_to.new.self;
      to_stop = told.stop ∙ (ap (λ run. max run.stop c.args.stop) opened ∙ at_0);
      reached = subst (λ run. Continues (simulation run.model) run c.run_to.new.self) opened told.goes_on;
      stuck = subst (λ run. IsStuck (simulation run.model) c.run_to.new.self) opened (told.full (ap (λ x. Err x) is));
    })
    c.requires.open
