use Rattle.std.proofs.Common.{◌≡◌, ◌<◌, ap, ◌∙◌, arith, max, subst, Err}
use Rattle.std.proofs.lemmas.Result.{err_from_is_err_and}
use Rattle.tw_commands.proofs.Stuck.{leaves_fault}
use Rattle.tw_seq.specs.Run.{Continues}
use Rattle.tw_commands.proofs.trail.TrailCommand.answer.Goals as goal

pub returns-in_err-run_to : goal.returns-in_err-run_to
returns-in_err-run_to g c =
    let p = err_from_is_err_and c.from_residual-in_err-run_to.result c.from_residual-in_err-run_to.ensures.1 in
    let to_stop : max 0 c.args.self.now.stop ≡ c.args.self.now.stop = omega arith in
    let same : c.nodes.result ≡ c.args.case.now.net.nodes = c.nodes.ensures.value ∙ ap (λ n. n.nodes) c.instance.ensures.value in
    let here : c.args.self.now.router < c.args.case.now.net.nodes = omega (arith, same, c.if-self-nodes.false) in
    rw (p.1, p.2) (leaves_fault c.in_err-run_to.field-0.0 _ _ _ _ c.requires.open (λ is. (
      here,
      record {
        run = c.run_to.new.self;
        own = c.in_err-run_to.ensures.case ∙ ap (λ run. run.case) c.in_ok-run.ensures;
        to_stop = c.in_err-run_to.ensures.stop ∙ (ap (λ run. max run.stop c.args.self.now.stop) c.in_ok-run.ensures ∙ to_stop);
        reached = subst (λ run. Continues run c.run_to.new.self) c.in_ok-run.ensures c.in_err-run_to.ensures.goes_on;
        stuck = c.in_err-run_to.ensures.full (ap Err is);
      },
    )))
