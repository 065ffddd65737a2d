use Rattle.std.proofs.Common.{ap, ◌∙◌}
use Rattle.tw_routing.proofs.Kept.{is_simulation}
use Rattle.tw_sim.specs.Seq.{at}
use Rattle.tw_routing_run.proofs.threads.router_in.Goals as goal

pub returns : goal.returns
returns c = λ h. c.state.ensures.complete h ∙ ap (λ m. at m c.args.run.now.stop c.args.number) (is_simulation c.args.run.now.model)
