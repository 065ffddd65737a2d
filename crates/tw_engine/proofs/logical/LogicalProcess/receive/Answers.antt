use Rattle.tw_engine.proofs.Comings.{on_err}
use Rattle.tw_engine.proofs.logical.LogicalProcess.receive.Goals as goal

pub returns-in_err-take_in-clause-memory : goal.returns-in_err-take_in-clause-memory
returns-in_err-take_in-clause-memory g c = λ stop. on_err c.from_residual.result (c.in_err-take_in.ensures.err stop)
