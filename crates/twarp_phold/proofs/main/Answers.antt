use Rattle.twarp_phold.proofs.Runnable.{runnable}
use Rattle.twarp_phold.proofs.main.Goals as goal

pub run-requires-after_bounds : goal.run-requires-after_bounds
run-requires-after_bounds g c κs = runnable _ c.in-Ok-options.line c.in-Ok-options.ensures.says
