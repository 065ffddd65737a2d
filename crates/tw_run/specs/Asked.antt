-- The options of `run` (own).
use Rattle.std.specs.Prelude.{◌<◌, ◌≤◌, IfSome}
use Rattle.tw_model.specs.declared.limits.TheConstants.{LATEST}
use Rattle.tw_options.specs.declared.command_line.Asked.{Asked as AnAsked}

-- its stop and its checkpoints are within their limits, and there is a worker where their number is told
pub record IsReady (asked : AnAsked) : Type 0 where
  pub stop : asked.report.stop ≤ LATEST
  pub every : IfSome asked.report.every (λ n. (0 < n) × (n ≤ LATEST))
  pub workers : IfSome asked.workers (λ n. 0 < n)
