use Rattle.std.proofs.Common.{map, ap, ◌∙◌}
use Rattle.tw_parallel.proofs.Ends.{all_committed, all_states, change_of_run, ended}
use Rattle.tw_model.specs.Summary.{end_of}
use Rattle.tw_parallel.proofs.sim.Sim.settled_outcome.Goals as goal
use Rattle.tw_parallel.proofs.sim.Sim.settled_outcome.Goals.{then-log+in_ok-events, else-log}

pub returns-clause-events : goal.returns-clause-events
returns-clause-events c =
    elim c.if-log.branch [
      | then-log+in_ok-events w ↦ rw w.if-log.true (ap (λ v. v.items) w.events-is ∙ (w.in_ok-events.ensures.value ∙ all_committed c.args.self.now c.stop.ensures.sim c.requires.settled))
      | else-log w ↦ rw w.if-log.false (ap (λ v. v.items) w.events-is ∙ w.new-events.ensures.items)
    ]

pub returns-clause-routers : goal.returns-clause-routers
returns-clause-routers c = c.in_ok-router_ends.ensures ∙ ap (map end_of) (all_states c.args.self.now c.stop.ensures.sim c.requires.settled)

pub returns-clause-pending : goal.returns-clause-pending
returns-clause-pending c = c.in_ok-pending.ensures.value ∙ (ended c.args.self.now c.stop.ensures.sim c.requires.settled).pending

pub returns-clause-last_change : goal.returns-clause-last_change
returns-clause-last_change c = c.last_change.ensures ∙ change_of_run c.args.self.now c.stop.ensures.sim c.requires.settled
