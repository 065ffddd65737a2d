use Rattle.std.proofs.Common.{sym, ◌∙◌}
use Rattle.tw_commands.proofs.ReplayPaths.{same_paths}
use Rattle.tw_commands.proofs.replay.MachineCommand.answer.Goals as goal

pub write_replay-requires-clause-paths : goal.write_replay-requires-clause-paths
write_replay-requires-clause-paths g c =
    same_paths c.case-2.result.now c.instance.ensures.case c.args.self.now.stop c.args.self.now.cancel _ _ _ _ c.instance.ensures.value (c.case.ensures ∙ sym c.case-2.ensures) c.in_ok-replay.ensures
