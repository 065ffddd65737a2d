use Rattle.std.proofs.Common.{◌≡◌, ◌≤◌, length}
use Rattle.std.specs.Prelude.{vec_capacity, vec_len}
use Rattle.tw_core.specs.Run.{IsSeq}
use Rattle.tw_model.specs.Case.{simulation}
use Rattle.tw_warp.specs.Warp.{HasSameSettings, warp_core}
use Rattle.tw_warp.proofs.Runs.{IsRun}
use Rattle.tw_warp.proofs.warp.Warp.run.Given as goal

abbrev pub invariant-loop-step : goal.invariant-loop-step
invariant-loop-step l = record {
  far : IsRun (simulation l.fn.self.case) l.steps l.step-index (warp_core l.fn.self) (warp_core l.self) l.answers.items;
  same : HasSameSettings l.fn.self l.self;
  rising : l.fn.self.bound ≤ l.self.bound;
  seq : IsSeq (simulation l.self.case) (warp_core l.self);
  count : vec_len l.answers ≡ l.step-index;
  room : length l.steps ≤ vec_capacity l.answers;
}
