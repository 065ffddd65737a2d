use Rattle.std.proofs.Common.{ap, sym, length, ◌∙◌, arith}
use Rattle.tw_instance.proofs.Sound.{is_whole}
use Rattle.tw_seq.specs.Thread.{handled_count, run_of}
use Rattle.tw_seq.proofs.Handled.{length-routers}
use Rattle.tw_seq.proofs.Measured.{count_is}
use Rattle.tw_seq.proofs.one_thread.OneThreadRunning.count_events.Goals as goal

pub count_handled-requires : goal.count_handled-requires
count_handled-requires c =
    let a = c.self.inside in
    let run = run_of a in
    let count = ap length (c.deref.ensures.value ∙ c.self.invariant.routers) ∙ length-routers run.case run.events in
    let most = (is_whole run.case.net c.self.invariant.begun.case.net).most in
    omega arith

pub returns : goal.returns
returns c =
    let a = c.self.inside in
    c.count_handled.ensures ∙ (ap handled_count (c.deref.ensures.value ∙ c.self.invariant.routers) ∙ (count_is (run_of a) c.self.invariant.begun ∙ ap (λ run. length run.events) c.self.view_is))
