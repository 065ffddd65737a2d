use Rattle.std.proofs.Common.{◌≡◌, ◌∙◌, sym, subst}
use Rattle.tw_shape.specs.Shape.{shape}
use Rattle.tw_seq.proofs.Gathered.{shape_of_run}
use Rattle.tw_seq.specs.Run.{complete_run}
use Rattle.tw_seq.specs.Thread.{run_of}
use Rattle.tw_seq.proofs.one_thread.OneThreadRunning.shape.Goals as goal

pub returns : goal.returns
returns c =
    let a = c.self.inside in
    let routers = rw c.deref.ensures.value at c.in_ok-gather.ensures in
    let whole : run_of a ≡ complete_run (run_of a).case (run_of a).stop = subst (λ run. run ≡ complete_run run.case run.stop) (sym c.self.view_is) c.requires in
    let made = shape_of_run (run_of a) c.self.invariant.begun.case whole a.routers.items c.self.invariant.routers _ _
    c.new-builder.ensures (c.builder.view_is ∙ routers) c.in_ok-events.field-0.items c.in_ok-events.ensures.events _ c.finish.ensures in
    subst (λ run. c.finish.result ≡ shape run.case run.stop) c.self.view_is made
