use Rattle.std.proofs.Common.{◌∙◌, ap, map}
use Rattle.tw_core.specs.Steps.{least_time}
use Rattle.tw_model.specs.Case.{simulation}
use Rattle.tw_warp.proofs.Bounds.{chunk_next}
use Rattle.tw_warp.proofs.chunks.least_in_chunks.Goals as goal

pub loop-chunk-preserved : goal.loop-chunk-preserved
loop-chunk-preserved c = λ case.
    let read = c.deref.ensures.value ∙ ap (λ v. v.items) c.chunk-item.is in
    chunk_next case c.args.chunks.now c.loop-chunk.chunk-index c.chunk-item.result c.loop-chunk.least c.least_in_flight-least.result c.loop-chunk-test.true
    (c.least_in_flight-least.ensures case ∙ ap (λ xs. least_time (simulation case) (map (λ x. x.event) xs) c.loop-chunk.least) read)
    ∙ c.loop-chunk.invariant case
