use Rattle.tw_device.proofs.Taking.{took_more}
use Rattle.tw_device.proofs.sink.put_all.Goals as goal

pub loop-rest-preserved : goal.loop-rest-preserved
loop-rest-preserved g c =
    let told = c.in_ok-taken.ensures in
    let before = c.loop-rest.invariant.1 in
    (told.ok, took_more c.in_ok-taken.taken _ before.0 c.loop-rest.rest.now _ _ _ told.count before.1 before.2 told.bytes)
