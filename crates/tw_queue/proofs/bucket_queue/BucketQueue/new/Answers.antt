use Rattle.std.proofs.Common.{refl}
use Rattle.tw_ordered.specs.InOrder.{in_order}
use Rattle.tw_queue.proofs.bucket_queue.BucketQueue.new.Goals as goal

pub returns : goal.returns
unfolding in_order
returns c = rw c.new.ensures refl
