use Rattle.std.proofs.Common.{arith}
use Rattle.tw_queue.proofs.Queues.{queue_appended}
use Rattle.tw_queue.proofs.bucket_queue.BucketQueue.append_to.Goals as goal

pub returns : goal.returns
returns c = grind (arith, queue_appended)
