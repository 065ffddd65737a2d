use Rattle.std.proofs.Common.{arith}
use Rattle.tw_queue.proofs.Queues.{queue_counts}
use Rattle.tw_queue.proofs.bucket_queue.BucketQueue.count.Goals as goal

pub returns-clause-times : goal.returns-clause-times
returns-clause-times c = grind (arith, queue_counts)
