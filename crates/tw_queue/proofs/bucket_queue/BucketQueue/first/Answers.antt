use Rattle.std.proofs.Common.{arith}
use Rattle.tw_queue.proofs.Queues.{first_near, first_not_near, queue_rising}
use Rattle.tw_queue.proofs.bucket_queue.BucketQueue.first.Goals as goal

pub returns-in-Some-clause-first : goal.returns-in-Some-clause-first
returns-in-Some-clause-first c = grind (arith, first_near)

pub returns-in-Some-clause-rising : goal.returns-in-Some-clause-rising
returns-in-Some-clause-rising c = grind (arith, queue_rising)

pub returns-in-None-clause-first : goal.returns-in-None-clause-first
returns-in-None-clause-first c = grind (arith, first_not_near)

pub returns-in-None-clause-rising : goal.returns-in-None-clause-rising
returns-in-None-clause-rising c = grind (arith, queue_rising)
