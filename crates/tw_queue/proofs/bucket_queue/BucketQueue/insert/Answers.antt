use Rattle.std.proofs.Common.{arith, refl}
use Rattle.tw_queue.specs.Times.{in_buckets}
use Rattle.tw_queue.proofs.Queues.{apart_far, apart_near, put_far, put_near}
use Rattle.tw_queue.proofs.bucket_queue.BucketQueue.insert.Goals as goal

pub invariant_of-self : goal.invariant_of-self
invariant_of-self c =
    let a = c.self.inside in
    let e = c.args.event in
    apart_near a.near (in_buckets a.far) c.self.invariant e c.insert.result c.insert.new.self c.insert.ensures.ok c.insert.ensures.err (λ d there. c.if-is_near.ensures.near e d refl there c.self.invariant)

pub returns-then-is_near-clause-ok : goal.returns-then-is_near-clause-ok
returns-then-is_near-clause-ok c = grind (arith, put_near)

pub invariant_of-self-2 : goal.invariant_of-self-2
invariant_of-self-2 c =
    let a = c.self.inside in
    let e = c.args.event in
    apart_far a.near (in_buckets a.far) c.self.invariant e (in_buckets c.insert_far.new.far) c.if-not-insert_far.ensures.added (λ d there. c.if-is_near.ensures.far e d refl there)

pub returns-clause-ok : goal.returns-clause-ok
returns-clause-ok c = grind (arith, put_far)
