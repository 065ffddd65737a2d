use Rattle.std.proofs.Common.{◌≡◌, ◌++◌, [], ◌∷◌, get_or, arith}
use Rattle.std.proofs.lemmas.List.{get_or_read}
use Rattle.tw_queue.proofs.Fars.{far_put, far_put_order}
use Rattle.tw_queue.proofs.far.FarEvents.insert.Goals as goal

-- what the bucket had
pushed : (c : goal.After-self-1) → c.push.new.self ≡ get_or c.self.inside.buckets c.bucket_of-place.result [] ++ c.args.event.now ∷ []
pushed c = grind (arith, get_or_read)

pub invariant_of-self-2 : goal.invariant_of-self-2
invariant_of-self-2 c =
    let at = c.bucket_of-place.ensures in
    far_put c.self.inside c.self.invariant c.bucket_of-place.result (omega arith) c.push.new.self c.args.event.now at (omega (arith, c.if-time-ge18446744073709551615.false)) (pushed c) c.min.result
    c.min-self-inside.result c.min.ensures c.min-self-inside.ensures

pub returns-clause-added : goal.returns-clause-added
returns-clause-added c = grind (arith, far_put_order, pushed)
