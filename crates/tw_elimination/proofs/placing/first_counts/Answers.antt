use Rattle.std.proofs.Common.{ℕ, refl}
use Rattle.tw_elimination.proofs.Listing.{range_more}
use Rattle.tw_elimination.proofs.placing.first_counts.Goals as goal

pub loop-preserved : goal.loop-preserved
loop-preserved c = range_more (λ (v : ℕ). 0) c.loop.counter c.loop.placed.items c.push.new.self.items 0 c.in_ok-push.ensures.items c.loop.invariant refl
