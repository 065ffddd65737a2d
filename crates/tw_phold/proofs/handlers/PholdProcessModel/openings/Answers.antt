use Rattle.std.proofs.Common.{arith}
use Rattle.std.proofs.lemmas.Grind.{common_steps}
use Rattle.std.proofs.lemmas.List.FromFn.{map-range_with_len_more}
use Rattle.tw_phold.specs.Phold.{opening_job}
use Rattle.tw_phold.proofs.handlers.PholdProcessModel.openings.Goals as goal

pub loop-number-preserved : goal.loop-number-preserved
loop-number-preserved c =
    let n = c.loop-number.number in
    let more = map-range_with_len_more (opening_job c.args.self.now) 0 n n (omega arith) in
    grind (arith, common_steps)
