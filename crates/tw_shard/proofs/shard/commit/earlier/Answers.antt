use Rattle.std.proofs.Common.{Some, ap, sym, ◌∙◌}
use Rattle.tw_shard.proofs.Reports.{least_of_both}
use Rattle.tw_shard.proofs.shard.commit.earlier.Goals as goal

pub returns-in-Some-Some : goal.returns-in-Some-Some
returns-in-Some-Some c = λ times others first second.
    ap (λ n. Some n) c.min.ensures
    ∙ least_of_both c.in-Some-Some.time c.in-Some-Some.other times others (sym c.in-Some-Some.is-0 ∙ first) (sym c.in-Some-Some.is-1 ∙ second)
