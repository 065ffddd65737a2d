use Rattle.std.proofs.Common.{◌≡◌, ◌+◌, count_by, nat_lt, ap, ap₂, ◌∙◌, arith}
use Rattle.std.proofs.lemmas.List.Sums.{count_by-le-length}
use Rattle.tw_shard.specs.declared.timeline.HandledEvent.{HandledEvent}
use Rattle.tw_shard.proofs.Rings.{count_both}
use Rattle.tw_shard.proofs.ahead.Ahead.all_before.Goals as goal

-- the two counts are one of all steps
counted : (c : goal.After-count_before-2) → c.count_before.result + c.count_before-2.result ≡ count_by (λ (d : HandledEvent). nat_lt d.event.time c.args.time) c.args.self.now
counted c =
    let p = λ (d : HandledEvent). nat_lt d.event.time c.args.time in
    ap₂ (λ m n. m + n) c.count_before.ensures c.count_before-2.ensures
    ∙ (count_both p c.as_slices.result.0.now c.as_slices.result.1.now ∙ ap (count_by p) (c.as_slices.ensures ∙ c.self.view_is))

pub returns-clause-value : goal.returns-clause-value
returns-clause-value c = counted c

pub returns-clause-most : goal.returns-clause-most
returns-clause-most c =
    let all = counted c in
    let most = count_by-le-length (λ (d : HandledEvent). nat_lt d.event.time c.args.time) c.args.self.now in
    let long = c.len.ensures.value in
    let fits = c.len.ensures.most in
    omega arith
