use Rattle.std.proofs.Common.{ap}
use Rattle.tw_threads.proofs.Joins.{all_may_sit, have_stayed}
use Rattle.tw_threads.proofs.run.gather.Goals as goal

pub returns-in_default : goal.returns-in_default
returns-in_default g c =
    let told = c.unchanged.ensures in
    have_stayed g.W.Work.share _ _ _ _ _ _ (ap (λ v. v.items) told.seats) (ap (λ v. v.items) told.workers) told.cause c.requires.own c.requires.shares

pub returns-in_default-with_capacity : goal.returns-in_default-with_capacity
returns-in_default-with_capacity g c =
    let told = c.unchanged-in_default-with_capacity.ensures in
    have_stayed g.W.Work.share _ _ _ _ _ _ (ap (λ v. v.items) told.seats) (ap (λ v. v.items) told.workers) told.cause c.requires.own c.requires.shares

pub returns-in_default-with_capacity-2 : goal.returns-in_default-with_capacity-2
returns-in_default-with_capacity-2 g c =
    let told = c.unchanged-in_default-with_capacity-2.ensures in
    have_stayed g.W.Work.share _ _ _ _ _ _ (ap (λ v. v.items) told.seats) (ap (λ v. v.items) told.workers) told.cause c.requires.own c.requires.shares

pub join_all-requires-clause-aside : goal.join_all-requires-clause-aside
join_all-requires-clause-aside g c = all_may_sit g.W.Work.share g.W.Work.stop c.args.table.now _ _ c.scoped-started.ensures.1.1

pub returns : goal.returns
returns g c = c.join_all.ensures.left c.args.seats.items c.scoped-started.ensures.1.1
