use Rattle.tw_parallel.proofs.Coming.{whole_all}
use Rattle.tw_parallel.proofs.Started.{started_of}
use Rattle.tw_parallel.specs.Vacancy.{start_from}
use Rattle.tw_parallel.proofs.vacancy.move_in.Goals as goal

pub shards_of-shards-requires-clause-whole : goal.shards_of-shards-requires-clause-whole
shards_of-shards-requires-clause-whole c = whole_all (start_from c.args.owners.now c.args.vacancy.vacant.items) c.take_in-vacant.result.items c.take_in-vacant.ensures

pub invariant_of-result : goal.invariant_of-result
invariant_of-result c =
    let at = started_of c.args.vacancy c.args.owners.now c.requires.vacancy c.requires.some c.requires.owners c.requires.fit c.take_in-vacant.result.items c.take_in-vacant.ensures
    c.shards_of-shards.result.items c.shards_of-shards.ensures.count c.shards_of-shards.ensures.each in
    record { sim = at.0.sim; hands = at.1 }

pub returns : goal.returns
returns c =
    (started_of c.args.vacancy c.args.owners.now c.requires.vacancy c.requires.some c.requires.owners c.requires.fit c.take_in-vacant.result.items c.take_in-vacant.ensures
    c.shards_of-shards.result.items c.shards_of-shards.ensures.count c.shards_of-shards.ensures.each).0
