use Rattle.tw_machine_rows.proofs.Sittings.{at_first, both_ready, both_seated, ruled_so}
use Rattle.tw_table.specs.Shares.{shares_of}
use Rattle.tw_machine_rows.proofs.table.sit_down.Goals as goal

pub open-requires-clause-ruled : goal.open-requires-clause-ruled
open-requires-clause-ruled g c =
    let case = c.args.case.now in
    let x = c.in-Ok.exchange in
    let shards = c.args.shards.now in
    let hands = c.args.hands.now in
    let is = at_first case x shards hands c.instance.ensures.case c.in-Ok.ensures c.requires in
    (case, ruled_so case x (shares_of shards hands) is c.new_is_ruled.ensures.ruled)

pub returns-in-Ok-open : goal.returns-in-Ok-open
returns-in-Ok-open g c =
    let case = c.args.case.now in
    let x = c.in-Ok.exchange in
    let shards = c.args.shards.now in
    let hands = c.args.hands.now in
    let shares = shares_of shards hands in
    let is = at_first case x shards hands c.instance.ensures.case c.in-Ok.ensures c.requires in
    let ruled = ruled_so case x shares is c.new_is_ruled.ensures.ruled in
    let opened = c.in-Ok-open.ensures in
    let table = c.in-Ok-open.table in
    let seats = c.in-Ok-open.seats.items in
    both_seated table seats shards hands c.with_seats.result c.with_seats.ensures.table c.with_seats.ensures.seats (λ a b sits s u g h ss hs.
    both_ready table case x seats shards hands a b s u g h is opened.seats opened.stops opened.shares (λ i q there. c.shares_are_at_work.ensures case x shares i q ruled there)
    sits ss hs)
