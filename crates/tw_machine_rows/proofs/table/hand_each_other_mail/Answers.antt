use Rattle.tw_machine_rows.proofs.Sittings.{ready_first, ready_second}
use Rattle.tw_machine_rows.proofs.table.hand_each_other_mail.Goals as goal

pub meet_first-requires : goal.meet_first-requires
meet_first-requires g c =
    let there = c.in_ok-table in
    ready_first there.table there.first there.second c.args.shards.now c.args.hands.now c.index-shards-0.result c.index-hands-0.result there.ensures
    c.requires.two_shards c.requires.two_hands

pub meet_second-requires : goal.meet_second-requires
meet_second-requires g c =
    let there = c.in_ok-table in
    let met = c.meet_first.new in
    ready_second there.table there.first there.second c.args.shards.now c.args.hands.now c.index-shards-1.result met.shard c.index-hands-1.result met.hand there.ensures
    c.requires.two_shards c.requires.two_hands
