use Rattle.tw_text.proofs.Adding.{end_said, link_said, two_way_link_said}
use Rattle.tw_text.proofs.draft.take_statement.Goals as goal

pub returns-in-Link-len3 : goal.returns-in-Link-len3
returns-in-Link-len3 c = rw (link_said c.args.keyword c.args.numbers.now c.in-Link-len3.is-0 c.in-Link-len3.len_at_least c.in-Link-len3.len_below) c.take_link.ensures

pub returns-in-TwoWayLink-len4 : goal.returns-in-TwoWayLink-len4
returns-in-TwoWayLink-len4 c =
    rw (two_way_link_said c.args.keyword c.args.numbers.now c.in-TwoWayLink-len4.is-0 c.in-TwoWayLink-len4.len_at_least c.in-TwoWayLink-len4.len_below) c.take_link-in-TwoWayLink-len4.ensures

pub returns-in-End-empty : goal.returns-in-End-empty
returns-in-End-empty c = rw (end_said c.args.keyword c.args.numbers.now c.in-End-empty.is-0 c.in-End-empty.len_below) c.take_end.ensures
