use Rattle.std.proofs.Common.{◌++◌, map, max, min, ◌∙◌}
use Rattle.std.specs.List.{reduce}
use Rattle.tw_exchange.specs.Board.{handed, visited}
use Rattle.tw_machine_rows.proofs.Sittings.{may_give}
use Rattle.tw_table.specs.Seats.{exchange_of, share_of}
use Rattle.tw_table.specs.Shares.{share}
use Rattle.tw_workers.proofs.Places.{drop_none}
use Rattle.tw_machine_rows.proofs.table.meet.Goals as goal

pub give-requires-clause-held : goal.give-requires-clause-held
give-requires-clause-held g c = c.in-Some.ensures.same.table c.args.table.now c.take-held.ensures.held

pub give-requires-clause-fair : goal.give-requires-clause-fair
give-requires-clause-fair g c =
    let h = c.take-held.result in
    let k = c.visit.new.held in
    let old = c.args.hand.now in
    let taken = c.take-held.ensures in
    let told = c.in-Some.ensures in
    let left = c.take_out-out.ensures.rest in
    let out = c.take_out-out.ensures.value in
    let own = (share_of h).shard.terms.worker in
    let report = c.report_time.ensures ∙ (λ i. reduce min (map (λ e. e.time) ((left i).pending ++ (left i).kept ++ (left i).held))) in
    may_give c.args.table.now c.args.seat h k (share c.args.shard.now old) (share c.raise_bound.new.self (record old { mail = c.in-Some.visit.mail; next = 0 }))
    c.requires taken.share taken.exchange taken.met taken.board taken.stop told.same told.rising
    (told.board ∙ (λ i. visited own (out i) (report i) (exchange_of h)))
    (c.raise_bound.ensures ∙ (λ i. record (left i) { bound = max (left i).bound (told.bound i) }))
    (drop_none c.in-Some.visit.mail.items ∙ (told.mail ∙ (λ i. handed own (out i) (exchange_of h))))
    c.requires.unsent
