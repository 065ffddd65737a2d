use Rattle.std.proofs.Common.{◌++◌, map, max, min, ap, ◌∙◌}
use Rattle.std.specs.List.{reduce}
use Rattle.tw_exchange.specs.Board.{Board, handed, visited, workers}
use Rattle.tw_machine_rows.proofs.Sittings.{may_give}
use Rattle.tw_table.specs.Seats.{exchange_of, owners_on, share_of, workers_at}
use Rattle.tw_table.specs.Shares.{share}
use Rattle.tw_workers.proofs.Places.{drop_none}
use Rattle.tw_workers.proofs.Visits.{dealt_there}
use Rattle.tw_machine_rows.proofs.table.meet_dealt.Goals as goal

pub visit_dealt-requires-clause-dealt : goal.visit_dealt-requires-clause-dealt
visit_dealt-requires-clause-dealt g c =
    let t = c.args.table.now in
    let taken = c.take-held.ensures in
    let x = exchange_of c.take-held.result in
    let out = c.take_out-out.result.items in
    let dealt = c.if-not-deal.ensures in (
      out,
      dealt_there x (owners_on t) (workers_at t) c.deref.result.now out c.deal.new.parcels (ap (λ (y : Board). y.owners) taken.exchange ∙ taken.owners)
          (ap (λ (y : Board). workers y) taken.exchange ∙ taken.workers) c.deref.ensures.value dealt,
    )

pub give-requires-clause-held : goal.give-requires-clause-held
give-requires-clause-held g c = c.in_ok-told.ensures.same.table c.args.table.now c.take-held.ensures.held

pub give-requires-clause-fair : goal.give-requires-clause-fair
give-requires-clause-fair g c =
    let h = c.take-held.result in
    let k = c.visit_dealt.new.held in
    let old = c.args.hand.now in
    let t = c.args.table.now in
    let x = exchange_of h in
    let taken = c.take-held.ensures in
    let told = c.in_ok-told.ensures in
    let left = c.take_out-out.ensures.rest in
    let sent = c.take_out-out.result.items in
    let out = c.take_out-out.ensures.value in
    let own = (share_of h).shard.terms.worker in
    let report = c.report_time.ensures ∙ (λ i. reduce min (map (λ e. e.time) ((left i).pending ++ (left i).kept ++ (left i).held))) in
    let given = c.if-not-deal.ensures in
    let dealt = dealt_there x (owners_on t) (workers_at t) c.deref.result.now sent c.deal.new.parcels (ap (λ (y : Board). y.owners) taken.exchange ∙ taken.owners)
    (ap (λ (y : Board). workers y) taken.exchange ∙ taken.workers) c.deref.ensures.value given in
    may_give t c.args.seat h k (share c.args.shard.now old) (share c.raise_bound.new.self (record old { mail = c.visit_dealt.new.mail; next = 0 }))
    c.requires taken.share taken.exchange taken.met taken.board taken.stop told.same told.rising
    (told.board sent dealt ∙ (λ i. visited own (out i) (report i) x))
    (c.raise_bound.ensures ∙ (λ i. record (left i) { bound = max (left i).bound (told.bound i) }))
    (drop_none c.visit_dealt.new.mail.items ∙ (told.mail sent dealt ∙ (λ i. handed own (out i) x)))
    c.requires.unsent
