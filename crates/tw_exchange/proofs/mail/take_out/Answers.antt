use Rattle.std.proofs.Common.{◌≡◌, ◌∙◌, ap, filter, map, refl, set, sym}
use Rattle.std.proofs.lemmas.List.{get_or-set_same, map-set}
use Rattle.tw_exchange.specs.AnyBoard.{is_to_another}
use Rattle.tw_exchange.specs.Rows.{items, soonest_of}
use Rattle.tw_exchange.proofs.Rooms.{items_at, items_set}
use Rattle.tw_exchange.proofs.mail.take_out.Goals as goal

pub returns-clause-ok : goal.returns-clause-ok
returns-clause-ok g c =
    let mail = c.args.mail.now in
    let w = c.args.worker in
    let stay = is_to_another g.E.Timed.parts c.args.router in
    items_set mail w c.drop_for.new.messages _ (c.drop_for.ensures ∙ ap (filter stay) (sym (items_at mail w c.index-mail-worker-2.result c.requires.within)))

pub returns-clause-soonest : goal.returns-clause-soonest
returns-clause-soonest g c =
    let mail = c.args.mail.now in
    let w = c.args.worker in
    let row = c.drop_for.new.messages in
    let least : c.soonest.result ≡ soonest_of g.E.Timed.parts row.items
    = c.soonest.ensures ∙ ap (soonest_of g.E.Timed.parts) (c.deref-2.ensures.value ∙ ap (λ v. v.items) (get_or-set_same mail w row c.index-mail-worker-3.result c.requires.within)) in
    (λ i. set (c.requires.soonest i) w (least i)) ∙ (sym (map-set (soonest_of g.E.Timed.parts) (items mail) w row.items) ∙ ap (map (soonest_of g.E.Timed.parts)) (sym (items_set mail w row row.items refl)))
