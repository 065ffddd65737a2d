use Rattle.std.proofs.Common.{[], arith, length, map, set, get_or, ap, sym, ◌∙◌, ◌≡◌, ◌<◌}
use Rattle.std.proofs.lemmas.List.{get_or-map, map-set}
use Rattle.tw_exchange.specs.Rows.{items, soonest_of}
use Rattle.tw_exchange.specs.declared.mail.TheConstants.{NEVER}
use Rattle.tw_exchange.proofs.Followed.{long_row}
use Rattle.tw_exchange.proofs.Rooms.{items_at, items_set, length_items}
use Rattle.tw_exchange.proofs.joining.hand_over.Goals as goal

pub bounds-soonest-worker : goal.bounds-soonest-worker
bounds-soonest-worker g c = long_row g.E.Timed.parts c.args.soonest.now c.args.mail.now c.args.worker c.requires.soonest c.requires.within

pub returns-clause-value : goal.returns-clause-value
returns-clause-value g c = ap (λ v. v.items) c.swap.ensures.y_after ∙ sym (items_at c.args.mail.now c.args.worker c.index-mail-worker.result c.requires.within)

pub returns-clause-least : goal.returns-clause-least
returns-clause-least g c =
    let mail = c.args.mail.now in
    let w = c.args.worker in
    let value : c.swap.new.y.items ≡ get_or (items mail) w [] = ap (λ v. v.items) c.swap.ensures.y_after ∙ sym (items_at mail w c.index-mail-worker.result c.requires.within) in
    let many = length_items mail in
    let within : w < length (items mail) = (let below = c.requires.within in omega arith) in
    ap (λ row. get_or row w 0) c.requires.soonest ∙ (get_or-map (soonest_of g.E.Timed.parts) (items mail) w [] 0 within ∙ ap (soonest_of g.E.Timed.parts) (sym value))

pub returns-clause-rest : goal.returns-clause-rest
returns-clause-rest g c =
    let empty : c.swap.new.x.items ≡ [] = ap (λ v. v.items) c.swap.ensures.x_after ∙ c.requires.empty in
    items_set c.args.mail.now c.args.worker c.swap.new.x [] empty

pub returns-clause-soonest : goal.returns-clause-soonest
returns-clause-soonest g c =
    ap (λ row. set row c.args.worker NEVER) c.requires.soonest
    ∙ (sym (map-set (soonest_of g.E.Timed.parts) (items c.args.mail.now) c.args.worker []) ∙ ap (map (soonest_of g.E.Timed.parts)) (sym (returns-clause-rest g c)))
