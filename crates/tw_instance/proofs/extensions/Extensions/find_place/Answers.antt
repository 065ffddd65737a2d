use Rattle.std.proofs.Common.{◌≡◌, ◌+◌, ◌<◌, ◌≤◌, ap, arith, get_or, length, subst, sym, ◌∙◌}
use Rattle.std.proofs.lemmas.List.{get_or-map, get_or_default, length-map}
use Rattle.tw_event.specs.declared.event.PathNo.{PathNo}
use Rattle.tw_instance.specs.Extensions.{IsPlaceOf, places_in}
use Rattle.tw_instance.specs.Firsts.{IsFirstOf}
use Rattle.tw_instance.proofs.ExtendedAt.{extended_at}
use Rattle.tw_instance.proofs.Extending.{finds_extension}
use Rattle.tw_instance.proofs.Firsts.{first_of_row}
use Rattle.tw_instance.proofs.extensions.Extensions.find_place.Goals as goal

abbrev no_path : PathNo
no_path = record { 0 = 0 }

pub returns-clause-some : goal.returns-clause-some
returns-clause-some c net h is =
    let t = c.args.self.now in
    let i = c.in_ok-index.index in
    let below = c.in_ok-index.ensures.within in
    let x = get_or t.numbers.items i no_path in
    let at = c.in_ok-index.ensures.some net h is x (get_or_default t.numbers.items i no_path x below) in
    let long = length-map t.extensions.items (λ e. e.place) in
    let e = c.index.result.now in
    let low : e.place ≡ get_or (places_in t.extensions.items) i 0 =
    ap (λ e. e.place) c.index.ensures ∙ sym (get_or-map (λ e. e.place) t.extensions.items i e 0 (omega (arith, h.places.long))) in
    extended_at net c.args.node x c.args.number e.place (subst (IsPlaceOf net x) (sym low) (h.places.each i no_path below)) at

pub returns-then-first-clause-some : goal.returns-then-first-clause-some
returns-then-first-clause-some c net h is =
    let t = c.args.self.now in
    let v = c.args.node in
    let r = c.args.number.0 in
    let first = c.index-first.result.now in
    let starts = t.starts.items in
    let from = get_or starts r 0 in
    let low : r < length t.firsts.items = (let l = c.requires.firsts.long in let b = c.requires.there in omega arith) in
    let known : IsFirstOf from (get_or starts (r + 1) 0) t.extensions.items first =
    subst (IsFirstOf from (get_or starts (r + 1) 0) t.extensions.items) (sym c.index-first.ensures) (c.requires.firsts.each r first low) in
    let stands = known c.if-first.true in
    let within : get_or starts (r + 1) 0 ≤ length t.extensions.items = (let w = c.requires.cut.within in let a = c.requires.alike in omega arith) in
    let found = first_of_row starts r t.extensions.items first v stands.0 within (ap (λ e. e.node) (sym stands.1) ∙ c.if-first-node.true) in
    let up = stands.0 in
    let below : from < length t.numbers.items = (let a = c.requires.alike in omega arith) in
    let x = get_or t.numbers.items from no_path in
    let at = finds_extension net t h c.args.number is v 0 x found (get_or_default t.numbers.items from no_path x below ∙ ap (λ i. get_or t.numbers.items i x) (omega arith)) in
    let place : first.place ≡ get_or (places_in t.extensions.items) from 0 =
    ap (λ e. e.place) stands.1 ∙ sym (get_or-map (λ e. e.place) t.extensions.items from first 0 (omega arith)) in
    extended_at net v x c.args.number first.place (subst (IsPlaceOf net x) (sym place) (h.places.each from no_path below)) at
