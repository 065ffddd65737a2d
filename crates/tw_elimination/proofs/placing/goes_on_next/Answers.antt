use Rattle.std.proofs.Common.{◌==◌, ◌∙◌, ap, get_or, refl, sym}
use Rattle.std.specs.List.{position_or_len}
use Rattle.std.proofs.lemmas.Bool.{eq-eqb}
use Rattle.tw_model.specs.Net.{path, paths_of}
use Rattle.tw_model.proofs.Paths.{paths_of-distinct}
use Rattle.tw_instance.proofs.Finding.{is_path}
use Rattle.tw_router.proofs.Offered.{place_kept}
use Rattle.tw_elimination.proofs.placing.goes_on_next.Goals as goal

pub returns-in-Some : goal.returns-in-Some
returns-in-Some c next =
    let net = c.args.instance.now in
    let v = c.args.router in
    let own = paths_of net v in
    let rest = path net c.args.path in
    let found = c.in-Some.ensures.some in
    let same = c.in-Some.ensures.distinct found.0 next.0 (is_path net found.0 v rest found.2) (is_path net next.0 v rest next.2) (found.2 ∙ sym next.2) in
    let one = place_kept own own c.in-Some.place found.0 (paths_of-distinct net v) refl found.1 in
    let two = place_kept own own (get_or c.args.placed.now v 0) next.0 (paths_of-distinct net v) refl next.1 in
    eq-eqb c.in-Some.place c.count_of.result (one ∙ (ap (λ q. position_or_len (λ p. p.0 == q.0) own) same ∙ (sym two ∙ sym c.count_of.ensures)))
