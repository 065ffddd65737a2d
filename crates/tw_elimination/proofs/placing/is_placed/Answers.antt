use Rattle.std.proofs.Common.{◌≡◌, ◌∙◌, ◌||◌, Bool, true, ap, ap₂, get_or, nat_lt, refl, sym}
use Rattle.std.proofs.lemmas.Bool.{ne_eqb}
use Rattle.tw_model.specs.Net.{is_own, path, paths_of}
use Rattle.tw_model.specs.State.{line_of}
use Rattle.tw_model.proofs.Paths.{path_some, paths_of-distinct}
use Rattle.tw_router.proofs.Offered.{place_kept}
use Rattle.tw_elimination.specs.Placing.{count_of}
use Rattle.tw_elimination.specs.Wheel.{first_node}
use Rattle.tw_elimination.proofs.Worklist.{starts}
use Rattle.tw_elimination.proofs.placing.is_placed.Goals as goal

pub returns : goal.returns
returns c =
    let net = c.args.instance.now in
    let q = c.args.path in
    let v = first_node (path net q) in
    let router : c.first_node-router.result ≡ v = c.first_node-router.ensures ∙ ap first_node c.path.ensures.value in
    let own : is_own net v q ≡ true = starts (path net q) (λ none. c.if-path-eq0.false (path_some net c.path.ensures.net q c.requires none)) in
    let place : c.place.result ≡ line_of net v q = place_kept (paths_of net v) (paths_of net v) c.place.result q (paths_of-distinct net v) refl (c.place.ensures.own v own) in
    let count : c.count_of.result ≡ count_of net c.args.placed.now v = c.count_of.ensures ∙ ap (λ w. get_or c.args.placed.now w 0) router in
    ap₂ nat_lt place count ∙ sym (ap (λ (b : Bool). b || nat_lt (line_of net v q) (count_of net c.args.placed.now v)) (ne_eqb q.0 0 c.if-path-eq0.false))
