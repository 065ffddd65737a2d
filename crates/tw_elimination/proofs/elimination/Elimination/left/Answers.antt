use Rattle.std.proofs.Common.{◌≡◌, ◌∙◌, ap, sym, subst, arith}
use Rattle.std.specs.List.{All}
use Rattle.std.proofs.lemmas.List.{length-map}
use Rattle.tw_instance.specs.Tables.{items}
use Rattle.tw_model.specs.Net.{IsPath}
use Rattle.tw_elimination.specs.Rounds.{Eliminated, left_in}
use Rattle.tw_elimination.proofs.Halting.{left_paths, lists_long, row_is}
use Rattle.tw_elimination.proofs.Marking.{row_at}
use Rattle.tw_elimination.proofs.elimination.Elimination.left.Goals as goal

pub index-requires : goal.index-requires
index-requires c =
    let a = c.self.inside in
    let long = lists_long a.case.now c.instance.ensures.case a.rounds (items a.left.items) c.self.invariant.lists in
    let same = length-map a.left.items (λ v. v.items) in
    let nodes = ap (λ (e : Eliminated). e.case.net.nodes) c.self.view_is in
    omega arith

is_left : (c : goal.After-deref) → c.deref.result.now ≡ left_in c.self.inside.case.now c.self.inside.rounds c.args.router
is_left c =
    let a = c.self.inside in
    let nodes = ap (λ (e : Eliminated). e.case.net.nodes) c.self.view_is in
    let long = lists_long a.case.now c.instance.ensures.case a.rounds (items a.left.items) c.self.invariant.lists in
    let same = length-map a.left.items (λ v. v.items) in
    c.deref.ensures.value ∙ (sym (row_at a.left.items c.args.router c.index.result.now (omega arith) c.index.ensures)
    ∙ row_is a.case.now c.instance.ensures.case a.rounds (items a.left.items) c.self.invariant.lists c.args.router (omega arith))

pub returns-clause-value : goal.returns-clause-value
returns-clause-value c = is_left c ∙ ap (λ (e : Eliminated). left_in e.case e.rounds c.args.router) c.self.view_is

pub returns-clause-paths : goal.returns-clause-paths
returns-clause-paths c =
    let a = c.self.inside in
    subst (λ (e : Eliminated). All (IsPath e.case.net) c.deref.result.now) c.self.view_is
    (subst (All (IsPath a.case.now.net)) (sym (is_left c)) (left_paths a.case.now c.instance.ensures.case a.rounds c.args.router))
