use Rattle.std.proofs.Common.{suc, ◌≡◌, ◌<◌, ◌∙◌, [], List, ap, arith, get_or, length, map, subst, sym, true}
use Rattle.std.specs.List.{All, range_with_len}
use Rattle.std.proofs.lemmas.List.{length-map}
use Rattle.tw_event.specs.declared.event.PathNo.{PathNo}
use Rattle.tw_instance.specs.Tables.{items}
use Rattle.tw_model.specs.Case.{IsCase}
use Rattle.tw_model.specs.Net.{IsPath}
use Rattle.tw_policy.specs.Search.{Differ}
use Rattle.tw_policy.specs.Stable.{IsStableAssignment}
use Rattle.tw_policy.specs.Standing.{standing}
use Rattle.tw_elimination.specs.Narrowing.{AreLists, total_in}
use Rattle.tw_elimination.specs.Rounds.{Eliminated, left_in}
use Rattle.tw_stable.specs.Progress.{Way, go_on, way_of}
use Rattle.tw_stable.specs.Splitting.{eliminated, met_within, rib_at}
use Rattle.tw_stable.proofs.Meetings.{lists_all, lists_long, lists_once, lists_paths, lists_stable, root_lists}
use Rattle.tw_stable.proofs.Ways.{whole_found}
use Rattle.tw_stable.proofs.assignments.stable_assignments.Goals as goal

pub search_within-requires : goal.search_within-requires
search_within-requires g c =
    let case = c.args.case.now in
    let e = c.in_ok-elimination.ensures in
    let is : IsCase case = subst IsCase (ap (λ (x : Eliminated). x.case) e) c.in_ok-lists.ensures.case in
    let lists = c.in_ok-lists.ensures.lists ∙ ap (λ (x : Eliminated). map (left_in x.case x.rounds) (range_with_len 0 x.case.net.nodes)) e in
    record {
      routers = c.deref_mut.ensures.value ∙ c.in_ok-routers.ensures;
      lists = subst (AreLists case) (sym lists) (root_lists case is);
    }

pub returns : goal.returns
returns g c =
    let case = c.args.case.now in
    let splits = c.args.splits in
    let e = c.in_ok-elimination.ensures in
    let is : IsCase case = subst IsCase (ap (λ (x : Eliminated). x.case) e) c.in_ok-lists.ensures.case in
    let lists = c.in_ok-lists.ensures.lists ∙ ap (λ (x : Eliminated). map (left_in x.case x.rounds) (range_with_len 0 x.case.net.nodes)) e in
    let n = suc (total_in case (eliminated case)) in
    let few : total_in case (items c.in_ok-lists.lists.items) < n = subst (λ ls. total_in case ls < n) (sym lists) (omega arith) in
    let told = c.in_ok-search_within.ensures.met n few in
    let begins = ap (λ rows. go_on (record { found = items rows; splits = splits; is_whole = true }) (met_within case n (items c.in_ok-lists.lists.items))) c.new-found.ensures.items in
    let start : Way = record { found = []; splits = splits; is_whole = true } in
    let end = c.search_within.new.progress in
    let so = whole_found case splits (way_of end) (told ∙ (begins ∙ ap (λ ls. go_on start (met_within case n ls)) lists)) in
    let found = so.0 in
    let same : length (items end.found.items) ≡ length end.found.items = length-map end.found.items (λ v. v.items) in
    record {
      stable = subst (All (λ r. IsStableAssignment case.net (standing case) (rib_at r))) (sym found) (lists_stable case is splits);
      once = λ j k before here.
          let low : k < length (items end.found.items) = omega arith in
          subst (λ (xs : List (List PathNo)). Differ case.net.nodes (rib_at (get_or xs j [])) (rib_at (get_or xs k []))) (sym found)
          (lists_once case is splits j k before (subst (λ (xs : List (List PathNo)). k < length xs) found low));
      all = λ whole ribs stable.
          let listed = lists_all case is splits (sym so.1 ∙ whole) ribs stable in
          let low : listed.0 < length (items end.found.items) = subst (λ (xs : List (List PathNo)). listed.0 < length xs) (sym found) listed.1 in (
            listed.0,
            omega arith,
            λ v here. ap (λ (xs : List (List PathNo)). rib_at (get_or xs listed.0 []) v) found ∙ listed.2 v here,
          );
      found = found;
      are_all = so.1;
      paths = subst (All (All (IsPath case.net))) (sym found) (lists_paths case is splits);
      long = subst (All (λ r. length r ≡ case.net.nodes)) (sym found) (lists_long case is splits);
    }
