use Rattle.std.proofs.Common.{◌≡◌, ◌<◌, ◌≤◌, ◌∙◌, [], None, OnOk, ap, arith, get_or, length, sym, subst}
use Rattle.std.proofs.lemmas.List.{length-map}
use Rattle.tw_elimination.specs.Narrowing.{AreLists, halt_within, list_at, total_in}
use Rattle.tw_instance.specs.Tables.{items}
use Rattle.tw_model.specs.Net.{empty_path}
use Rattle.tw_stable.specs.Progress.{go_on, way_of}
use Rattle.tw_stable.specs.Splitting.{first_choice, met_at, met_within, with_only}
use Rattle.tw_stable.proofs.Meetings.{choice_here, split_few}
use Rattle.tw_stable.proofs.Ways.{choice_is, chosen, go_on_stopped, list_is, met_none, met_some, part_fits, part_is, way_more, way_whole}
use Rattle.tw_stable.proofs.search.+search_within.Goals as goal

pub returns-then-not-progress-clause-met : goal.returns-then-not-progress-clause-met
returns-then-not-progress-clause-met g t c = λ n few.
    sym (go_on_stopped (way_of c.args.progress.now) (met_within c.args.case.now n (items c.args.lists.items)) c.if-not-progress.true)

pub returns-in_default-clause-met : goal.returns-in_default-clause-met
returns-in_default-clause-met g t c = λ n few.
    let case = c.args.case.now in
    let lists = items c.args.lists.items in
    let halt = c.in_ok-halt.halt.items in
    let is = c.in_ok-halt.ensures.value in
    let all = c.in_ok-halt.ensures.lists.long in
    let same : length (items halt) ≡ length halt = length-map halt (λ v. v.items) in
    let rows = c.deref-in_default.ensures.value in
    let long : length c.deref-in_default.result.now ≡ case.net.nodes = ap length rows ∙ (sym same ∙ all) in
    let none : first_choice case (halt_within case lists) ≡ None
    = sym (choice_is case c.deref.result.now halt (halt_within case lists) c.deref.ensures.value is all) ∙ (sym c.first_choice.ensures ∙ c.in_default.is) in
    let met : met_at (λ ls. []) case (items c.deref-in_default.result.now) None ≡ met_within case n lists
    = ap (λ xs. met_at (λ ls. []) case (items xs) None) rows ∙ (ap (λ ls. met_at (λ xs. []) case ls None) is ∙ met_none case n lists few none) in
    subst (λ ms. OnOk c.settle.result (way_of c.settle.new.progress ≡ go_on (way_of c.args.progress.now) ms)) met (c.settle.ensures case long)

pub index-requires : goal.index-requires
index-requires g t c =
    let case = c.args.case.now in
    let halt = c.in_ok-halt.halt.items in
    let all = c.in_ok-halt.ensures.lists.long in
    let first = chosen case c.deref.result.now halt (halt_within case (items c.args.lists.items)) c.deref.ensures.value c.in_ok-halt.ensures.value all c.first_choice.result c.first_choice.ensures c.in-Some.node c.in-Some.is in
    let here = choice_here case c.eliminate_within.ensures.case (halt_within case (items c.args.lists.items)) c.in-Some.node first in
    let same : length (items halt) ≡ length halt = length-map halt (λ v. v.items) in
    omega arith

pub search_within-requires : goal.search_within-requires
search_within-requires g t c =
    let case = c.args.case.now in
    let is = c.eliminate_within.ensures.case in
    let lists = items c.args.lists.items in
    let end = halt_within case lists in
    let halt = c.in_ok-halt.halt.items in
    let all = c.in_ok-halt.ensures.lists.long in
    let node = c.in-Some.node in
    let k = c.loop-path.path-index in
    let first = chosen case c.deref.result.now halt end c.deref.ensures.value c.in_ok-halt.ensures.value all c.first_choice.result c.first_choice.ensures node c.in-Some.is in
    let here = choice_here case is end node first in
    let same : length (items halt) ≡ length halt = length-map halt (λ v. v.items) in
    let low : node < length halt = omega arith in
    let mine = list_is halt end node c.index.result.now c.deref-path-items.result.now low c.index.ensures c.in_ok-halt.ensures.value c.deref-path-items.ensures.value in
    let part = part_is case is lists c.deref-in-loop-path.result.now halt c.in_ok-part.part.items node k c.deref-path-items.result.now _
    c.deref-in-loop-path.ensures.value c.in_ok-halt.ensures.value mine c.loop-path-test.true c.in_ok-part.ensures in
    let fits = part_fits case is lists c.in_ok-part.part.items node k (subst (AreLists case) c.in_ok-halt.ensures.value c.in_ok-halt.ensures.lists) first
    (subst (λ xs. k < length xs) mine c.loop-path-test.true) part in
    let fewer = fits.0 in
    λ κs within. (omega (arith, fewer, c.decreases), (within, (c.loop-path.invariant.same ∙ c.requires.routers, fits.1)))

pub loop-path-preserved : goal.loop-path-preserved
loop-path-preserved g t c =
    let case = c.args.case.now in
    let is = c.eliminate_within.ensures.case in
    let lists = items c.args.lists.items in
    let end = halt_within case lists in
    let halt = c.in_ok-halt.halt.items in
    let all = c.in_ok-halt.ensures.lists.long in
    let node = c.in-Some.node in
    let k = c.loop-path.path-index in
    let inv = c.loop-path.invariant in
    let first = chosen case c.deref.result.now halt end c.deref.ensures.value c.in_ok-halt.ensures.value all c.first_choice.result c.first_choice.ensures node c.in-Some.is in
    let here = choice_here case is end node first in
    let same : length (items halt) ≡ length halt = length-map halt (λ v. v.items) in
    let low : node < length halt = omega arith in
    let mine = list_is halt end node c.index.result.now c.deref-path-items.result.now low c.index.ensures c.in_ok-halt.ensures.value c.deref-path-items.ensures.value in
    let part = part_is case is lists c.deref-in-loop-path.result.now halt c.in_ok-part.part.items node k c.deref-path-items.result.now _
    c.deref-in-loop-path.ensures.value c.in_ok-halt.ensures.value mine c.loop-path-test.true c.in_ok-part.ensures in
    let less = split_few case is end (ap length (sym c.in_ok-halt.ensures.value) ∙ all) node first (get_or (list_at end node) k empty_path) in
    record {
      same = c.in_ok-search_within.ensures.same ∙ inv.same;
      met = λ n few.
          let fewer : total_in case (with_only end node (get_or (list_at end node) k empty_path)) < n = omega arith in
          let told = c.in_ok-search_within.ensures.met n (subst (λ ls. total_in case ls < n) (sym part) fewer) in
          way_more case n end node k (way_of c.take_split.new.progress) (way_of c.loop-path.progress) (way_of c.search_within.new.progress)
          (subst (λ xs. k < length xs) mine c.loop-path-test.true) (inv.met n few)
          (told ∙ ap (λ ls. go_on (way_of c.loop-path.progress) (met_within case n ls)) part);
    }

pub returns-clause-met : goal.returns-clause-met
returns-clause-met g t c = λ n few.
    let case = c.args.case.now in
    let is = c.eliminate_within.ensures.case in
    let lists = items c.args.lists.items in
    let end = halt_within case lists in
    let halt = c.in_ok-halt.halt.items in
    let all = c.in_ok-halt.ensures.lists.long in
    let node = c.in-Some.node in
    let k = c.loop-path.path-index in
    let first = chosen case c.deref.result.now halt end c.deref.ensures.value c.in_ok-halt.ensures.value all c.first_choice.result c.first_choice.ensures node c.in-Some.is in
    let here = choice_here case is end node first in
    let same : length (items halt) ≡ length halt = length-map halt (λ v. v.items) in
    let low : node < length halt = omega arith in
    let mine = list_is halt end node c.index.result.now c.deref-path-items.result.now low c.index.ensures c.in_ok-halt.ensures.value c.deref-path-items.ensures.value in
    let met = met_some case is n lists few node first in
    subst (λ ms. way_of c.loop-path.progress ≡ go_on (way_of c.args.progress.now) ms) met.2
    (way_whole case met.0 end node k (way_of c.args.progress.now) (way_of c.take_split.new.progress) (way_of c.loop-path.progress)
    (subst (λ xs. length xs ≤ k) mine c.loop-path-test.false) c.take_split.ensures (c.loop-path.invariant.met met.0 met.1))
