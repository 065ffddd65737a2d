use Rattle.std.proofs.Common.{◌≡◌, ◌≤◌, ◌∙◌, true, length, map, rules, sym, subst, arith, vec_len}
use Rattle.std.specs.List.{AllByRecursion}
use Rattle.crossbeam_queue.specs.Passes.{view}
use Rattle.tw_table.proofs.Deals.{long_map}
use Rattle.tw_table.proofs.Joins.{closed, closed_bound, closed_halted, closed_stop, met_stop}
use Rattle.tw_exchange.specs.Board.{Board}
use Rattle.tw_table.specs.Seats.{bound_at, halted_at, share_at, stop_at}
use Rattle.tw_table.specs.Shares.{AreGoodTogether}
use Rattle.tw_table.proofs.table.Table.close.Goals as goal

pub returns-clause-whole : goal.returns-clause-whole
returns-clause-whole g c =
    let told = c.pop.ensures in
    let pass = c.join_all-pass in
    let seats = c.args.seats in
    let as_many : length (map share_at seats.items) ≡ c.args.table.workers
    = (let all : length seats.items ≡ vec_len seats = search rules in let long = long_map share_at seats.items in let same : vec_len seats ≡ c.args.table.workers = search rules in omega arith) in
    subst (λ x. AreGoodTogether x (map share_at seats.items)) (sym (c.into_inner.ensures ∙ c.exchange.view_is))
    (closed c.pop.result (view pass.result) (map share_at seats.items) c.args.table.workers pass.ensures.shares pass.ensures.workers as_many c.args.table.some told.met told.knows)

pub returns-clause-stop : goal.returns-clause-stop
returns-clause-stop g c =
    let pass = c.join_all-pass in
    let seats = c.args.seats in
    let as_many : length (map share_at seats.items) ≡ c.args.table.workers
    = (let all : length seats.items ≡ vec_len seats = search rules in let long = long_map share_at seats.items in let same : vec_len seats ≡ c.args.table.workers = search rules in omega arith) in
    let same = met_stop c.pop.result (view pass.result) (map share_at seats.items) c.args.table.workers pass.ensures.shares as_many c.args.table.some c.pop.ensures.knows in
    subst (λ (x : Board). AllByRecursion (λ s. stop_at s ≡ x.stop) seats.items) (sym (c.into_inner.ensures ∙ c.exchange.view_is))
    (closed_stop c.pop.result c.args.table seats.items (same ∙ pass.ensures.stop) c.requires.seats)

pub returns-clause-bound : goal.returns-clause-bound
returns-clause-bound g c =
    subst (λ (x : Board). AllByRecursion (λ s. bound_at s ≤ x.bound) c.args.seats.items) (sym (c.into_inner.ensures ∙ c.exchange.view_is))
    (closed_bound c.pop.result (view c.join_all-pass.result).seen c.args.seats.items c.pop.ensures.knows.seen c.join_all-pass.ensures.seen)

pub returns-clause-halted : goal.returns-clause-halted
returns-clause-halted g c =
    subst (λ (x : Board). AllByRecursion (λ s. halted_at s ≡ true → x.halted ≡ true) c.args.seats.items) (sym (c.into_inner.ensures ∙ c.exchange.view_is))
    (closed_halted c.pop.result (view c.join_all-pass.result).halted c.args.seats.items c.pop.ensures.knows.halted c.join_all-pass.ensures.halted)
