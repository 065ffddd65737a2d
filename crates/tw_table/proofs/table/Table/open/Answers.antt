use Rattle.std.proofs.Common.{◌≡◌, ◌+◌, ◌<◌, ◌≤◌, [], ◌∷◌, get_or, length, rules, take, ap, sym, ◌∙◌, subst, arith}
use Rattle.crossbeam_queue.specs.Passes.{IsPassOf}
use Rattle.tw_exchange.specs.Board.{workers}
use Rattle.tw_table.proofs.Deals.{IsDealt, all_dealt, deals_next, deals_none, enough, long_take, new_bounds, new_halted, new_stops, next_worker}
use Rattle.tw_table.proofs.Views.{lays, lays_on_empty}
use Rattle.tw_table.specs.Shares.{IsRuled, shares_of}
use Rattle.tw_table.specs.Views.{opened}
use Rattle.tw_table.proofs.table.Table.open.Goals as goal

pub lay-requires-clause-keeps : goal.lay-requires-clause-keeps
lay-requires-clause-keeps g c =
    lays _ _ c.requires.ruled.0 _ _ (search rules)
    (subst (λ x. IsRuled c.requires.ruled.0 x (shares_of c.args.shards.now c.args.hands.now)) (sym c.in-Ok-new.ensures.ok) c.requires.ruled.1)

pub lay-requires-clause-learns : goal.lay-requires-clause-learns
lay-requires-clause-learns g c = lays_on_empty _ _ (search rules)

pub lay-requires-clause-means : goal.lay-requires-clause-means
lay-requires-clause-means g c = λ v x w is. is

-- there is a shard for each worker
pub slice_bounds-shard-items-end : goal.slice_bounds-shard-items-end
slice_bounds-shard-items-end g c =
    let many : length (shares_of c.args.shards.now c.args.hands.now) ≡ workers c.args.exchange = c.requires.ruled.1.count in
    let most = enough c.args.shards.now c.args.hands.now in
    let same : c.workers-workers.result ≡ workers c.args.exchange = c.workers-workers.ensures.value in
    sym (long_take c.workers-workers.result c.args.shards.now (omega (arith, many, most, same)))

pub loop-shard-init : goal.loop-shard-init
loop-shard-init g c =
    let same = c.lay.ensures.queue in
    let pass = c.in-Ok-ruled.ensures.1 in (
      deals_none (IsPassOf c.in-Ok-ruled.queue) c.args.exchange (shares_of c.args.shards.now c.args.hands.now) c.lay.new.pass c.in-Ok.seats.items
          c.in-Ok.ensures.items (same.0 ∙ pass.0, same.2 ∙ pass.1)
          (c.lay.ensures.view ∙ ap (opened (shares_of c.args.shards.now c.args.hands.now)) c.in-Ok-new.ensures.ok),
      search rules,
      search rules,
    )

pub deal-seat-requires-clause-first : goal.deal-seat-requires-clause-first
deal-seat-requires-clause-first g c =
    let shards = c.args.shards.now in
    let same : c.workers-workers.result ≡ workers c.args.exchange = c.workers-workers.ensures.value in
    let s = c.shard-item.result in
    let inside : c.loop-shard.shard-index < length (take (workers c.args.exchange) shards)
    = subst (λ n. c.loop-shard.shard-index < length (take n shards)) same c.loop-shard-test.true in
    let there : s ≡ get_or (take (workers c.args.exchange) shards) c.loop-shard.shard-index s
    = subst (λ n. s ≡ get_or (take n shards) c.loop-shard.shard-index s) same c.shard-item.is in
    next_worker _ _ _ _ _ _ shards c.args.hands.now c.loop-shard.shard-index _ _ s c.loop-shard.invariant.0 c.requires.ruled.1.count inside there
    ∙ ap (λ w. w ∷ []) (sym c.worker.ensures)

pub loop-shard-preserved : goal.loop-shard-preserved
loop-shard-preserved g c =
    let of = IsPassOf c.in-Ok-ruled.queue in
    let n = workers c.args.exchange in
    let bound = c.args.exchange.bound in
    let stop = c.args.exchange.stop in
    let owners = c.args.exchange.owners in
    let halted = c.args.exchange.halted in
    let all = shares_of c.args.shards.now c.args.hands.now in
    let k = c.loop-shard.shard-index in
    let is = c.loop-shard.invariant.0 in
    let told = c.deal-seat.ensures in
    let same = told.queue.0 in (
      subst (IsDealt of n bound stop owners halted all (k + 1) c.deal-seat.new.pass) (sym c.push_reserved.ensures.items)
          (deals_next of n bound stop owners halted all k c.loop-shard.pass c.deal-seat.new.pass c.loop-shard.seats.items c.deal-seat.result is
          (same.0 ∙ is.pass.0, same.2 ∙ is.pass.1) told.queue.1 told.others told.first (told.bound ∙ c.bound-bound.ensures.value) (told.halted ∙ c.is_halted-halted.ensures)),
      search rules,
      search rules,
    )

pub returns-clause-shares : goal.returns-clause-shares
returns-clause-shares g c =
    let shards = c.args.shards.now in
    let same : c.workers-workers.result ≡ workers c.args.exchange = c.workers-workers.ensures.value in
    let past : length (take (workers c.args.exchange) shards) ≤ c.loop-shard.shard-index
    = subst (λ n. length (take n shards) ≤ c.loop-shard.shard-index) same c.loop-shard-test.false in
    all_dealt _ _ _ _ _ _ shards c.args.hands.now c.loop-shard.shard-index _ _ c.loop-shard.invariant.0 c.requires.ruled.1.count past

pub returns-clause-bounds : goal.returns-clause-bounds
returns-clause-bounds g c = new_bounds _ _ _ _ _ _ _ c.loop-shard.invariant.0.each

pub returns-clause-stops : goal.returns-clause-stops
returns-clause-stops g c = new_stops _ _ _ _ _ _ _ c.loop-shard.invariant.0.each

pub returns-clause-halted : goal.returns-clause-halted
returns-clause-halted g c = new_halted _ _ _ _ _ _ _ c.loop-shard.invariant.0.each
