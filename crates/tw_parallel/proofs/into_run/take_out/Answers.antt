use Rattle.std.proofs.Common.{◌≡◌, ℕ, ◌<◌, ◌≤◌, Bool, true, List, get_or, is_some, length, set, refl, ap, sym, ◌∙◌, subst, arith}
use Rattle.std.proofs.lemmas.List.{get_or_default, length-set}
use Rattle.std.proofs.lemmas.List.FromFn.{length-map-range_with_len}
use Rattle.tw_exchange.specs.Board.{who}
use Rattle.tw_parallel.proofs.Leaving.{leaves_log, leaves_router, leaves_trace}
use Rattle.tw_parallel.proofs.Removing.{has_place, one_left, others_may, still_some}
use Rattle.tw_parallel.specs.Removal.{AreRemoved, MayLeave}
use Rattle.tw_seq.specs.Run.{complete_run, router_after}
use Rattle.tw_seq.specs.Traced.{trace_after}
use Rattle.tw_shard.specs.Cut.{IsGone}
use Rattle.tw_shard.specs.Past.{own_run}
use Rattle.tw_shard.specs.Shard.{HasTimeline, Shard, no_shard, owns, timeline}
use Rattle.tw_shard.specs.Timeline.{Timeline, history}
use Rattle.tw_model.specs.Case.{Case, simulation}
use Rattle.tw_sim.specs.Simulation.{only}
use Rattle.tw_parallel.proofs.into_run.take_out.Goals as goal

pub loop-number-init : goal.loop-number-init
loop-number-init c = record { left = c.requires.none; retains = refl; count = refl; each = λ r least known. c.requires.each r known }

module _ (c : goal.After-index_mut) where
  abbrev r : ℕ
  r = c.loop-number.number

  known : r < c.args.case.now.net.nodes
  known =
      let count = c.nodes-number-end.ensures.value ∙ ap (λ net. net.nodes) c.instance.ensures.value in
      let more = c.loop-number-test.true in
      omega arith

  may : MayLeave c.args.case.now c.args.exchange.now.stop r (is_some c.args.removal.logs) (get_or c.loop-number.shards.items (who c.args.exchange.now r) no_shard)
  may = c.loop-number.invariant.each r (omega arith) known

  within : who c.args.exchange.now r < length c.loop-number.shards.items
  within = let home = c.requires.homes r known in let count = c.loop-number.invariant.count in omega arith

  shard_is : c.index_mut.result.now ≡ get_or c.loop-number.shards.items (who c.args.exchange.now r) no_shard
  shard_is =
      let xs = c.loop-number.shards.items in
      let at = c.in-Some.ensures.value.1 in
      let here : c.in-Some.worker < length xs = let w = within in omega arith in
      c.index_mut.ensures.value ∙ (get_or_default xs c.in-Some.worker c.index_mut.result.now no_shard here ∙ ap (λ j. get_or xs j no_shard) at)

pub take_router-router-requires-clause-own : goal.take_router-router-requires-clause-own
take_router-router-requires-clause-own c = ap (λ (s : Shard). owns s (r c)) (shard_is c) ∙ (may c).own

pub take_router-router-requires-clause-committed : goal.take_router-router-requires-clause-committed
take_router-router-requires-clause-committed c = ap (λ (s : Shard). (timeline s (r c)).ahead) (shard_is c) ∙ (may c).ahead

pub add-requires-clause-routers : goal.add-requires-clause-routers
add-requires-clause-routers c =
    let left = c.loop-number.invariant.left in
    let events = (complete_run c.args.case.now c.args.exchange.now.stop).events in
    let long = ap length left.routers ∙ length-map-range_with_len (router_after c.args.case.now events) 0 c.loop-number.number in
    let len = c.loop-number.removal.routers.ok.0 in
    let room = left.router_room in
    let count = c.nodes-number-end.ensures.value ∙ ap (λ net. net.nodes) c.instance.ensures.value in
    let more = c.loop-number-test.true in
    omega arith

pub add-requires-clause-traces : goal.add-requires-clause-traces
add-requires-clause-traces c =
    let left = c.loop-number.invariant.left in
    let events = (complete_run c.args.case.now c.args.exchange.now.stop).events in
    let long = ap length left.traces ∙ length-map-range_with_len (trace_after c.args.case.now events) 0 c.loop-number.number in
    let len = c.loop-number.removal.traces.ok.0 in
    let room = left.trace_room in
    let count = c.nodes-number-end.ensures.value ∙ ap (λ net. net.nodes) c.instance.ensures.value in
    let more = c.loop-number-test.true in
    omega arith

pub add-requires-clause-logs : goal.add-requires-clause-logs
add-requires-clause-logs c =
    let left = c.loop-number.invariant.left in
    let case = c.args.case.now in
    let events = (complete_run case c.args.exchange.now.stop).events in
    let count = c.nodes-number-end.ensures.value ∙ ap (λ net. net.nodes) c.instance.ensures.value in
    let more = c.loop-number-test.true in
    has_place (λ r. only (simulation case) r events) case.net.nodes c.loop-number.number c.loop-number.removal.logs (omega arith) left.logs left.log_room

module _ (c : goal.After-add) where
  abbrev q : ℕ
  q = c.loop-number.number

  abbrev case : Case
  case = c.args.case.now

  abbrev time : ℕ
  time = c.args.exchange.now.stop

  abbrev xs_then : List Shard
  xs_then = c.loop-number.shards.items

  abbrev retains : Bool
  retains = is_some c.args.removal.logs

  known_then : q < case.net.nodes
  known_then =
      let count = c.nodes-number-end.ensures.value ∙ ap (λ net. net.nodes) c.instance.ensures.value in
      let more = c.loop-number-test.true in
      omega arith

  may_then : MayLeave case time q retains (get_or xs_then (who c.args.exchange.now q) no_shard)
  may_then = c.loop-number.invariant.each q (omega arith) known_then

  within_then : who c.args.exchange.now q < length xs_then
  within_then = let home = c.requires.homes q known_then in let count = c.loop-number.invariant.count in omega arith

  shard_then : c.index_mut.result.now ≡ get_or xs_then (who c.args.exchange.now q) no_shard
  shard_then =
      let at = c.in-Some.ensures.value.1 in
      let here : c.in-Some.worker < length xs_then = let w = within_then in omega arith in
      c.index_mut.ensures.value ∙ (get_or_default xs_then c.in-Some.worker c.index_mut.result.now no_shard here ∙ ap (λ j. get_or xs_then j no_shard) at)

  abbrev line : Timeline
  line = timeline c.index_mut.result.now q

  own_then : owns c.index_mut.result.now q ≡ true
  own_then = ap (λ (s : Shard). owns s q) shard_then ∙ may_then.own

  there : HasTimeline c.index_mut.result.now q
  there = c.take_router-router.ensures.whole.routers q own_then

  net : line.net ≡ case.net
  net = there.net ∙ (ap (λ (s : Shard). s.terms.case.net) shard_then ∙ ap (λ (k : Case). k.net) may_then.case_is)

  run : history line ≡ own_run case q time
  run = ap (λ (s : Shard). history (timeline s q)) shard_then ∙ may_then.run

  keeps_then : retains ≡ true → line.retains ≡ true
  keeps_then kept = there.retains ∙ (ap (λ (s : Shard). s.terms.retains) shard_then ∙ may_then.retains_are kept)

pub loop-number-preserved : goal.loop-number-preserved
loop-number-preserved c =
    let was = c.loop-number.invariant in
    let at = c.take_router-router.result in
    let of = c.take_router-router.ensures.router in
    let added = c.add.ensures in
    let is = c.requires.case in
    record {
      left = one_left (case c) (time c) (case c).net.nodes (q c) c.loop-number.removal c.add.new.removal at was.left added.routers added.traces added.logs added.router_room added.trace_room added.log_room
          (leaves_router (case c) is (time c) (q c) (line c) at (net c) (there c).node (run c) of)
          (leaves_trace (case c) is (time c) (q c) (line c) at (net c) (there c).node (run c) of)
          (λ some. leaves_log (case c) is (time c) (q c) (line c) at (net c) (there c).node (run c) of (keeps_then c (sym was.retains ∙ some)));
      retains = still_some c.loop-number.removal.logs c.add.new.removal.logs at.events.items added.logs ∙ was.retains;
      count = length-set (xs_then c) c.in-Some.worker c.take_router-router.new.self ∙ was.count;
      each = λ r least known.
          others_may (case c) (time c) (q c) r (retains c) c.args.exchange.now (xs_then c) (set (xs_then c) c.in-Some.worker c.take_router-router.new.self) c.take_router-router.new.self (within_then c)
          (ap (λ k. set (xs_then c) k c.take_router-router.new.self) c.in-Some.ensures.value.1)
          (subst (λ s. IsGone (q c) s c.take_router-router.new.self) (shard_then c) c.take_router-router.ensures.gone) (λ same. omega arith) (was.each r (omega arith) known);
    }

pub returns-clause-left : goal.returns-clause-left
returns-clause-left c =
    let count = c.nodes-number-end.ensures.value ∙ ap (λ net. net.nodes) c.instance.ensures.value in
    let past = c.loop-number-test.false in
    let most = c.loop-number.auto.number-end in
    let all : c.loop-number.number ≡ c.args.case.now.net.nodes = omega arith in
    subst (λ n. AreRemoved c.args.case.now c.args.exchange.now.stop c.args.case.now.net.nodes n c.loop-number.removal) all c.loop-number.invariant.left

pub returns-clause-retains : goal.returns-clause-retains
returns-clause-retains c = c.loop-number.invariant.retains
