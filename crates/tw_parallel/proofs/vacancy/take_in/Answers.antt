use Rattle.std.proofs.Common.{◌≡◌, ℕ, ◌+◌, ◌<◌, ◌∷◌, [], List, Some, true, drop, get_or, length, rules, set, slice_get, ap, sym, ◌∙◌, subst, arith, vec_len}
use Rattle.std.proofs.lemmas.List.{get_or_default, nil_from_length}
use Rattle.std.proofs.lemmas.List.FromFn.{get_or-map-range_with_len, length-map-range_with_len}
use Rattle.std.specs.Prelude.{option_map}
use Rattle.std.specs.Vec.Iter.{into_iter_items}
use Rattle.tw_model.specs.State.{Router}
use Rattle.tw_parallel.proofs.Coming.{AreComing, all_came, fit_below, fit_long, log_of, next_came, next_missing, next_of, none_came, number_known, place_is, retained_long, retained_some}
use Rattle.tw_parallel.proofs.Leaving.{comes}
use Rattle.tw_parallel.specs.Moving.{fit}
use Rattle.tw_parallel.specs.Vacancy.{AreVacant, Start, no_vacant, owner_in, start_from, vacant_from}
use Rattle.tw_seq.specs.Run.{complete_run}
use Rattle.tw_seq.specs.Traced.{no_trace, retained, trace_after}
use Rattle.tw_shard.specs.Cut.{IsRouterOf, timeline_at}
use Rattle.tw_shard.specs.declared.router_at.RouterAt.{RouterAt}
use Rattle.tw_shard.specs.Vacant.{Vacant}
use Rattle.tw_parallel.proofs.vacancy.take_in.Goals as goal

pub loop-router-init : goal.loop-router-init
loop-router-init c =
    let s = start_from c.args.owners.now c.args.vacant.items in
    let routers = c.into_iter-router-iterator.ensures.into_iter_gives in
    let many : length c.args.routers.items ≡ vec_len c.args.routers = search rules in
    record {
      from = 0;
      coming = none_came s (into_iter_items c.into_iter-router-iterator.result) c.args.logs c.args.vacant.items (routers.0 ∙ c.requires.routers) c.requires.logs c.requires.retains c.requires.vacant;
      rest = ap length routers.0 ∙ (many ∙ sym routers.1);
    }

pub bounds-traces-number : goal.bounds-traces-number
bounds-traces-number c =
    let s = start_from c.args.owners.now c.args.vacant.items in
    let from = c.loop-router.invariant.from in
    let logs = retained c.loop-router.logs in
    let vs = c.loop-router.vacant.items in
    let are = subst (λ rs. AreComing s from rs logs vs) c.in-Some.ensures.steps.0 c.loop-router.invariant.coming in
    let at = number_known s from c.node-number.result c.in-Some.router (into_iter_items c.next.new.self) logs vs are c.node-number.ensures.value in
    let long = ap length c.requires.traces ∙ length-map-range_with_len (trace_after s.case (complete_run s.case s.time).events) 0 s.case.net.nodes in
    let known = at.1 in
    omega arith

pub take_log-events-requires : goal.take_log-events-requires
take_log-events-requires c =
    let s = start_from c.args.owners.now c.args.vacant.items in
    let from = c.loop-router.invariant.from in
    let logs = retained c.loop-router.logs in
    let vs = c.loop-router.vacant.items in
    let are = subst (λ rs. AreComing s from rs logs vs) c.in-Some.ensures.steps.0 c.loop-router.invariant.coming in
    let at = number_known s from c.node-number.result c.in-Some.router (into_iter_items c.next.new.self) logs vs are c.node-number.ensures.value in
    retained_long c.node-number.result s.case.net.nodes c.loop-router.logs at.1 are.long

pub bounds-owners-number : goal.bounds-owners-number
bounds-owners-number c =
    let s = start_from c.args.owners.now c.args.vacant.items in
    let from = c.loop-router.invariant.from in
    let logs = retained c.loop-router.logs in
    let vs = c.loop-router.vacant.items in
    let are = subst (λ rs. AreComing s from rs logs vs) c.in-Some.ensures.steps.0 c.loop-router.invariant.coming in
    let at = number_known s from c.node-number.result c.in-Some.router (into_iter_items c.next.new.self) logs vs are c.node-number.ensures.value in
    let long = fit_long s.case.net.nodes s.workers c.args.owners.now c.requires.fit in
    let known = at.1 in
    omega arith

pub index_mut-requires : goal.index_mut-requires
index_mut-requires c =
    let s = start_from c.args.owners.now c.args.vacant.items in
    let from = c.loop-router.invariant.from in
    let logs = retained c.loop-router.logs in
    let vs = c.loop-router.vacant.items in
    let are = subst (λ rs. AreComing s from rs logs vs) c.in-Some.ensures.steps.0 c.loop-router.invariant.coming in
    let at = number_known s from c.node-number.result c.in-Some.router (into_iter_items c.next.new.self) logs vs are c.node-number.ensures.value in
    let below = fit_below s.case.net.nodes s.workers c.args.owners.now c.node-number.result 0 c.requires.fit at.1 in
    let count = are.shards_are.count in
    let len = c.loop-router.vacant.ok.0 in
    omega arith

-- the shard at a worker's place
at_place : (s : Start) (from number : ℕ) (vs : List Vacant) (v : Vacant) → number ≡ from → number < s.case.net.nodes → fit s.case.net.nodes s.workers s.owners ≡ true → AreVacant s from vs
    → v ≡ get_or vs (get_or s.owners number 0) v → (v ≡ get_or vs (owner_in s from) no_vacant) × (owner_in s from < s.workers) × (get_or s.owners number 0 ≡ owner_in s from)
at_place s from number vs v same known fits are read =
    let long = fit_long s.case.net.nodes s.workers s.owners fits in
    let below = fit_below s.case.net.nodes s.workers s.owners number 0 fits known in
    let count = are.count in
    let place = place_is s from number same (omega arith) in
    let home = subst (λ k. k < s.workers) place below in
    (read ∙ (get_or_default vs (get_or s.owners number 0) v no_vacant (omega arith) ∙ ap (λ k. get_or vs k no_vacant) place), home, place)

pub take_in-requires-clause-next : goal.take_in-requires-clause-next
take_in-requires-clause-next c =
    let s = start_from c.args.owners.now c.args.vacant.items in
    let from = c.loop-router.invariant.from in
    let logs = retained c.loop-router.logs in
    let vs = c.loop-router.vacant.items in
    let are = subst (λ rs. AreComing s from rs logs vs) c.in-Some.ensures.steps.0 c.loop-router.invariant.coming in
    let at = number_known s from c.node-number.result c.in-Some.router (into_iter_items c.next.new.self) logs vs are c.node-number.ensures.value in
    let place = at_place s from c.node-number.result vs c.index_mut.result.now at.0 at.1 c.requires.fit are.shards_are c.index_mut.ensures.value in
    let next = next_of s from c.in-Some.router (into_iter_items c.next.new.self) logs vs are in
    ap (λ (v : Vacant). slice_get v.missing 0) place.0 ∙ (next_missing s from vs next.0 place.1 are.shards_are ∙ ap (λ (r : Router). Some r.node) (sym next.1))

pub take_in-requires-clause-router : goal.take_in-requires-clause-router
take_in-requires-clause-router c =
    let s = start_from c.args.owners.now c.args.vacant.items in
    let from = c.loop-router.invariant.from in
    let logs = retained c.loop-router.logs in
    let vs = c.loop-router.vacant.items in
    let nodes = s.case.net.nodes in
    let events = (complete_run s.case s.time).events in
    let are = subst (λ rs. AreComing s from rs logs vs) c.in-Some.ensures.steps.0 c.loop-router.invariant.coming in
    let at = number_known s from c.node-number.result c.in-Some.router (into_iter_items c.next.new.self) logs vs are c.node-number.ensures.value in
    let place = at_place s from c.node-number.result vs c.index_mut.result.now at.0 at.1 c.requires.fit are.shards_are c.index_mut.ensures.value in
    let next = next_of s from c.in-Some.router (into_iter_items c.next.new.self) logs vs are in
    let v_is : c.index_mut.result.now ≡ vacant_from s from (owner_in s from) = place.0 ∙ are.shards_are.each (owner_in s from) place.1 in
    let trace = get_or c.args.traces.now c.node-number.result no_trace in
    let x : RouterAt = record { router = c.in-Some.router; events = c.take_log-events.result; newest = trace.newest; last_change = trace.change } in
    let at_number : 0 + c.node-number.result ≡ from = (let same = at.0 in omega arith) in
    let traced : trace ≡ trace_after s.case events from = ap (λ ts. get_or ts c.node-number.result no_trace) c.requires.traces
    ∙ get_or-map-range_with_len (trace_after s.case events) 0 nodes c.node-number.result from no_trace at.1 at_number in
    let node : c.in-Some.router.node ≡ from = ap (λ (r : Router). r.node) next.1 in
    let of = comes s.case c.requires.case s.time from s.retains x next.1 traced
    (λ kept_so. log_of s from c.node-number.result c.take_log-events.result.items c.loop-router.logs at.0 next.0 (sym (retained_some c.loop-router.logs) ∙ (are.retains ∙ kept_so)) c.take_log-events.ensures.log are.logs_are) in
    subst (λ t. IsRouterOf t x) (λ i. timeline_at (sym v_is i).case (sym v_is i).retains (sym v_is i).time (sym node i)) of

pub loop-router-preserved : goal.loop-router-preserved
loop-router-preserved c =
    let s = start_from c.args.owners.now c.args.vacant.items in
    let from = c.loop-router.invariant.from in
    let logs = retained c.loop-router.logs in
    let later = retained c.take_log-events.new.logs in
    let vs = c.loop-router.vacant.items in
    let number = c.node-number.result in
    let rest = into_iter_items c.next.new.self in
    let step = c.in-Some.ensures.steps in
    let are = subst (λ rs. AreComing s from rs logs vs) step.0 c.loop-router.invariant.coming in
    let at = number_known s from number c.in-Some.router rest logs vs are c.node-number.ensures.value in
    let place = at_place s from number vs c.index_mut.result.now at.0 at.1 c.requires.fit are.shards_are c.index_mut.ensures.value in
    let v = c.take_in.new.self in
    record {
      from = from + 1;
      coming = next_came s from c.in-Some.router rest logs later vs (set vs (get_or c.args.owners.now number 0) v) v are place.1
          (c.take_log-events.ensures.others ∙ ap (λ r. option_map (λ lists. set lists r []) logs) at.0)
          (c.take_in.ensures ∙ ap (λ (u : Vacant). record u { missing = drop 1 u.missing }) place.0)
          (ap (λ k. set vs k v) place.2);
      rest = (let long = ap length step.0 in omega (arith, c.loop-router.invariant.rest, step.1, long));
    }

pub returns : goal.returns
returns c =
    let s = start_from c.args.owners.now c.args.vacant.items in
    let was = c.loop-router.invariant in
    let none = nil_from_length (into_iter_items c.loop-router.router-iterator) (was.rest ∙ c.in-None.ensures.steps.0) in
    all_came s was.from (retained c.loop-router.logs) c.loop-router.vacant.items (subst (λ rs. AreComing s was.from rs (retained c.loop-router.logs) c.loop-router.vacant.items) none was.coming)
