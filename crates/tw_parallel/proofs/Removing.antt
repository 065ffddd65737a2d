-- Routers leave the shards of their workers, one by one.
use Rattle.std.proofs.Common.{◌≡◌, ℕ, ◌+◌, ◌<◌, ◌≤◌, ◌&&◌, ◌++◌, ◌∷◌, Bool, true, not, List, [], get_or, length, map, set, slice_get, ◌-◌, ◌↔◌, refl, ap, sym, ◌∙◌, subst, inl, inr, arith}
use Rattle.std.proofs.lemmas.Bool.{cases_eq, ne_eqb}
use Rattle.std.proofs.lemmas.List.{get_or-set_other, get_or-set_same, length-append, length-map, nil_from_length}
use Rattle.std.proofs.lemmas.List.FromFn.{length-map-range_with_len, map-range_with_len_more}
use Rattle.std.specs.declared.vec.Vec.{Vec}
use Rattle.std.specs.List.{range_with_len}
use Rattle.std.specs.Prelude.{IfSome, None, Option, Some, is_some, option_map, vec_capacity, vec_len}
use Rattle.tw_event.specs.declared.event.Event.{Event}
use Rattle.tw_core.specs.Machine.{Core, count_ahead}
use Rattle.tw_exchange.specs.Board.{Board, who, workers}
use Rattle.tw_model.specs.Case.{Case, simulation}
use Rattle.tw_parallel.proofs.Cuts.{run_of_share}
use Rattle.tw_parallel.proofs.Ends.{ended}
use Rattle.tw_parallel.proofs.Owners.{has_at, has_there, law, long, own_at}
use Rattle.tw_parallel.proofs.Shares.{long_shares, share_there}
use Rattle.tw_parallel.specs.declared.into_run.Removal.{Removal}
use Rattle.tw_parallel.specs.declared.sim.Sim.TheInside.{Inside}
use Rattle.tw_parallel.specs.Inside.{IsInside, sim_of}
use Rattle.tw_parallel.specs.Removal.{AreRemoved, MayLeave}
use Rattle.tw_parallel.specs.Settled.{HasNoRecords, IsSettled}
use Rattle.tw_parallel.specs.Sim.{IsSim, RetainsEvents, Sim, machine}
use Rattle.tw_seq.specs.Run.{complete_run, router_after}
use Rattle.tw_seq.specs.Traced.{lists_of, retained, trace_after}
use Rattle.tw_shard.specs.Cut.{IsGone, NoneAhead}
use Rattle.tw_shard.specs.declared.router_at.RouterAt.{RouterAt}
use Rattle.tw_shard.specs.Shard.{Shard, no_shard, owns, shard_core, timeline}
use Rattle.tw_shard.specs.Shards.{shard_for}
use Rattle.tw_shard.specs.Timeline.{Timeline, history}
use Rattle.tw_event.specs.Order.{event_before}
use Rattle.tw_sim.proofs.Counts.{times-insert_all}
use Rattle.tw_sim.proofs.Rising.{IsRising, rising-insert_all, same_rising}
use Rattle.tw_sim.specs.Ordered.{insert_all}
use Rattle.tw_sim.specs.Seq.{rest}
use Rattle.tw_sim.specs.Simulation.{only}
use Rattle.tw_table.specs.declared.hand.Hand.{Hand}
use Rattle.tw_table.specs.Shares.{Share, share, shares_of}
use Rattle.tw_parallel.proofs.Coming.{retained_some}

-- ---- what is added

-- a list of lists with a place more than it has lists
pub has_place : {Y Z : Type 0} (f : ℕ → List Event) (count r : ℕ) (logs : Option (Vec (Vec Event Z) Y)) → r < count → IfSome (retained logs) (λ lists. lists ≡ map f (range_with_len 0 r))
    → IfSome (option_map (λ logs. vec_capacity logs) logs) (λ room. count ≤ room) → IfSome logs (λ logs. vec_len logs < vec_capacity logs)
has_place {Z = Z} f count r None more are room = room
has_place {Z = Z} f count r (Some logs) more are room =
    let long = ap (λ lists. length lists) are ∙ length-map-range_with_len f 0 r in
    let many = length-map logs.items (λ (log : Vec Event Z). log.items) in
    let len = logs.ok.0 in
    omega arith

-- a list that is retained has one list more
one_retained : (f : ℕ → List Event) (r : ℕ) (log : List Event) (lists : Option (List (List Event))) → IfSome lists (λ lists. lists ≡ map f (range_with_len 0 r)) → (is_some lists ≡ true → log ≡ f r)
    → IfSome (option_map (λ lists. lists ++ log ∷ []) lists) (λ lists. lists ≡ map f (range_with_len 0 (r + 1)))
one_retained f r log None are is = are
one_retained f r log (Some lists) are is = (λ i. are i ++ is refl i ∷ []) ∙ sym (map-range_with_len_more f 0 r r (omega arith))

-- whether lists are kept stays
pub still_some : {Y Z : Type 0} (logs later : Option (Vec (Vec Event Z) Y)) (log : List Event) → retained later ≡ option_map (λ lists. lists ++ log ∷ []) (retained logs) → is_some later ≡ is_some logs
still_some logs later log same = sym (retained_some later) ∙ (ap (λ o. is_some o) same ∙ (mapped (retained logs) ∙ retained_some logs)) where
  mapped : (o : Option (List (List Event))) → is_some (option_map (λ lists. lists ++ log ∷ []) o) ≡ is_some o
  mapped (Some lists) = refl
  mapped None = refl

-- all lists that are retained
pub all_retained : {Y Z : Type 0} (all : List (List Event)) (logs : Option (Vec (Vec Event Z) Y)) → IfSome (retained logs) (λ lists. lists ≡ all) → IfSome logs (λ logs. lists_of logs.items ≡ all)
all_retained all None h = h
all_retained all (Some logs) h = h

module _ (case : Case) (time count r : ℕ) (x y : Removal) (at : RouterAt) (left : AreRemoved case time count r x) where
  -- a router more has left
  pub one_left : y.routers.items ≡ x.routers.items ++ at.router ∷ [] → y.traces.items ≡ x.traces.items ++ record { newest = at.newest; change = at.last_change } ∷ []
      → retained y.logs ≡ option_map (λ lists. lists ++ at.events.items ∷ []) (retained x.logs)
      → vec_capacity y.routers ≡ vec_capacity x.routers → vec_capacity y.traces ≡ vec_capacity x.traces
      → option_map (λ logs. vec_capacity logs) y.logs ≡ option_map (λ logs. vec_capacity logs) x.logs
      → at.router ≡ router_after case (complete_run case time).events r
      → record { newest = at.newest; change = at.last_change } ≡ trace_after case (complete_run case time).events r
      → (is_some x.logs ≡ true → at.events.items ≡ only (simulation case) r (complete_run case time).events)
      → AreRemoved case time count (r + 1) y
  one_left routers traces logs router_room trace_room log_room router trace log =
      let events = (complete_run case time).events in
      let routers_before = left.routers in
      let traces_before = left.traces in
      record {
        routers = routers ∙ ((λ i. routers_before i ++ router i ∷ []) ∙ sym (map-range_with_len_more (router_after case events) 0 r r (omega arith)));
        traces = traces ∙ ((λ i. traces_before i ++ trace i ∷ []) ∙ sym (map-range_with_len_more (trace_after case events) 0 r r (omega arith)));
        logs = subst (λ o. IfSome o (λ lists. lists ≡ map (λ r. only (simulation case) r events) (range_with_len 0 (r + 1)))) (sym logs)
            (one_retained (λ r. only (simulation case) r events) r at.events.items (retained x.logs) left.logs (λ some. log (sym (retained_some x.logs) ∙ some)));
        router_room = let room = left.router_room in omega arith;
        trace_room = let room = left.trace_room in omega arith;
        log_room = subst (λ o. IfSome o (λ room. count ≤ room)) (sym log_room) left.log_room;
      }

-- ---- what stays

-- once a router has left its worker's shard, the others may leave as before
pub others_may : (case : Case) (time r q : ℕ) (retains : Bool) (x : Board) (ss later : List Shard) (t : Shard) → who x r < length ss → later ≡ set ss (who x r) t
    → IsGone r (get_or ss (who x r) no_shard) t → (q ≡ r → ⊥) → MayLeave case time q retains (get_or ss (who x q) no_shard) → MayLeave case time q retains (get_or later (who x q) no_shard)
others_may case time r q retains x ss later t within changed gone other may =
    elim (cases_eq (who x q) (who x r)) [
      | inl same ↦ (
          let s = get_or ss (who x r) no_shard in
          let here : get_or later (who x q) no_shard ≡ t = (λ i. get_or (changed i) (same i) no_shard) ∙ get_or-set_same ss (who x r) t no_shard within in
          let was : MayLeave case time q retains s = subst (λ k. MayLeave case time q retains (get_or ss k no_shard)) same may in
          let own : owns t q ≡ true = gone.routers q ∙ ((λ i. was.own i && not (ne_eqb q r other i)) ∙ refl) in
          let line = gone.timelines q own in
          subst (MayLeave case time q retains) (sym here) (record {
            own = own;
            case_is = ap (λ (u : Shard). u.terms.case) gone.rest ∙ was.case_is;
            retains_are = λ does. ap (λ (u : Shard). u.terms.retains) gone.rest ∙ was.retains_are does;
            ahead = ap (λ (l : Timeline). l.ahead) line ∙ was.ahead;
            run = ap (λ (l : Timeline). history l) line ∙ was.run;
          }))
      | inr apart ↦ subst (MayLeave case time q retains) (sym (ap (λ xs. get_or xs (who x q) no_shard) changed ∙ get_or-set_other ss (who x r) (who x q) t no_shard (λ same. apart same))) may
    ]

-- ---- whether routers may leave

-- how many events of a router are ahead
ahead_count : (x : Shard) (r : ℕ) (C : Core Event) → owns x r ≡ true → (shard_core 0 x).history r ≡ C.history r → (shard_core 0 x).past r ≡ C.past r → count_ahead C r ≡ length (timeline x r).ahead
ahead_count x r C own same committed =
    let line = timeline x r in
    let here : (shard_core 0 x).history r ≡ line.ahead ++ line.past = rw own refl in
    let old : (shard_core 0 x).past r ≡ length line.past = rw own refl in
    let long = length-append line.ahead line.past in
    let all : length (C.history r) ≡ length (line.ahead ++ line.past) = ap (λ (es : List Event). length es) (sym same ∙ here) in
    omega arith

-- what is told of all routers is told of the machine
pub none_records : (a : Inside) → IsInside a → NoneAhead a.case.now a.shards.items ↔ HasNoRecords (sim_of a)
none_records a is = (
  λ none r known.
      let has = has_there a is r known in
      let x = shard_for a.shards.items r in
      ahead_count x r (machine (sim_of a)) has.own has.history has.past ∙ ap (λ (es : List Event). length es) (none r known),
  λ none r known.
      let has = has_there a is r known in
      let x = shard_for a.shards.items r in
      nil_from_length (timeline x r).ahead (sym (ahead_count x r (machine (sim_of a)) has.own has.history has.past) ∙ none r known),
)

-- of a settled run in which no router has a record, each may leave its worker's shard
pub may_leave : (s : Sim) → IsSim s → IsSettled s → HasNoRecords s → (ss : List Shard) (hs : List Hand) → s.shares ≡ shares_of ss hs → length hs ≡ length ss
    → (retains : Bool) → (retains ≡ true → RetainsEvents s) → (r : ℕ) → r < s.case.net.nodes
    → (who s.board r < length ss) × MayLeave s.case s.board.stop r retains (get_or ss (who s.board r) no_shard)
may_leave s is settled none ss hs shares same retains kept r known =
    let k = who s.board r in
    let home : k < workers s.board = is.ruled.rule.routers r known in
    let all = long s is in
    let many = long_shares ss hs same in
    let total = ap (λ (ts : List Share). length ts) shares in
    let within : k < length ss = omega arith in
    let found = share_there ss hs k no_shard same within in
    let x = get_or ss k no_shard in
    let t = share x found.0 in
    let there : slice_get s.shares k ≡ Some t = ap (λ ts. slice_get ts k) shares ∙ found.1 in
    let own = own_at s is r known t there in
    let has = has_at s is r known k t there own in (
      within,
      record {
        own = own;
        case_is = has.case;
        retains_are = λ all_do. has.retains (kept all_do);
        ahead = nil_from_length (timeline x r).ahead (sym (ahead_count x r (machine s) own has.history has.past) ∙ none r known);
        run = run_of_share s is settled k r t there own;
      },
    )

-- what waits at all workers, in the order of events, is what the run leaves
pub rest_again : (s : Sim) → IsSim s → IsSettled s → (pending : List Event) → pending ≡ insert_all event_before (machine s).pending []
    → insert_all event_before pending [] ≡ rest (simulation s.case) s.board.stop
rest_again s is settled pending told =
    let m = simulation s.case in
    let rising = subst (λ es. IsRising m es) (sym told) (rising-insert_all m (law s is) (machine s).pending [] tt) in
    same_rising m (law s is) (insert_all event_before pending []) pending (rising-insert_all m (law s is) pending [] tt) rising
    (λ e. let n = times-insert_all m e pending [] in omega arith)
    ∙ (told ∙ (ended s is settled).pending)
