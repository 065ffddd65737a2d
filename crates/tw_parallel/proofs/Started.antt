-- A parallel run whose routers have come stands where its workers have taken over.
use Rattle.std.proofs.Common.{◌≡◌, ℕ, ◌+◌, ◌<◌, ◌≤◌, ◌↔◌, Bool, true, List, [], ◌∷◌, Some, get_or, length, map, refl, ap, sym, ◌∙◌, subst, arith, slice_get, slice_index_or}
use Rattle.std.proofs.lemmas.List.{length-replicate}
use Rattle.std.proofs.lemmas.Option.{slice_get-get_or}
use Rattle.std.specs.List.{AllByRecursion}
use Rattle.std.specs.Prelude.{replicate}
use Rattle.tw_event.specs.Order.{event_before}
use Rattle.tw_exchange.specs.Board.{Board, opening_owned, who, workers}
use Rattle.tw_model.proofs.Lawful.{lawful}
use Rattle.tw_model.specs.Case.{Case, IsCase, simulation}
use Rattle.tw_model.specs.declared.limits.TheConstants.{LATEST}
use Rattle.tw_parallel.proofs.Coming.{closed_at, fit_below, fit_long}
use Rattle.tw_parallel.proofs.Cuts.{cancels_at, exchange_at, retains_at, settled_at, shares_at, sim_at}
use Rattle.tw_parallel.proofs.Shares.{long_shares}
use Rattle.tw_parallel.specs.Cut.{AreSharesAt, IsExchangeAt, StandAt}
use Rattle.tw_parallel.specs.Hands.{IsEmptyHand}
use Rattle.tw_parallel.specs.Moving.{fit}
use Rattle.tw_parallel.specs.Sim.{Sim, cancels_of}
use Rattle.tw_parallel.specs.declared.vacancy.Vacancy.{Vacancy}
use Rattle.tw_parallel.specs.Vacancy.{AreVacant, IsFilled, IsTakenOver, IsVacancy, Start, no_vacant, owner_in, start_from, start_of}
use Rattle.tw_seq.specs.Run.{IsBegun, Run}
use Rattle.tw_shard.specs.Cut.{IsShardAt}
use Rattle.tw_shard.specs.Shard.{Shard, no_shard}
use Rattle.tw_shard.specs.Vacant.{Vacant}
use Rattle.tw_sim.proofs.Counts.{times-insert_all}
use Rattle.tw_sim.proofs.Rising.{IsRising, rising-begin, rising-insert_all, rising-turns, same_rising}
use Rattle.tw_sim.specs.declared.machine.Cancel.{Cancel}
use Rattle.tw_sim.specs.Ordered.{insert_all}
use Rattle.tw_sim.specs.Seq.{begin}
use Rattle.tw_table.specs.declared.hand.Hand.{Hand}
use Rattle.tw_table.specs.Shares.{Share, shares_of}

-- shares that retain their events were opened to
first_retains : (case : Case) (whose : ℕ → ℕ) (time k : ℕ) (retains : Bool) (cancel : Cancel) (ts : List Share) → 0 < length ts → AreSharesAt case whose time k retains cancel ts
    → AllByRecursion (λ (t : Share). t.shard.terms.retains ≡ true) ts → retains ≡ true
first_retains case whose time k retains cancel [] some at all = absurd (omega arith)
first_retains case whose time k retains cancel (t ∷ ts) some at all = sym at.0.shard.retains_are ∙ all.0

module _ (s : Start) (is : IsCase s.case) (some : 0 < s.workers) (fits : fit s.case.net.nodes s.workers s.owners ≡ true) (most : s.time ≤ LATEST)
    (ss : List Shard) (hs : List Hand) (count : length ss ≡ s.workers) (same : length hs ≡ length ss) (empty : AllByRecursion IsEmptyHand hs)
    (closed : (k : ℕ) → k < length ss → IsShardAt s.case (owner_in s) s.time k s.retains s.cancel (get_or ss k no_shard)) where
  -- the exchange as it opens
  abbrev board : Board
  board = opening_owned s.owners s.workers s.time s.time

  abbrev shares : List Share
  shares = shares_of ss hs

  abbrev pub started : Sim
  started = record { case = s.case; board = board; shares = shares }

  many : workers board ≡ s.workers
  many = length-replicate s.workers (Some s.time)

  -- it names the worker of each router
  whose : who board ≡ owner_in s
  whose = ap (λ n r. slice_index_or s.owners r n) many

  long : length shares ≡ s.workers
  long = long_shares ss hs same ∙ count

  stand : StandAt s.case s.time s.retains s.cancel board shares
  stand = record {
    is_case = is;
    exchange = subst (λ n. IsExchangeAt n s.time board) (sym long) (exchange_at s.workers s.time s.time (Some s.owners) (omega arith));
    each = subst (λ w. AreSharesAt s.case w s.time 0 s.retains s.cancel shares) (sym whose)
        (shares_at s.case is (owner_in s) s.time s.retains s.cancel 0 ss hs same
        (λ j within. subst (λ k. IsShardAt s.case (owner_in s) s.time k s.retains s.cancel (get_or ss j no_shard)) (omega arith) (closed j within)) empty);
    routers = λ r known. (
        let below = fit_below s.case.net.nodes s.workers s.owners r (workers board) fits known in
        let all = long in
        omega arith);
  }

  pub is_started : IsTakenOver s started
  is_started =
      let all = long in
      let within : 0 < length shares = omega arith in
      record {
        sim = sim_at s.case s.time s.retains s.cancel board shares stand within most;
        settled = settled_at s.case s.time s.retains s.cancel board shares stand refl;
        case = refl;
        stop = refl;
        workers_are = many;
        owners = λ r known. (let n = fit_long s.case.net.nodes s.workers s.owners fits in slice_get-get_or s.owners r (workers board) (omega arith));
        retains = (
          λ all_do. retains_at s.case is (who board) s.time s.retains s.cancel 0 shares all_do stand.each,
          λ all_do. first_retains s.case (who board) s.time 0 s.retains s.cancel shares within stand.each all_do,
        );
        cancels = cancels_at s.case is (who board) s.time s.retains s.cancel 0 shares stand.each ∙ ap (λ n. replicate n s.cancel) long;
      }

abbrev pub with : List Shard → List Hand → Case → Board → Sim
with ss hs case board = record { case = case; board = board; shares = shares_of ss hs }

-- the parallel run that a vacancy becomes once its routers have come
pub started_of : (v : Vacancy) (owners : List ℕ) → IsVacancy v → 0 < (start_of v).workers → owners ≡ (start_of v).owners
    → fit (start_of v).case.net.nodes (start_of v).workers owners ≡ true
    → (vs : List Vacant) → AreVacant (start_from owners v.vacant.items) (start_of v).case.net.nodes vs
    → (ss : List Shard) → length ss ≡ length vs → ((k : ℕ) → k < length ss → IsFilled (get_or vs k no_vacant) (get_or ss k no_shard))
    → IsTakenOver (start_of v) (with ss v.hands.items v.case.now v.exchange) × (length v.hands.items ≡ length ss)
started_of v owners is some listed fits vs come ss long closed =
    let s = start_of v in
    let vacant : AreVacant s s.case.net.nodes vs = subst (λ os. AreVacant (start_from os v.vacant.items) s.case.net.nodes vs) listed come in
    let count : length ss ≡ s.workers = long ∙ vacant.count in
    let same : length v.hands.items ≡ length ss = is.hands ∙ sym count in
    let fit_here : fit s.case.net.nodes s.workers s.owners ≡ true = subst (λ os. fit s.case.net.nodes s.workers os ≡ true) listed fits in
    let at = is_started s (subst IsCase is.whose is.case) some fit_here is.most ss v.hands.items count same is.empty (closed_at s vs ss vacant long closed) in
    let case : s.case ≡ v.case.now = sym is.whose in
    let board : opening_owned s.owners s.workers s.time s.time ≡ v.exchange = sym is.board in
    (subst (λ c. IsTakenOver s (with ss v.hands.items c v.exchange)) case (subst (λ x. IsTakenOver s (with ss v.hands.items s.case x)) board at), same)

-- what waits for a run on one thread is in the order of events
pub in_order : (run : Run) → IsBegun run → insert_all event_before run.pending [] ≡ run.pending
in_order run is =
    let m = simulation run.case in
    let law = lawful run.case is.case in
    let rising = subst (λ w. IsRising m w.rest) is.turns.1 (rising-turns m law is.turns.0 run.stop (begin m) (rising-begin m law)) in
    same_rising m law (insert_all event_before run.pending []) run.pending (rising-insert_all m law run.pending [] tt) rising
    (λ e. let n = times-insert_all m e run.pending [] in omega arith)
