use Rattle.std.proofs.Common.{◌≡◌, List, length, map, ap, refl, sym, ◌∙◌, subst, arith}
use Rattle.std.proofs.lemmas.List.{length-map}
use Rattle.std.specs.List.{AllByRecursion}
use Rattle.tw_parallel.proofs.Crews.{all_at_work}
use Rattle.tw_parallel.proofs.Rounds.{as_long, goes_on, not_below, same_numbers, same_stop, still_sim}
use Rattle.tw_parallel.proofs.SameOwners.{same_owners}
use Rattle.tw_parallel.specs.Inside.{sim_of_parts}
use Rattle.tw_parallel.specs.Sim.{GoesOn, HasSameOwners, IsSim}
use Rattle.tw_table.specs.Seats.{share_at, stop_at}
use Rattle.tw_table.specs.Shares.{Share, shares_of}
use Rattle.tw_threads.specs.Left.{IsFullAhead}
use Rattle.tw_workers.specs.Work.{AreSameShares, IsAtWork, Worker}
use Rattle.tw_parallel.proofs.run.run_at_table.Goals as goal
use Rattle.tw_parallel.proofs.Shares.{long_shares}

pub workers_of-workers-requires-clause-work : goal.workers_of-workers-requires-clause-work
workers_of-workers-requires-clause-work g c =
    let parts = c.args.parts in
    let all = shares_of parts.shards.items parts.hands.items in
    subst (λ n. AllByRecursion (IsAtWork n) all) (sym c.stop-stop.ensures.value)
    (all_at_work parts.exchange.stop all (λ i s e. c.shares_are_at_work.ensures parts.case.now parts.exchange all i s c.requires.sim.ruled e))

pub run_all-ran-requires-clause-seated : goal.run_all-ran-requires-clause-seated
run_all-ran-requires-clause-seated g c = λ places within.
    let n = c.args.parts.exchange.stop in
    let seats = c.in-Ok.opened.1.items in
    let workers = c.workers_of-workers.result.items in
    let shares : map share_at seats ≡ map (λ (w : Worker). w.share) workers
    = c.in-Ok.ensures.shares ∙ ((λ i. shares_of (c.deref.ensures.value i) (c.deref-2.ensures.value i)) ∙ sym c.workers_of-workers.ensures.shares) in
    let long : length seats ≡ length workers = sym (length-map seats share_at) ∙ (ap length shares ∙ length-map workers (λ (w : Worker). w.share)) in
    record {
      own = c.in-Ok.ensures.seats;
      shares = shares;
      stops = same_numbers stop_at (λ (w : Worker). w.stop) n seats workers long c.in-Ok.ensures.stops
          (subst (λ m. AllByRecursion (λ (w : Worker). w.stop ≡ m) workers) c.stop-stop.ensures.value c.workers_of-workers.ensures.stops);
    }

pub parts_of-shards-requires-clause-shards : goal.parts_of-shards-requires-clause-shards
parts_of-shards-requires-clause-shards g c =
    let share : Worker → Share = λ w. w.share in
    let old = c.workers_of-workers.result.items in
    let new = c.run_all-ran.result.workers.items in
    let n = sym (length-map new share) ∙ (as_long (map share old) (map share new) c.run_all-ran.ensures.same
    ∙ (ap length c.workers_of-workers.ensures.shares ∙ long_shares c.args.parts.shards.items c.args.parts.hands.items c.requires.hands)) in
    let m = c.requires.room.shards.1 in
    (c.requires.room.shards.0, omega (arith, n, m))

pub parts_of-shards-requires-clause-hands : goal.parts_of-shards-requires-clause-hands
parts_of-shards-requires-clause-hands g c =
    let share : Worker → Share = λ w. w.share in
    let old = c.workers_of-workers.result.items in
    let new = c.run_all-ran.result.workers.items in
    let n = sym (length-map new share) ∙ (as_long (map share old) (map share new) c.run_all-ran.ensures.same
    ∙ (ap length c.workers_of-workers.ensures.shares ∙ long_shares c.args.parts.shards.items c.args.parts.hands.items c.requires.hands)) in
    let m = c.requires.room.hands.1 in
    (c.requires.room.hands.0, omega (arith, n, m))

pub returns-clause-stop : goal.returns-clause-stop
returns-clause-stop g c =
    same_stop (sim_of_parts c.args.parts) c.run_all-ran.result.exchange.stop c.in-Ok.opened.1.items c.requires.sim
    (c.in-Ok.ensures.shares ∙ (λ i. shares_of (c.deref.ensures.value i) (c.deref-2.ensures.value i))) c.in-Ok.ensures.stops c.run_all-ran.ensures.stop

pub returns-clause-sim : goal.returns-clause-sim
returns-clause-sim g c =
    let ran = c.run_all-ran.ensures in
    let parts = c.args.parts in
    let share : Worker → Share = λ w. w.share in
    let new = map share c.run_all-ran.result.workers.items in
    let same : AreSameShares (sim_of_parts parts).shares new = subst (λ ss. AreSameShares ss new) c.workers_of-workers.ensures.shares ran.same in
    subst (λ (ss : List Share). IsSim (record { case = parts.case.now; board = c.run_all-ran.result.exchange; shares = ss })) (sym c.parts_of-shards.ensures.shares)
    (still_sim (sim_of_parts parts) c.run_all-ran.result.exchange new c.requires.sim ran.whole same (returns-clause-stop g c))

pub returns-clause-goes_on : goal.returns-clause-goes_on
returns-clause-goes_on g c =
    let ran = c.run_all-ran.ensures in
    let parts = c.args.parts in
    let share : Worker → Share = λ w. w.share in
    let new = map share c.run_all-ran.result.workers.items in
    let same : AreSameShares (sim_of_parts parts).shares new = subst (λ ss. AreSameShares ss new) c.workers_of-workers.ensures.shares ran.same in
    let bound = not_below (sim_of_parts parts) c.run_all-ran.result.exchange.bound c.in-Ok.opened.1.items c.requires.sim
    (c.in-Ok.ensures.shares ∙ (λ i. shares_of (c.deref.ensures.value i) (c.deref-2.ensures.value i))) c.in-Ok.ensures.bounds ran.bound in
    subst (λ (ss : List Share). GoesOn (sim_of_parts parts) (record { case = parts.case.now; board = c.run_all-ran.result.exchange; shares = ss })) (sym c.parts_of-shards.ensures.shares)
    (goes_on (sim_of_parts parts) c.run_all-ran.result.exchange new c.requires.sim ran.whole same bound)

pub returns-clause-full : goal.returns-clause-full
returns-clause-full g c = λ is.
    subst (IsFullAhead c.run_all-ran.result.exchange.stop) (sym c.parts_of-shards.ensures.shares) (c.run_all-ran.ensures.full is)

pub returns-clause-owners : goal.returns-clause-owners
returns-clause-owners g c =
    let ran = c.run_all-ran.ensures in
    let parts = c.args.parts in
    let share : Worker → Share = λ w. w.share in
    let new = map share c.run_all-ran.result.workers.items in
    let same : AreSameShares (sim_of_parts parts).shares new = subst (λ ss. AreSameShares ss new) c.workers_of-workers.ensures.shares ran.same in
    let still = still_sim (sim_of_parts parts) c.run_all-ran.result.exchange new c.requires.sim ran.whole same (returns-clause-stop g c) in
    subst (λ (ss : List Share). HasSameOwners (sim_of_parts parts) (record { case = parts.case.now; board = c.run_all-ran.result.exchange; shares = ss })) (sym c.parts_of-shards.ensures.shares)
    (same_owners (sim_of_parts parts) (record { case = parts.case.now; board = c.run_all-ran.result.exchange; shares = new }) c.requires.sim still refl same)
