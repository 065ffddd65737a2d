-- The least time of all that is loose.
use Rattle.std.proofs.Common.{◌≡◌, ℕ, ◌+◌, ◌<◌, ◌≤◌, List, [], ◌∷◌, ◌++◌, flat_map, fold, length, map, min, nat_lt, drop, get_or, ◌==◌, ◌&&◌, Ok, refl, ap, sym, ◌∙◌, subst, inl, inr, arith}
use Rattle.std.specs.List.{reduce}
use Rattle.std.specs.Option.{option_map_or}
use Rattle.std.proofs.Math.Path.{fun_ext}
use Rattle.std.proofs.Math.ListN.{get_or-map}
use Rattle.std.proofs.lemmas.Bool.{cases_Bool, cases_eq}
use Rattle.std.proofs.lemmas.List.{length-map, map-append}
use Rattle.std.specs.declared.vec.Vec.{Vec}
use Rattle.tw_core.specs.Machine.{AreCounted, Core, antimessages, messages}
use Rattle.tw_core.specs.Steps.{least_loose, least_time, with_bound}
use Rattle.tw_core.specs.Good.{IsGood}
use Rattle.tw_sim.specs.declared.machine.Signed.{Signed}
use Rattle.tw_sim.specs.Simulation.{Simulation, IsLawful, times}
use Rattle.tw_sim.proofs.Counts.{in_cons, in_head, times-append}
use Rattle.tw_core.proofs.Steps.{next_keeps}
use Rattle.tw_core.specs.Steps.{step}
use Rattle.tw_event.specs.declared.event.Event.{Event}
use Rattle.tw_event.specs.Order.{event_before}
use Rattle.tw_model.specs.Case.{Case, simulation}
use Rattle.tw_shard.specs.Shard.{Shard, shard_core}
use Rattle.tw_sim.specs.declared.machine.Step.TheVariants.{Bound}
use Rattle.tw_sim.specs.Owners.{owner}
use Rattle.tw_sim.specs.Ordered.{insert_all}
use Rattle.tw_sim.specs.Simulation.{one}
use Rattle.tw_warp.specs.Bounds.{least_of_all, raised}
use Rattle.tw_warp.specs.Flight.{all_of}
use Rattle.tw_warp.specs.Warp.{IsShare, IsWarp, Warp, no_shard, shard_at, warp_core, worker_with}
use Rattle.tw_warp.proofs.Moves.{has_worker, own_as}
use Rattle.tw_warp.proofs.Moves as moves
use Rattle.tw_warp.proofs.Turns.{any_default}
use Rattle.tw_warp.proofs.Walks.{drop_next}
use Rattle.tw_warp.proofs.InOrder.{times-in_order}

-- ---- numbers below a least time

module _ {S E : Type 0} (m : Simulation S E) where
  -- a number is not above the least time of some events and another time exactly where it is above none of them
  abbrev pub IsBelow : ℕ → List E → ℕ → Type 0
  IsBelow n xs t = (n ≤ t) × ((e : E) → 0 < times m e xs → n ≤ m.time e)

  pub is_below : IsLawful m → (n : ℕ) (xs : List E) (t : ℕ) → n ≤ least_time m xs t → IsBelow n xs t
  is_below law n [] t h = (h, (λ e none. absurd (omega arith)))
  is_below law n (x ∷ xs) t h =
      let rest = is_below law n xs t (omega arith) in (
        rest.0,
        (λ e there. elim (in_cons m law e x xs there) [
          | inl is ↦ subst (λ y. n ≤ m.time y) (sym is) (omega arith)
          | inr old ↦ rest.1 e old
        ]),
      )

  pub below_is : IsLawful m → (n : ℕ) (xs : List E) (t : ℕ) → IsBelow n xs t → n ≤ least_time m xs t
  below_is law n [] t h = h.0
  below_is law n (x ∷ xs) t h =
      let first = h.1 x (in_head m law x xs) in
      let rest = below_is law n xs t (h.0, (λ e there. h.1 e (let k = there in omega arith))) in
      omega arith

  -- two numbers that the same numbers are not above
  same_bound : (a b : ℕ) → ((n : ℕ) → n ≤ a → n ≤ b) → ((n : ℕ) → n ≤ b → n ≤ a) → a ≡ b
  same_bound a b f g = let left = f a (omega arith) in let right = g b (omega arith) in omega arith

  -- the least time of lists in which each event stands as often
  pub same_least_time : IsLawful m → (xs ys : List E) (s t : ℕ) → ((e : E) → times m e xs ≡ times m e ys) → s ≡ t → least_time m xs s ≡ least_time m ys t
  same_least_time law xs ys s t h is =
      same_bound (least_time m xs s) (least_time m ys t)
      (λ n le. let k = is_below law n xs s le in below_is law n ys t (subst (λ q. n ≤ q) is k.0, (λ e there. k.1 e (let c = h e in omega arith))))
      (λ n le. let k = is_below law n ys t le in below_is law n xs s (subst (λ q. n ≤ q) (sym is) k.0, (λ e there. k.1 e (let c = h e in omega arith))))

  -- one list after the other
  pub least-append : (xs ys : List E) (t : ℕ) → least_time m (xs ++ ys) t ≡ least_time m xs (least_time m ys t)
  least-append [] ys t = refl
  least-append (x ∷ xs) ys t = ap (min (m.time x)) (least-append xs ys t)

  least-min : (xs : List E) (n t : ℕ) → least_time m xs (min n t) ≡ min n (least_time m xs t)
  least-min [] n t = refl
  least-min (x ∷ xs) n t = (let h = least-min xs n t in omega arith)

  -- in either order
  pub least-swap : (xs ys : List E) (t : ℕ) → least_time m xs (least_time m ys t) ≡ least_time m ys (least_time m xs t)
  least-swap [] ys t = refl
  least-swap (x ∷ xs) ys t = ap (min (m.time x)) (least-swap xs ys t) ∙ sym (least-min ys (m.time x) (least_time m xs t))

  -- the lesser of a time and of the least of a list
  pub min_reduced : (xs : List E) (t : ℕ) → option_map_or (λ least. min t least) (reduce min (map m.time xs)) t ≡ least_time m xs t
  min_reduced [] t = refl
  min_reduced (x ∷ xs) t = go (m.time x) xs where
    go : (a : ℕ) (xs : List E) → min t (fold min a (map m.time xs)) ≡ min a (least_time m xs t)
    go a [] = omega arith
    go a (y ∷ ys) = (let h = go (min a (m.time y)) ys in omega arith)

  pub least_of_all_is : IsLawful m → {A : Type 0} (read : A → List E) (all : List A) (t : ℕ) → least_of_all m read all t ≡ least_time m (flat_map read all) t
  least_of_all_is law read [] t = refl
  least_of_all_is law read (a ∷ rest) t =
      least_of_all_is law read rest (least_time m (read a) t)
      ∙ (least-swap (flat_map read rest) (read a) t ∙ sym (least-append (read a) (flat_map read rest) t))

  -- a message further on
  pub least_next : (x : E) (xs : List E) (t : ℕ) → least_time m xs (min t (m.time x)) ≡ least_time m (x ∷ xs) t
  least_next x xs t = go xs where
    go : (xs : List E) → least_time m xs (min t (m.time x)) ≡ min (m.time x) (least_time m xs t)
    go [] = omega arith
    go (y ∷ ys) = (let h = go ys in omega arith)

  -- nothing loose is before the bound of a good state
  pub bound_below : IsLawful m → (C : Core E) → IsGood m C → C.bound ≤ least_loose m C
  bound_below law C good =
      below_is law C.bound C.pending (least_time m C.kept (least_time m (map (λ x. x.event) C.flight) (least_time m C.held C.stop))) (
        below_is law C.bound C.kept (least_time m (map (λ x. x.event) C.flight) (least_time m C.held C.stop)) (
          below_is law C.bound (map (λ x. x.event) C.flight) (least_time m C.held C.stop) (
            below_is law C.bound C.held C.stop (good.bound, (λ e there. good.late e (omega arith))),
            (λ e there. good.late e (let k = in_flight C.flight e there in omega arith)),
          ),
          (λ e there. good.late e (omega arith)),
        ),
        (λ e there. good.late e (omega arith)),
      ) where
        in_flight : (flight : List (Signed E)) (e : E) → 0 < times m e (map (λ x. x.event) flight) → 0 < messages m e flight + antimessages m e flight
        in_flight [] e there = let none : 0 < 0 = there in absurd (omega arith)
        in_flight (x ∷ flight) e there =
            let some : 0 < one m e x.event + times m e (map (λ x. x.event) flight) = there in
            elim (cases_eq (times m e (map (λ x. x.event) flight)) 0) [
              | inl none ↦ elim (cases_Bool x.plus) [
                | inl plus ↦ rw plus (omega arith)
                | inr minus ↦ rw minus (omega arith)
              ]
              | inr more ↦ (let k = in_flight flight e (grind arith) in omega arith)
            ]

-- ---- of the machine

-- all shards with this bound
abbrev pub at_bound : Warp → ℕ → Warp
at_bound w bound = record w { shards = map (raised bound) w.shards; bound = bound }

flat_map-raised : (read : Shard → List Event) (bound : ℕ) → ((s : Shard) → read (raised bound s) ≡ read s) → (ss : List Shard)
    → flat_map read (map (raised bound) ss) ≡ flat_map read ss
flat_map-raised read bound same [] = refl
flat_map-raised read bound same (s ∷ ss) = λ i. same s i ++ flat_map-raised read bound same ss i

module _ (w : Warp) (is : IsWarp w) (bound : ℕ) where
  count : length (map (raised bound) w.shards) ≡ length w.shards
  count = length-map w.shards (raised bound)

  shard_raised : (k : ℕ) → k < length w.shards → shard_at (at_bound w bound) k ≡ raised bound (shard_at w k)
  shard_raised k within =
      any_default (map (raised bound) w.shards) k no_shard (raised bound no_shard) (let same = count in omega arith) ∙ get_or-map (raised bound) w.shards k no_shard

  -- what is read of each router's shard, which does not depend on its bound
  read_raised : {A : Type 0} (read : Shard → ℕ → A) → ((s : Shard) (r : ℕ) → read (raised bound s) r ≡ read s r)
      → ◌≡◌ {A = ℕ → A} (λ r. read (shard_at (at_bound w bound) (worker_with (at_bound w bound) r)) r) (λ r. read (shard_at w (worker_with w r)) r)
  read_raised read same =
      fun_ext (λ r.
      let at : worker_with (at_bound w bound) r ≡ worker_with w r = ap (λ n. owner n r) count in
      ap (λ k. read (shard_at (at_bound w bound) k) r) at ∙ (ap (λ s. read s r) (shard_raised (worker_with w r) (has_worker w is r)) ∙ same (shard_at w (worker_with w r)) r))

  -- the machine with another bound
  pub core_raised : warp_core (at_bound w bound) ≡ record (warp_core w) { bound = bound }
  core_raised = λ i. record {
    history = read_raised (λ s r. (shard_core w.stop s).history r) (λ s r. refl) i;
    pending = insert_all event_before (flat_map-raised (λ s. s.pending) bound (λ s. refl) w.shards i) [];
    kept = insert_all event_before (flat_map-raised (λ s. s.kept) bound (λ s. refl) w.shards i) [];
    flight = w.flight;
    held = insert_all event_before (flat_map-raised (λ s. s.held) bound (λ s. refl) w.shards i) [];
    done = read_raised (λ s r. (shard_core w.stop s).done r) (λ s r. refl) i;
    past = read_raised (λ s r. (shard_core w.stop s).past r) (λ s r. refl) i;
    room = read_raised (λ s r. (shard_core w.stop s).room r) (λ s r. refl) i;
    bound = bound;
    stop = w.stop;
    cancel = w.cancel;
  }

  -- it is one where the bound is the least time of all that is loose
  pub raised_is : bound ≡ least_loose (simulation w.case) (warp_core w) → IsWarp (at_bound w bound)
  raised_is least =
      let m = simulation w.case in
      let reached : warp_core (at_bound w bound) ≡ with_bound m (warp_core w) = core_raised ∙ ap (λ b. record (warp_core w) { bound = b }) least in
      let rises = bound_below m (moves.law w is) (warp_core w) is.good in
      let same = count in
      record {
        case = is.case;
        workers = (let some = is.workers in omega arith);
        shares = λ k within.
            let old = is.shares k (omega arith) in
            let at = shard_raised k (omega arith) in
            let own = own_as w.case k (length w.shards) (length (map (raised bound) w.shards)) (shard_core w.stop (raised bound (shard_at w k))) (sym same)
            (record { history = old.own.history; waiting = old.own.waiting; held = old.own.held }) in
            let before = old.bound in
            subst (IsShare (at_bound w bound) k) (sym at) (record {
              case = old.case;
              worker = old.worker;
              routers = λ r. old.routers r ∙ (λ i. nat_lt r w.case.net.nodes && (owner (sym same i) r == k));
              bound = omega arith;
              retains = old.retains;
              cancel = old.cancel;
              outgoing = old.outgoing;
              held = old.held;
              own = own;
            });
        good = subst (IsGood m) (sym reached) (next_keeps m (moves.law w is) (warp_core w) Bound is.good).good;
        counted = subst (AreCounted m) (sym reached) is.counted;
        stop = is.stop;
      }

  pub bound_step : bound ≡ least_loose (simulation w.case) (warp_core w) → step (simulation w.case) (warp_core w) Bound ≡ Ok (warp_core (at_bound w bound))
  bound_step least = ap Ok (ap (λ b. record (warp_core w) { bound = b }) (sym least) ∙ sym core_raised)

-- the least time, as the code finds it
pub least_found : (w : Warp) → IsWarp w
    → least_of_all (simulation w.case) (λ s. s.pending ++ s.kept ++ s.held) w.shards (least_time (simulation w.case) (map (λ x. x.event) w.flight) w.stop)
    ≡ least_loose (simulation w.case) (warp_core w)
least_found w is =
    let m = simulation w.case in
    let flight = map (λ (x : Signed Event). x.event) w.flight in
    let top = least_time m flight w.stop in
    let P = flat_map (λ s. s.pending) w.shards in
    let K = flat_map (λ s. s.kept) w.shards in
    let H = flat_map (λ s. s.held) w.shards in
    least_of_all_is m (moves.law w is) (λ s. s.pending ++ s.kept ++ s.held) w.shards top
    ∙ (same_least_time m (moves.law w is) (flat_map (λ s. s.pending ++ s.kept ++ s.held) w.shards) (P ++ K ++ H) top top (λ e. all e w.shards) refl
    ∙ (least-append m (P ++ K) H top
    ∙ (least-append m P K (least_time m H top)
    ∙ in_order_too P (least_time m K (least_time m H top)) (least_time m (insert_all event_before K []) (least_time m flight (least_time m (insert_all event_before H []) w.stop)))
    (in_order_too K (least_time m H top) (least_time m flight (least_time m (insert_all event_before H []) w.stop))
    (least-swap m H flight w.stop ∙ ap (least_time m flight) (in_order_too H w.stop w.stop refl)))))) where
      -- a list in order has the same least time
      in_order_too : (xs : List Event) (s t : ℕ) → s ≡ t → least_time (simulation w.case) xs s ≡ least_time (simulation w.case) (insert_all event_before xs []) t
      in_order_too xs s t same =
          same_least_time (simulation w.case) (moves.law w is) xs (insert_all event_before xs []) s t
          (λ e. sym (times-in_order (simulation w.case) (moves.law w is) e xs)) same

      all : (e : Event) (ss : List Shard) → times (simulation w.case) e (flat_map (λ s. s.pending ++ s.kept ++ s.held) ss)
          ≡ times (simulation w.case) e (flat_map (λ s. s.pending) ss ++ flat_map (λ s. s.kept) ss ++ flat_map (λ s. s.held) ss)
      all e [] = refl
      all e (s ∷ ss) =
          let m = simulation w.case in
          let P = flat_map (λ (s : Shard). s.pending) ss in
          let K = flat_map (λ (s : Shard). s.kept) ss in
          let H = flat_map (λ (s : Shard). s.held) ss in
          let h = all e ss in
          let a = times-append m e (s.pending ++ s.kept ++ s.held) (flat_map (λ s. s.pending ++ s.kept ++ s.held) ss) in
          let b = times-append m e (s.pending ++ s.kept) s.held in
          let c = times-append m e s.pending s.kept in
          let d = times-append m e (P ++ K) H in
          let f = times-append m e P K in
          let g = times-append m e ((s.pending ++ P) ++ (s.kept ++ K)) (s.held ++ H) in
          let i = times-append m e (s.pending ++ P) (s.kept ++ K) in
          let j = times-append m e s.pending P in
          let k = times-append m e s.kept K in
          let l = times-append m e s.held H in
          omega arith

-- one message further on
pub in_flight_next : (case : Case) (xs : List (Signed Event)) (i : ℕ) (d : Signed Event) (a r : ℕ) → i < length xs → r ≡ min a (get_or xs i d).event.time
    → least_time (simulation case) (map (λ x. x.event) (drop (i + 1) xs)) r ≡ least_time (simulation case) (map (λ x. x.event) (drop i xs)) a
in_flight_next case xs i d a r within is =
    let m = simulation case in
    ap (least_time m (map (λ x. x.event) (drop (i + 1) xs))) is
    ∙ (least_next m (get_or xs i d).event (map (λ x. x.event) (drop (i + 1) xs)) a
    ∙ ap (λ ys. least_time m (map (λ x. x.event) ys) a) (sym (drop_next xs i d within)))

-- one chunk further on
pub chunk_next : {Z : Type 0} (case : Case) (chunks : List (Vec (Signed Event) Z)) (i : ℕ) (d : Vec (Signed Event) Z) (a r : ℕ) → i < length chunks
    → r ≡ least_time (simulation case) (map (λ x. x.event) (get_or chunks i d).items) a
    → least_time (simulation case) (map (λ x. x.event) (all_of (drop (i + 1) chunks))) r ≡ least_time (simulation case) (map (λ x. x.event) (all_of (drop i chunks))) a
chunk_next case chunks i d a r within is =
    let m = simulation case in
    let first = map (λ x. x.event) (get_or chunks i d).items in
    let rest = map (λ x. x.event) (all_of (drop (i + 1) chunks)) in
    ap (least_time m rest) is
    ∙ (least-swap m rest first a
    ∙ (sym (least-append m first rest a)
    ∙ (ap (λ es. least_time m es a) (sym (map-append (λ x. x.event) (get_or chunks i d).items (all_of (drop (i + 1) chunks))))
    ∙ ap (λ cs. least_time m (map (λ x. x.event) (all_of cs)) a) (sym (drop_next chunks i d within)))))

-- and the messages behind all chunks
pub least_behind : {Z : Type 0} (case : Case) (chunks : List (Vec (Signed Event) Z)) (recent : List (Signed Event)) (t : ℕ)
    → least_time (simulation case) (map (λ x. x.event) (all_of chunks)) (least_time (simulation case) (map (λ x. x.event) recent) t)
    ≡ least_time (simulation case) (map (λ x. x.event) (all_of chunks ++ recent)) t
least_behind case chunks recent t =
    let m = simulation case in
    sym (least-append m (map (λ x. x.event) (all_of chunks)) (map (λ x. x.event) recent) t)
    ∙ ap (λ es. least_time m es t) (sym (map-append (λ x. x.event) (all_of chunks) recent))
