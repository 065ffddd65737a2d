-- A run that has come to its stop leaves what the one-thread run leaves.
use Rattle.std.proofs.Common.{◌≡◌, ℕ, zero, suc, ◌+◌, ◌<◌, ◌≤◌, Bool, IsTrue, true, List, [], ◌∷◌, ◌++◌, drop, filter, flat_map, length, map, nat_lt, reverse, slice_index, refl, ap, sym, ◌∙◌, subst, inl, inr, arith}
use Rattle.std.proofs.Math.Path.{fun_ext}
use Rattle.std.proofs.lemmas.Bool.{cases_Bool, cases_eq, ltb-false, ltb-true}
use Rattle.std.proofs.lemmas.List.{length-append, map-append}
use Rattle.std.proofs.lemmas.List.FromFn.{map-range_with_len_more}
use Rattle.std.specs.List.{range_with_len}
use Rattle.tw_core.proofs.Headline.{at_end}
use Rattle.tw_core.specs.Machine.{committed}
use Rattle.tw_core.specs.Parts.{Part, total}
use Rattle.tw_core.specs.Run as run
use Rattle.tw_core.specs.Run.{IsAtEnd}
use Rattle.tw_event.specs.declared.event.Event.{Event}
use Rattle.tw_exchange.specs.Board.{all_mail}
use Rattle.tw_model.proofs.Lawful.{numbered}
use Rattle.tw_model.specs.Case.{simulation}
use Rattle.tw_model.specs.Quiet.{last_change}
use Rattle.tw_parallel.proofs.Changes.{last_of_all}
use Rattle.tw_parallel.proofs.Owners.{good_of, law}
use Rattle.tw_parallel.specs.Settled.{IsSettled, ahead_of, change_of, states_at, states_of}
use Rattle.tw_parallel.specs.Inside.{IsInside, sim_of}
use Rattle.tw_parallel.specs.Sim.{IsSim, Sim, committed_events, machine}
use Rattle.tw_parallel.specs.declared.sim.Sim.TheInside.{Inside}
use Rattle.tw_rule.specs.Place.{part_of}
use Rattle.tw_shape.proofs.Stillness.{gathered}
use Rattle.tw_shape.specs.Shape.{Draft, Shape, bare, seen_from, shape}
use Rattle.tw_shard.specs.Shard.{Shard}
use Rattle.tw_shard.specs.Shards.{greatest}
use Rattle.tw_shard.specs.Timeline.{last_change_at}
use Rattle.tw_sim.proofs.Closed.{log_closed}
use Rattle.tw_sim.proofs.Counts.{times-insert_all}
use Rattle.tw_sim.proofs.Rising.{IsRising, rising-insert_all, same_rising}
use Rattle.tw_sim.specs.Seq.{insert_all, log}
use Rattle.tw_sim.specs.Simulation.{IsFalling, times}
use Rattle.tw_sim.specs.declared.machine.Signed.{Signed}
use Rattle.tw_table.specs.declared.hand.Hand.{Hand}
use Rattle.tw_table.specs.Shares.{place_of, shares_of}
use Rattle.tw_warp.proofs.Dealt.{all_there, together}

-- ---- what is on its way

abbrev pub held : Hand → List (Signed Event)
held h = drop h.next h.mail.items ++ h.out.items

-- in hands and in shards
parts_flight : (stop : ℕ) (ss : List Shard) (hs : List Hand) → length hs ≡ length ss
    → length (flat_map (λ (p : Part Event). p.core.flight) (map (part_of stop) (map place_of (shares_of ss hs))))
    ≡ length (flat_map held hs) + length (flat_map (λ (s : Shard). s.outgoing) ss)
parts_flight stop [] [] same = refl
parts_flight stop [] (h ∷ hs) same = absurd (omega arith)
parts_flight stop (s ∷ ss) [] same = absurd (omega arith)
parts_flight stop (s ∷ ss) (h ∷ hs) same =
    let more = parts_flight stop ss hs (omega arith) in
    let a = length-append (held h ++ s.outgoing) (flat_map (λ (p : Part Event). p.core.flight) (map (part_of stop) (map place_of (shares_of ss hs)))) in
    let b = length-append (held h) s.outgoing in
    let c = length-append (held h) (flat_map held hs) in
    let d = length-append s.outgoing (flat_map (λ (s : Shard). s.outgoing) ss) in
    omega arith

pub flight_count : (s : Sim) (ss : List Shard) (hs : List Hand) → s.shares ≡ shares_of ss hs → length hs ≡ length ss
    → length (machine s).flight ≡ length (all_mail s.board) + (length (flat_map held hs) + length (flat_map (λ (s : Shard). s.outgoing) ss))
flight_count s ss hs shares same =
    let all = length-append (all_mail s.board) (flat_map (λ (p : Part Event). p.core.flight) (map (part_of s.board.stop) (map place_of s.shares))) in
    let parts : length (flat_map (λ (p : Part Event). p.core.flight) (map (part_of s.board.stop) (map place_of s.shares)))
    ≡ length (flat_map held hs) + length (flat_map (λ (s : Shard). s.outgoing) ss)
    = ap (λ ts. length (flat_map (λ (p : Part Event). p.core.flight) (map (part_of s.board.stop) (map place_of ts)))) shares ∙ parts_flight s.board.stop ss hs same in
    omega arith

-- the same of the fields
pub in_flight : (a : Inside) → IsInside a
    → length (machine (sim_of a)).flight ≡ length (all_mail a.exchange) + (length (flat_map held a.hands.items) + length (flat_map (λ (s : Shard). s.outgoing) a.shards.items))
in_flight a is = flight_count (sim_of a) a.shards.items a.hands.items refl is.hands

-- whether nothing is on its way
abbrev pub TellsStill : Bool → Sim → Type 0
TellsStill b s = (IsTrue b → (machine s).flight ≡ []) × ((machine s).flight ≡ [] → IsTrue b)

-- ---- what is held

-- in shards
parts_held : (stop : ℕ) (ss : List Shard) (hs : List Hand) → length hs ≡ length ss
    → flat_map (λ (p : Part Event). p.core.held) (map (part_of stop) (map place_of (shares_of ss hs))) ≡ flat_map (λ (s : Shard). s.held) ss
parts_held stop [] hs same = refl
parts_held stop (s ∷ ss) [] same = absurd (omega arith)
parts_held stop (s ∷ ss) (h ∷ hs) same = ap (λ es. s.held ++ es) (parts_held stop ss hs (omega arith))

-- the same of the fields
pub in_shards : (a : Inside) → IsInside a → (machine (sim_of a)).held ≡ flat_map (λ (s : Shard). s.held) a.shards.items
in_shards a is = parts_held a.exchange.stop a.shards.items a.hands.items is.hands

-- whether nothing is held
abbrev pub HoldsNothing : Bool → Sim → Type 0
HoldsNothing b s = (IsTrue b → (machine s).held ≡ []) × ((machine s).held ≡ [] → IsTrue b)

-- ---- what is not committed

shorter : {X : Type 0} (p : X → Bool) (xs : List X) → length (filter p xs) ≤ length xs
shorter p [] = omega arith
shorter p (x ∷ xs) =
    let h = shorter p xs in
    elim (cases_Bool (p x)) [
      | inl keeps ↦ rw keeps (omega arith)
      | inr drops ↦ rw drops (omega arith)
    ]

-- a filter that leaves as many leaves all
whole_filter : {X : Type 0} (p : X → Bool) (xs : List X) → length xs ≤ length (filter p xs) → filter p xs ≡ xs
whole_filter p [] h = refl
whole_filter p (x ∷ xs) h =
    elim (cases_Bool (p x)) [
      | inl keeps ↦ (
          let kept : length (filter p (x ∷ xs)) ≡ suc (length (filter p xs)) = rw keeps refl in
          rw keeps (ap (λ ys. x ∷ ys) (whole_filter p xs (omega arith))))
      | inr drops ↦ (
          let left : length (filter p (x ∷ xs)) ≡ length (filter p xs) = rw drops refl in
          let few = shorter p xs in
          absurd (omega arith))
    ]

-- a sum is 0 where each term is, and only there
all_zero : (f : ℕ → ℕ) (from n : ℕ) → ((r : ℕ) → r < from + n → f r ≡ 0) → total f (range_with_len from n) ≡ 0
all_zero f from zero h = refl
all_zero f from (suc n) h =
    let first = h from (omega arith) in
    let more = all_zero f (from + 1) n (λ r l. h r (omega arith)) in
    omega arith

zero_each : (f : ℕ → ℕ) (from n r : ℕ) → total f (range_with_len from n) ≡ 0 → from ≤ r → r < from + n → f r ≡ 0
zero_each f from zero r h least most = absurd (omega arith)
zero_each f from (suc n) r h least most =
    elim (cases_eq r from) [
      | inl here ↦ (let same : f r ≡ f from = ap f here in omega arith)
      | inr later ↦ zero_each f (from + 1) n r (omega arith) (grind arith) (omega arith)
    ]

pub settled_from : (s : Sim) → (machine s).bound ≡ (machine s).stop → (machine s).flight ≡ [] → (machine s).held ≡ []
    → total (λ r. ahead_of s r) (range_with_len 0 s.case.net.nodes) ≡ 0 → IsSettled s
settled_from s bound flight held none_ahead = record {
  bound = bound;
  flight = flight;
  held = held;
  committed = λ r l.
      let zero_here = zero_each (λ r. ahead_of s r) 0 s.case.net.nodes r none_ahead (omega arith) (omega arith) in
      whole_filter _ ((machine s).history r) (omega arith);
}

pub none_ahead : (s : Sim) → IsSettled s → total (λ r. ahead_of s r) (range_with_len 0 s.case.net.nodes) ≡ 0
none_ahead s settled =
    all_zero (λ r. ahead_of s r) 0 s.case.net.nodes (λ r l.
    let same = ap length (settled.committed r (omega arith)) in omega arith)

-- ---- what is left at the stop

module _ (s : Sim) (is : IsSim s) (settled : IsSettled s) where
  -- its machine is settled
  pub machine_settled : run.IsSettled (simulation s.case) (machine s)
  machine_settled = record {
    flight = settled.flight;
    held = settled.held;
    pending = λ e there. let late = (good_of s is).late e (omega arith) in let last = settled.bound in omega arith;
  }

  pub ended : IsAtEnd (simulation s.case) (machine s)
  ended = at_end (simulation s.case) (law s is) (numbered s.case is.ruled.is_case) (machine s) (good_of s is) machine_settled

  pub all_states : states_of s ≡ states_at s.case s.board.stop
  all_states = ap (λ f. map f (range_with_len 0 s.case.net.nodes)) (fun_ext ended.states)

  -- the run is falling
  run_falls : IsFalling (simulation s.case) (log (simulation s.case) s.board.stop)
  run_falls = (log_closed (simulation s.case) (law s is) (numbered s.case is.ruled.is_case) s.board.stop).falling

  -- what a router has handled suits it
  suits : (e : Event) → 0 < times (simulation s.case) e ((machine s).history e.dst) → (simulation s.case).suits e ≡ true
  suits e there = (good_of s is).suit e (omega arith)

  -- the committed events are the run
  pub all_committed : committed_events s ≡ reverse (log (simulation s.case) s.board.stop)
  all_committed =
      let m = simulation s.case in
      together m (law s is) (log m s.board.stop) run_falls (machine s).history ended.events suits (λ r. committed m (machine s) r) (λ r l. settled.committed r (omega arith))

  -- the last change of a path is that of the run
  pub change_of_run : greatest (λ r. change_of s r) (range_with_len 0 s.case.net.nodes) ≡ last_change s.case (log (simulation s.case) s.board.stop)
  change_of_run =
      let m = simulation s.case in
      let nodes = s.case.net.nodes in
      let each = fun_ext (λ r. ap (last_change_at s.case.net r) (ended.events r)) in
      ap (λ f. greatest f (range_with_len 0 nodes)) each
      ∙ last_of_all s.case is.ruled.is_case (log m s.board.stop) run_falls (λ e some.
      elim (cases_Bool (nat_lt e.dst nodes)) [
        | inl there ↦ ltb-true e.dst nodes there
        | inr past ↦ (
            let none_there = all_there m (law s is) (log m s.board.stop) run_falls (machine s).history ended.events suits e (ltb-false e.dst nodes past) in absurd (omega arith))
      ])

-- the shape at the stop
pub settled_shape : (s : Sim) → IsSim s → IsSettled s → (fresh draft : Draft) → fresh ≡ record { time = s.board.stop; routers = []; sent = [] }
    → draft ≡ record fresh { routers = fresh.routers ++ map bare (states_of s); sent = fresh.sent ++ map (λ known. known.counters.sent) (states_of s) }
    → (pending : List Event) → pending ≡ insert_all (simulation s.case) (machine s).pending [] → (made : Shape)
    → made ≡ record { routers = draft.routers; pending = map (λ e. seen_from draft.time (slice_index draft.sent e.src) e) (insert_all (simulation s.case) pending []) }
    → made ≡ shape s.case s.board.stop
settled_shape s is settled fresh draft is_fresh is_draft pending is_pending made is_made =
    let states = all_states s is settled in
    let as_draft = rw (is_fresh, states) at is_draft in
    let m = simulation s.case in
    let again : insert_all m pending [] ≡ pending
    = same_rising m (law s is) (insert_all m pending []) pending (rising-insert_all m (law s is) pending [] tt)
    (subst (λ es. IsRising m es) (sym is_pending) (rising-insert_all m (law s is) (machine s).pending [] tt)) (λ e. let n = times-insert_all m e pending [] in omega arith) in
    let waiting = again ∙ is_pending ∙ (ended s is settled).pending in
    rw (as_draft, waiting) at is_made ∙ sym (gathered s.case is.ruled.is_case s.board.stop)

-- one more router is read
pub one_read : {A B : Type 0} (f : ℕ → A) (g : A → B) (n : ℕ) → map g (map f (range_with_len 0 (n + 1))) ≡ map g (map f (range_with_len 0 n)) ++ g (f n) ∷ []
one_read f g n = ap (map g) (map-range_with_len_more f 0 n n (omega arith)) ∙ map-append g (map f (range_with_len 0 n)) (f n ∷ [])
