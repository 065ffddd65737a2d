-- A run that begins keeps the rule, and is a machine that begins.
use Rattle.std.proofs.Common.{◌≡◌, ℕ, suc, ◌+◌, ◌<◌, ◌==◌, ◌&&◌, Bool, List, [], ◌∷◌, ◌++◌, drop, flat_map, get_or, length, map, nat_lt, refl, ap, sym, ◌∙◌, subst, inl, inr, arith}
use Rattle.std.proofs.lemmas.Bool.{and_parts, cases_Bool, lt-ltb, ltb-true}
use Rattle.std.specs.List.{AllByRecursion, range_with_len}
use Rattle.std.specs.Prelude.{Some, replicate}
use Rattle.std.proofs.lemmas.List.{length-replicate}
use Rattle.tw_core.specs.declared.limits.TheConstants.{OPENING_ROOM}
use Rattle.tw_core.specs.Machine.{Core, IsOpening}
use Rattle.tw_core.specs.Parts.{Part, at_owner}
use Rattle.tw_event.specs.declared.event.Event.{Event}
use Rattle.tw_exchange.specs.Board.{new_board, workers}
use Rattle.tw_sim.specs.Owners.{owner}
use Rattle.tw_model.proofs.Lawful.{lawful}
use Rattle.tw_model.specs.Case.{Case, IsCase, simulation}
use Rattle.tw_parallel.proofs.Owners.{pending_of}
use Rattle.tw_parallel.proofs.Shares.{long_shares}
use Rattle.tw_parallel.specs.Hands.{IsEmptyHand}
use Rattle.tw_parallel.specs.Sim.{AreOf, IsSim, Sim, machine}
use Rattle.tw_rule.proofs.Opens.{rule_opens}
use Rattle.tw_rule.specs.Place.{Place, part_of}
use Rattle.tw_rule.specs.Rule.{AreOpeningPlaces, IsOpeningPlace, Rule}
use Rattle.tw_shard.specs.Shard.{IsOpeningShard, Shard}
use Rattle.tw_sim.specs.Simulation.{Simulation, times}
use Rattle.tw_sim.specs.declared.machine.Cancel.{Cancel}
use Rattle.tw_table.specs.declared.hand.Hand.{Hand}
use Rattle.tw_table.specs.Shares.{Share, board_of, place_of, share, shares_of}
use Rattle.tw_warp.proofs.Openings.{all_wait, waits}
use Rattle.tw_warp.specs.Warp.{no_shard}
use Rattle.tw_table.proofs.Openings.{no_mail}

module _ (case : Case) (is : IsCase case) (n : ℕ) (retains : Bool) (cancel : Cancel) where
  -- a shard and a hand that begin are a place that begins
  place_opens : (k : ℕ) (s : Shard) (h : Hand) → IsOpeningShard case k n retains cancel s → IsEmptyHand h → IsOpeningPlace (simulation case) (owner n) k (place_of (share s h))
  place_opens k s h at empty = record {
    worker = ap (λ x. x.worker) at.terms;
    owns = λ r l. at.owns_are r ∙ ap (λ b. b && (owner n r == k)) (lt-ltb r case.net.nodes l);
    history = λ r. ap (λ (C : Core Event). C.history r) (at.core_is 0);
    pending = λ e. waits case is n retains cancel k s e at;
    kept = ap (λ (C : Core Event). C.kept) (at.core_is 0);
    outgoing = ap (λ (C : Core Event). C.flight) (at.core_is 0);
    held = ap (λ (C : Core Event). C.held) (at.core_is 0);
    done = λ r. ap (λ (C : Core Event). C.done r) (at.core_is 0);
    past = λ r. ap (λ (C : Core Event). C.past r) (at.core_is 0);
    bound = ap (λ (C : Core Event). C.bound) (at.core_is 0);
    mail = λ i. drop (empty.next i) (empty.mail i);
    unsent = empty.out;
  }

  -- the shards of the workers from k on begin
  abbrev Begin : ℕ → List Shard → Type 0
  Begin k ss = (j : ℕ) → j < length ss → IsOpeningShard case (k + j) n retains cancel (get_or ss j no_shard)

  first : (k : ℕ) (s : Shard) (ss : List Shard) → Begin k (s ∷ ss) → IsOpeningShard case k n retains cancel s
  first k s ss each = subst (λ i. IsOpeningShard case i n retains cancel s) (omega arith) (each 0 (omega arith))

  later : (k : ℕ) (s : Shard) (ss : List Shard) → Begin k (s ∷ ss) → Begin (k + 1) ss
  later k s ss each = λ j h. subst (λ i. IsOpeningShard case i n retains cancel (get_or ss j no_shard)) (omega arith) (each (suc j) (omega arith))

  places_open : (k : ℕ) (ss : List Shard) (hs : List Hand) → Begin k ss → AllByRecursion IsEmptyHand hs → length hs ≡ length ss
      → AreOpeningPlaces (simulation case) (owner n) k (map place_of (shares_of ss hs))
  places_open k [] hs each empty same = tt
  places_open k (s ∷ ss) [] each empty same = absurd (omega arith)
  places_open k (s ∷ ss) (h ∷ hs) each empty same =
      let up : k + 1 ≡ suc k = omega arith in (
        place_opens k s h (first k s ss each) empty.0,
        subst (λ i. AreOpeningPlaces (simulation case) (owner n) i (map place_of (shares_of ss hs))) up
            (places_open (k + 1) ss hs (later k s ss each) empty.1 (omega arith)),
      )

  -- each of their routers has the room that it begins with
  opening_rooms : (r k : ℕ) (ss : List Shard) (hs : List Hand) → Begin k ss → length hs ≡ length ss
      → AllByRecursion (λ (p : Place Event). p.room r ≡ OPENING_ROOM) (map place_of (shares_of ss hs))
  opening_rooms r k [] hs each same = tt
  opening_rooms r k (s ∷ ss) [] each same = absurd (omega arith)
  opening_rooms r k (s ∷ ss) (h ∷ hs) each same =
      (ap (λ (C : Core Event). C.room r) ((first k s ss each).core_is 0), opening_rooms r (k + 1) ss hs (later k s ss each) (omega arith))

  in_order : (k : ℕ) (ss : List Shard) (hs : List Hand) → Begin k ss → length hs ≡ length ss
      → map (λ (t : Share). t.shard.terms.worker) (shares_of ss hs) ≡ range_with_len k (length ss)
  in_order k [] hs each same = refl
  in_order k (s ∷ ss) [] each same = absurd (omega arith)
  in_order k (s ∷ ss) (h ∷ hs) each same = λ i. ((first k s ss each).terms i).worker ∷ in_order (k + 1) ss hs (later k s ss each) (omega arith) i

  all_of_case : (k : ℕ) (ss : List Shard) (hs : List Hand) → Begin k ss → length hs ≡ length ss → AllByRecursion (λ (t : Share). t.shard.terms.case ≡ case) (shares_of ss hs)
  all_of_case k [] hs each same = tt
  all_of_case k (s ∷ ss) [] each same = absurd (omega arith)
  all_of_case k (s ∷ ss) (h ∷ hs) each same = (ap (λ x. x.case) (first k s ss each).terms, all_of_case (k + 1) ss hs (later k s ss each) (omega arith))

  all_known : (k : ℕ) (ss : List Shard) (hs : List Hand) → Begin k ss → length hs ≡ length ss → AllByRecursion (AreOf case) (shares_of ss hs)
  all_known k [] hs each same = tt
  all_known k (s ∷ ss) [] each same = absurd (omega arith)
  all_known k (s ∷ ss) (h ∷ hs) each same = (
    λ r own. ltb-true r case.net.nodes (and_parts (nat_lt r case.net.nodes) (owner n r == k) (sym ((first k s ss each).owns_are r) ∙ own)).0,
    all_known (k + 1) ss hs (later k s ss each) (omega arith),
  )

  all_alike : (k : ℕ) (ss : List Shard) (hs : List Hand) → Begin k ss → length hs ≡ length ss
      → AllByRecursion (λ (t : Share). (t.shard.terms.retains ≡ retains) × (t.shard.terms.cancel ≡ cancel)) (shares_of ss hs)
  all_alike k [] hs each same = tt
  all_alike k (s ∷ ss) [] each same = absurd (omega arith)
  all_alike k (s ∷ ss) (h ∷ hs) each same = (
    (ap (λ x. x.retains) (first k s ss each).terms, ap (λ x. x.cancel) (first k s ss each).terms),
    all_alike (k + 1) ss hs (later k s ss each) (omega arith),
  )

module _ {S E : Type 0} (m : Simulation S E) (who : ℕ → ℕ) (stop : ℕ) where
  -- what places that begin are as parts of the machine
  no_history : (r k : ℕ) (ps : List (Place E)) → AreOpeningPlaces m who k ps → at_owner (λ (C : Core E). C.history r) [] (map (part_of stop) ps) r ≡ []
  no_history r k [] h = refl
  no_history r k (p ∷ ps) h =
      elim (cases_Bool (p.owns r)) [
        | inl own ↦ rw own (h.0.history r)
        | inr other ↦ rw other (no_history r (suc k) ps h.1)
      ]

  none_done : (r k : ℕ) (ps : List (Place E)) → AreOpeningPlaces m who k ps → at_owner (λ (C : Core E). C.done r) 0 (map (part_of stop) ps) r ≡ 0
  none_done r k [] h = refl
  none_done r k (p ∷ ps) h =
      elim (cases_Bool (p.owns r)) [
        | inl own ↦ rw own (h.0.done r)
        | inr other ↦ rw other (none_done r (suc k) ps h.1)
      ]

  none_past : (r k : ℕ) (ps : List (Place E)) → AreOpeningPlaces m who k ps → at_owner (λ (C : Core E). C.past r) 0 (map (part_of stop) ps) r ≡ 0
  none_past r k [] h = refl
  none_past r k (p ∷ ps) h =
      elim (cases_Bool (p.owns r)) [
        | inl own ↦ rw own (h.0.past r)
        | inr other ↦ rw other (none_past r (suc k) ps h.1)
      ]

  first_room : (r : ℕ) (ps : List (Place E)) → AllByRecursion (λ (p : Place E). p.room r ≡ OPENING_ROOM) ps
      → at_owner (λ (C : Core E). C.room r) OPENING_ROOM (map (part_of stop) ps) r ≡ OPENING_ROOM
  first_room r [] h = refl
  first_room r (p ∷ ps) h =
      elim (cases_Bool (p.owns r)) [
        | inl own ↦ rw own h.0
        | inr other ↦ rw other (first_room r ps h.1)
      ]

  none_held : (k : ℕ) (ps : List (Place E)) → AreOpeningPlaces m who k ps → flat_map (λ (p : Part E). p.core.held) (map (part_of stop) ps) ≡ []
  none_held k [] h = refl
  none_held k (p ∷ ps) h = λ i. h.0.held i ++ none_held (suc k) ps h.1 i

  none_kept : (k : ℕ) (ps : List (Place E)) → AreOpeningPlaces m who k ps → flat_map (λ (p : Part E). p.core.kept) (map (part_of stop) ps) ≡ []
  none_kept k [] h = refl
  none_kept k (p ∷ ps) h = λ i. h.0.kept i ++ none_kept (suc k) ps h.1 i

  none_flies : (k : ℕ) (ps : List (Place E)) → AreOpeningPlaces m who k ps → flat_map (λ (p : Part E). p.core.flight) (map (part_of stop) ps) ≡ []
  none_flies k [] h = refl
  none_flies k (p ∷ ps) h = λ i. ((h.0.mail i ++ h.0.unsent i) ++ h.0.outgoing i) ++ none_flies (suc k) ps h.1 i

-- shards and hands that begin, with a new exchange for as many workers
module _ (case : Case) (is : IsCase case) (n : ℕ) (retains : Bool) (cancel : Cancel) (some : 0 < n) (ss : List Shard) (hs : List Hand) (count : length ss ≡ n) (same : length hs ≡ length ss)
    (each : (k : ℕ) → k < n → IsOpeningShard case k n retains cancel (get_or ss k no_shard)) (empty : AllByRecursion IsEmptyHand hs) where
  abbrev pub new_sim : Sim
  new_sim = record { case = case; board = new_board n 0 0; shares = shares_of ss hs }

  from_zero : Begin case is n retains cancel 0 ss
  from_zero j h = subst (λ k. IsOpeningShard case k n retains cancel (get_or ss j no_shard)) (omega arith) (each j (omega arith))

  new_places : AreOpeningPlaces (simulation case) (owner n) 0 (map place_of (shares_of ss hs))
  new_places = places_open case is n retains cancel 0 ss hs from_zero empty same

  many : workers (new_board n 0 0) ≡ n
  many = length-replicate n (Some 0)

  long_places : (ts : List Share) → length (map place_of ts) ≡ length ts
  long_places [] = refl
  long_places (t ∷ ts) = let more = long_places ts in omega arith

  new_rule : Rule (simulation case) (owner n) (board_of (new_board n 0 0)) (map place_of (shares_of ss hs))
  new_rule =
      let long = long_places (shares_of ss hs) in
      let all = long_shares ss hs same in
      let places : n ≡ length (map place_of (shares_of ss hs)) = omega arith in
      rule_opens (simulation case) (lawful case is) (owner n) (board_of (new_board n 0 0)) (map place_of (shares_of ss hs))
      (record { mail = no_mail n; reports = ap (λ k. replicate k (Some 0)) places; bound = refl }) new_places
      (λ r l. let within : owner n r < n = omega arith in omega arith)

  pub new_is : IsSim new_sim
  new_is =
      let all = long_shares ss hs same in
      let workers_are = many in
      record {
        some = omega arith;
        order = in_order case is n retains cancel 0 ss hs from_zero same ∙ ap (range_with_len 0) (omega arith);
        ruled = record {
          is_case = is;
          cases = all_of_case case is n retains cancel 0 ss hs from_zero same;
          count = omega arith;
          rule = subst (λ k. Rule (simulation case) (owner k) (board_of (new_board n 0 0)) (map place_of (shares_of ss hs))) (sym many) new_rule;
        };
        known = all_known case is n retains cancel 0 ss hs from_zero same;
        alike = record { retains = retains; cancel = cancel; each = all_alike case is n retains cancel 0 ss hs from_zero same };
        stop = omega arith;
      }

  pub new_opens : IsOpening (simulation case) (machine new_sim)
  new_opens =
      let m = simulation case in
      let ps = map place_of (shares_of ss hs) in
      record {
        history = λ r. no_history m (owner n) 0 r 0 ps new_places;
        pending = λ e. ap (times m e) (pending_of 0 ss hs same) ∙ (all_wait case is n retains cancel e ss 0 from_zero).0 (omega arith) (let within : owner n e.dst < n = omega arith in omega arith);
        kept = none_kept m (owner n) 0 0 ps new_places;
        flight = λ i. no_mail n i ++ none_flies m (owner n) 0 0 ps new_places i;
        held = none_held m (owner n) 0 0 ps new_places;
        done = λ r. none_done m (owner n) 0 r 0 ps new_places;
        past = λ r. none_past m (owner n) 0 r 0 ps new_places;
        bound = refl;
        room = λ r. first_room m (owner n) 0 r ps (opening_rooms case is n retains cancel r 0 ss hs from_zero same);
      }
