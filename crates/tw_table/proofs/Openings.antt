-- New shares keep the rule with a new exchange.
use Rattle.std.proofs.Common.{◌≡◌, ℕ, zero, suc, ◌+◌, ◌<◌, ◌==◌, ◌&&◌, cond, List, [], ◌∷◌, Option, Some, filter, flat_map, length, map, replicate, refl, ap, sym, ◌∙◌, subst, inl, inr, arith}
use Rattle.std.proofs.lemmas.Bool.{cases_Bool, lt-ltb}
use Rattle.std.specs.List.{AllByRecursion, range_with_len}
use Rattle.std.proofs.lemmas.List.{length-replicate}
use Rattle.tw_core.specs.Machine.{Core}
use Rattle.tw_event.specs.declared.event.Event.{Event}
use Rattle.tw_event.specs.Order.{event_before}
use Rattle.tw_exchange.specs.Board.{new_board}
use Rattle.tw_sim.specs.Owners.{owner}
use Rattle.tw_model.proofs.Lawful.{lawful}
use Rattle.tw_model.specs.Case.{Case, IsCase, opening_events, simulation}
use Rattle.tw_rule.proofs.Opens.{rule_opens}
use Rattle.tw_rule.specs.Rule.{AreOpeningPlaces, IsOpeningPlace, Rule}
use Rattle.tw_shard.specs.Shard.{owns}
use Rattle.tw_sim.proofs.Counts.{times-filter-no, times-filter-yes, times-insert_all}
use Rattle.tw_sim.specs.declared.machine.Signed.{Signed}
use Rattle.tw_sim.specs.Ordered.{insert_all}
use Rattle.tw_sim.specs.Simulation.{times}
use Rattle.tw_table.proofs.Deals.{long_map}
use Rattle.tw_table.specs.Openings.{AreNew, IsNew}
use Rattle.tw_table.specs.Shares.{IsRuled, Share, board_of, place_of}

-- nothing waits on a new exchange
pub no_mail : (n : ℕ) → flat_map (λ (mail : List (Signed Event)). mail) (replicate n []) ≡ []
no_mail zero = refl
no_mail (suc n) = no_mail n

module _ (case : Case) (is : IsCase case) (n : ℕ) where
  -- how often an event waits at a new share
  waits : (k : ℕ) (s : Share) (e : Event) → IsNew case k n s
      → times (simulation case) e s.shard.pending ≡ cond (owner n e.dst == k) (times (simulation case) e (opening_events case.scenes)) 0
  waits k s e new =
      let m = simulation case in
      let law = lawful case is in
      let all = opening_events case.scenes in
      let mine = filter (λ x. owner n x.dst == k) all in
      let pending : times m e s.shard.pending ≡ times m e (insert_all event_before mine []) = ap (λ (C : Core Event). times m e C.pending) (new.core_is 0) in
      let count = times-insert_all m e mine [] in
      elim (cases_Bool (owner n e.dst == k)) [
        | inl here ↦ (let own = times-filter-yes m law (λ x. owner n x.dst == k) e all here in rw here (omega arith))
        | inr other ↦ (let none = times-filter-no m law (λ x. owner n x.dst == k) e all other in rw other (omega arith))
      ]

  -- it has the routers of its worker
  has_own : (k : ℕ) (s : Share) (r : ℕ) → IsNew case k n s → r < case.net.nodes → owns s.shard r ≡ (owner n r == k)
  has_own k s r new below = new.owns_are r ∙ ap (λ b. b && (owner n r == k)) (lt-ltb r case.net.nodes below)

  new_place : (k : ℕ) (s : Share) → IsNew case k n s → IsOpeningPlace (simulation case) (owner n) k (place_of s)
  new_place k s new = record {
    worker = new.worker;
    owns = λ r below. has_own k s r new below;
    history = λ r. ap (λ (C : Core Event). C.history r) (new.core_is 0);
    pending = λ e. waits k s e new;
    kept = ap (λ (C : Core Event). C.kept) (new.core_is 0);
    outgoing = ap (λ (C : Core Event). C.flight) (new.core_is 0);
    held = ap (λ (C : Core Event). C.held) (new.core_is 0);
    done = λ r. ap (λ (C : Core Event). C.done r) (new.core_is 0);
    past = λ r. ap (λ (C : Core Event). C.past r) (new.core_is 0);
    bound = ap (λ (C : Core Event). C.bound) (new.core_is 0);
    mail = new.mail;
    unsent = new.unsent;
  }

  new_places : (k : ℕ) (shares : List Share) → AreNew case k n shares → AreOpeningPlaces (simulation case) (owner n) k (map place_of shares)
  new_places k [] new = tt
  new_places k (s ∷ shares) new = (new_place k s new.0, new_places (suc k) shares new.1)

  new_cases : (k : ℕ) (shares : List Share) → AreNew case k n shares → AllByRecursion (λ s. s.shard.terms.case ≡ case) shares
  new_cases k [] new = tt
  new_cases k (s ∷ shares) new = (new.0.case_is, new_cases (suc k) shares new.1)

pub in_order : (case : Case) (n k : ℕ) (shares : List Share) → AreNew case k n shares → map (λ s. s.shard.terms.worker) shares ≡ range_with_len k (length shares)
in_order case n k [] new = refl
in_order case n k (s ∷ shares) new =
    let next : suc k ≡ k + 1 = omega arith in
    let rest = in_order case n (suc k) shares new.1 ∙ ap (λ j. range_with_len j (length shares)) next in
    λ i. new.0.worker i ∷ rest i

pub new_ruled : (case : Case) (stop : ℕ) (shares : List Share) → IsCase case → 0 < length shares → AreNew case 0 (length shares) shares
    → IsRuled case (new_board (length shares) 0 stop) shares
new_ruled case stop shares is some new =
    let n = length shares in
    let x = new_board n 0 stop in
    let m = simulation case in
    let many : length (map place_of shares) ≡ n = long_map place_of shares in
    let zero_time : Option ℕ = Some 0 in
    let count : length (replicate n zero_time) ≡ n = length-replicate n zero_time in
    record {
      is_case = is;
      cases = new_cases case is n 0 shares new;
      count = sym count;
      rule = subst (λ j. Rule m (owner j) (board_of x) (map place_of shares)) (sym count)
          (rule_opens m (lawful case is) (owner n) (board_of x) (map place_of shares)
          (record { mail = no_mail n; reports = ap (λ j. replicate j zero_time) (sym many); bound = refl })
          (new_places case is n 0 shares new) (λ r below. omega arith));
    }
