-- What a worker may give back: what calls have kept, and what a visit leaves.
use Rattle.std.proofs.Common.{rules, ◌≡◌, ℕ, suc, ◌+◌, ◌<◌, ◌≤◌, ◌==◌, true, List, [], ◌++◌, Option, None, Some, IfSome, get_or, map, min, slice_get, refl, ap, sym, ◌∙◌, subst, inl, inr, arith}
use Rattle.std.proofs.lemmas.Bool.{cases_eq, cases_lt, eq-eqb}
use Rattle.std.proofs.lemmas.List.{get_or-set_other, get_or-set_same, length-set}
use Rattle.std.specs.List.{reduce}
use Rattle.std.specs.Option.{IsSomeAnd}
use Rattle.tw_core.proofs.Counts.{antimessages-append, messages-append}
use Rattle.tw_core.specs.Good.{IsGoodPart}
use Rattle.tw_core.specs.Machine.{antimessages, messages, times_loose}
use Rattle.tw_rule.proofs.Calls.{hand_is_loose, hand_is_own, in_hand_loose}
use Rattle.tw_rule.proofs.Least.{bound_from, events_from, events_told, from_bound, mail_told, still_told, told_from}
use Rattle.tw_rule.specs.Board.{Board, IsBoard, IsVisit, least_report, report_of, times_among, workers}
use Rattle.tw_rule.specs.Place.{IsPlace, NoneLooseBefore, Place, PreservesPlace, Tells, after_visit, in_hand, report_time, whole}
use Rattle.tw_rule.specs.Rule.{MayGive, Stands}
use Rattle.tw_sim.proofs.Counts.{times-append}
use Rattle.tw_sim.specs.declared.machine.Signed.{Signed}
use Rattle.tw_sim.specs.Simulation.{Simulation, IsLawful}

module _ {S E : Type 0} (m : Simulation S E) (law : IsLawful m) where
  -- the least time of what waits tells of all of it
  pub tells_all : (p : Place E) → Tells m (report_time m p) p
  tells_all p e h =
      let told = reduce min (map (λ x. m.time x) (p.pending ++ p.kept ++ p.held)) in
      elim (cases_lt 0 (times_among m e p.mail)) [
        | inl l ↦ mail_told m law told p.mail e l
        | inr ge ↦ still_told m law told p.mail (m.time e)
            (events_told m law (p.pending ++ p.kept ++ p.held) e (let all = times-append m e (p.pending ++ p.kept) p.held in let both = times-append m e p.pending p.kept in omega arith))
      ]

module _ {S E : Type 0} (m : Simulation S E) (law : IsLawful m) (who : ℕ → ℕ) where
  -- ---- without a visit

  reported_from : (b : ℕ) (o : Option ℕ) (n : ℕ) → IfSome o (λ time. b ≤ time) → IsSomeAnd o (λ time. time ≤ n) → b ≤ n
  reported_from b None n h k = absurd k
  reported_from b (Some a) n h k = omega arith

  -- nothing loose at a place that stands is before the board's bound
  pub stands_from : (x : Board E) (p : Place E) → IsBoard m x → Stands m who x p → NoneLooseBefore m x.bound p
  stands_from x p board stands e h = reported_from x.bound (report_of p.worker x) (m.time e) (board.reported p.worker) (stands.reported e h)

  -- and where nothing loose becomes earlier, the report stays right
  still_reported : (o : Option ℕ) (p q : Place E) → ((t : ℕ) → NoneLooseBefore m t p → NoneLooseBefore m t q) → ((e : E) → 0 < times_loose m (whole 0 p) e → IsSomeAnd o (λ time. time ≤ m.time e))
      → (e : E) → 0 < times_loose m (whole 0 q) e → IsSomeAnd o (λ time. time ≤ m.time e)
  still_reported None p q late told e h = let no = late (suc (m.time e)) (λ x k. absurd (told x k)) e h in absurd (omega arith)
  still_reported (Some a) p q late told e h = late a told e h

  stands_still : (x : Board E) (p q : Place E) → Stands m who x p → PreservesPlace m x.stop p q → Stands m who x q
  stands_still x p q stands keeps = record {
    worker = subst (λ w. w < workers x) (sym keeps.worker) stands.worker;
    owns = λ r l. ap (λ f. f r) keeps.owns ∙ (stands.owns r l ∙ ap (λ w. who r == w) (sym keeps.worker));
    place = keeps.place;
    reported = subst (λ w. (e : E) → 0 < times_loose m (whole 0 q) e → IsSomeAnd (report_of w x) (λ time. time ≤ m.time e)) (sym keeps.worker)
        (still_reported (report_of p.worker x) p q keeps.late stands.reported);
    bound = (let same = keeps.bound in let old = stands.bound in omega arith);
  }

  pub may_stay : (x : Board E) (p q : Place E) → IsBoard m x → Stands m who x p → PreservesPlace m x.stop p q → MayGive m who x p x q
  may_stay x p q board stands keeps = record {
    worker = keeps.worker;
    steps = record { others = λ v other. refl; workers = refl; bound = omega arith; stop = refl; board = board };
    stands = stands_still x p q stands keeps;
    moved = λ e. (let same = keeps.surplus e in omega arith);
    done = keeps.done;
  }

  -- a message in the hand is never refused as late, foreign or not its own
  pub welcome : (x : Board E) (p q : Place E) (k : ℕ) (s : Signed E) → IsBoard m x → Stands m who x p → PreservesPlace m x.stop p q → slice_get q.mail k ≡ Some s
      → (q.bound ≤ m.time s.event) × (q.owns (m.dst s.event) ≡ true) × (m.suits s.event ≡ true)
  welcome x p q k s board stands keeps there = grind (arith, hand_is_loose, stands_from, hand_is_own)

  -- ---- what a visit is asked

  -- the least time of what waits is not before the board's bound
  pub report_late : (x : Board E) (p q : Place E) → IsBoard m x → Stands m who x p → PreservesPlace m x.stop p q → IfSome (report_time m q) (λ time. x.bound ≤ time)
  report_late x p q board stands keeps =
      let from = keeps.late x.bound (stands_from x p board stands) in
      told_from m law x.bound (reduce min (map (λ e. m.time e) (q.pending ++ q.kept ++ q.held))) q.mail
      (events_from m law x.bound (q.pending ++ q.kept ++ q.held)
      (λ e h. from e (let all = times-append m e (q.pending ++ q.kept) q.held in let both = times-append m e q.pending q.kept in omega arith)))
      (λ e h. from e (in_hand_loose m q e (omega arith)))

  -- nor is what it would deposit
  pub unsent_late : (x : Board E) (p q : Place E) (e : E) → IsBoard m x → Stands m who x p → PreservesPlace m x.stop p q → 0 < times_among m e q.unsent → x.bound ≤ m.time e
  unsent_late x p q e board stands keeps h = keeps.late x.bound (stands_from x p board stands) e (in_hand_loose m q e (omega arith))

  -- and it suits its receiver
  pub unsent_suits : (stop : ℕ) (p q : Place E) (e : E) → PreservesPlace m stop p q → 0 < times_among m e q.unsent → m.suits e ≡ true
  unsent_suits stop p q e keeps h = let loose = in_hand_loose m q e (omega arith) in keeps.place.good.suit e (omega arith)

  -- ---- with a visit

  module _ (x y : Board E) (p q : Place E) (report : Option ℕ) (mail : List (Signed E)) (board : IsBoard m x) (stands : Stands m who x p) (keeps : PreservesPlace m x.stop p q)
      (visit : IsVisit m who p.worker q.unsent report mail x y) where
    -- what lies on the board afterwards, or was handed out, lay there or was deposited
    passed_on : (e : E) → 0 < times_among m e y.mail + times_among m e mail → (x.bound ≤ m.time e) × (m.suits e ≡ true)
    passed_on e h = grind (arith, cases_lt, in_hand_loose, stands_from)

    abbrev told : Option ℕ
    told = least_report m report mail

    mine : report_of p.worker y ≡ told
    mine = ap (λ rs. get_or rs p.worker None) visit.reports ∙ get_or-set_same x.reports p.worker told None stands.worker

    others : (v : ℕ) → (v ≡ p.worker → ⊥) → report_of v y ≡ report_of v x
    others v other = ap (λ rs. get_or rs v None) visit.reports ∙ get_or-set_other x.reports p.worker v told None other

    rises : x.bound ≤ y.bound
    rises = grind (arith, from_bound, cases_eq, mine, told_from, passed_on, others)

    board_after : IsBoard m y
    board_after = grind (arith, bound_from, passed_on)

    module _ (empty : q.outgoing ≡ []) (tells : Tells m report q) (bound : ℕ) (least : q.bound ≤ bound) (most : bound ≤ y.bound) where
      abbrev z : Place E
      z = after_visit mail bound q

      messages_after : (e : E) → messages m e (in_hand z) + messages m e q.unsent ≡ messages m e (in_hand q) + messages m e mail
      messages_after e = grind (arith, messages-append)

      antimessages_after : (e : E) → antimessages m e (in_hand z) + antimessages m e q.unsent ≡ antimessages m e (in_hand q) + antimessages m e mail
      antimessages_after e = grind (arith, antimessages-append)

      good_after : IsGoodPart m 0 (whole x.stop z)
      good_after = grind (arith, cases_lt, passed_on, messages_after, antimessages_after)

      reported_after : (e : E) → 0 < times_loose m (whole 0 z) e → IsSomeAnd (report_of p.worker y) (λ time. time ≤ m.time e)
      reported_after e h =
          subst (λ o. IsSomeAnd o (λ time. time ≤ m.time e)) (sym mine)
          (elim (cases_lt 0 (times_among m e mail)) [
            | inl l ↦ mail_told m law report mail e l
            | inr ge ↦ still_told m law report mail (m.time e) (tells e (
                let a = messages-append m e ((q.mail ++ mail) ++ []) q.outgoing in
                let b = messages-append m e (q.mail ++ mail) [] in
                let c = messages-append m e q.mail mail in
                let d = antimessages-append m e ((q.mail ++ mail) ++ []) q.outgoing in
                let f = antimessages-append m e (q.mail ++ mail) [] in
                let g = antimessages-append m e q.mail mail in
                let none_out : messages m e q.outgoing ≡ 0 = ap (messages m e) empty in
                let none_back : antimessages m e q.outgoing ≡ 0 = ap (antimessages m e) empty in
                omega arith))
          ])

      place_after : IsPlace m x.stop z
      place_after = record {
        good = good_after;
        history = keeps.place.history;
        waiting = search (rules, cases_lt, passed_on, eq-eqb, messages-append, antimessages-append);
        held = keeps.place.held;
        done = λ r. (let old = keeps.place.done r in omega arith);
        late = λ e h. (let after = reported_from y.bound (report_of p.worker y) (m.time e) (board_after.reported p.worker) (reported_after e h) in omega arith);
        counted = keeps.place.counted;
      }

      pub may_visit : MayGive m who x p y z
      may_visit = grind (arith, others, length-set, rises, board_after, stands_still, place_after, reported_after, messages_after, antimessages_after)
