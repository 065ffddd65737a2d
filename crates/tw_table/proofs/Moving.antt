-- Where a router goes from one share to another, its place goes as the rule has it.
use Rattle.std.proofs.Common.{◌≡◌, ℕ, zero, suc, ◌+◌, ◌<◌, ◌≤◌, ◌==◌, ◌&&◌, ◌||◌, Bool, not, true, false, cond, List, [], ◌∷◌, ◌++◌, Option, Some, None, filter, flat_map, length, map, set, slice_get, refl, ap, sym, ◌∙◌, subst, inl, inr, arith}
use Rattle.std.proofs.lemmas.Bool.{both_ways, cases_Bool, cases_eq, eq-eqb, ne_eqb}
use Rattle.std.proofs.lemmas.List.{get_or-set_other, get_or-set_same, length-set}
use Rattle.std.specs.Option.{IsSomeAnd, option_map}
use Rattle.std.specs.Prelude.{if◌then◌else◌}
use Rattle.tw_core.proofs.Counts.{antimessages-append, messages-append}
use Rattle.tw_core.specs.declared.limits.TheConstants.{OPENING_ROOM}
use Rattle.tw_core.specs.Machine.{IsSameMachine, antimessages, messages}
use Rattle.tw_event.specs.declared.event.Event.{Event}
use Rattle.tw_event.specs.Order.{event_before}
use Rattle.tw_exchange.specs.Board.{Board, IsListed, all_mail, is_to, is_to_another, who, worker_for, workers}
use Rattle.tw_model.proofs.Lawful.{lawful}
use Rattle.tw_model.specs.Case.{Case, IsCase, simulation}
use Rattle.tw_model.specs.State.{State}
use Rattle.tw_rule.proofs.Moved.{rule_moves}
use Rattle.tw_rule.proofs.Same.{machine_moves}
use Rattle.tw_rule.specs.Moving.{HasFollowed, HasPassed, HaveGone, IsMoved}
use Rattle.tw_rule.specs.Place.{Place}
use Rattle.tw_rule.specs.Rule.{Rule, Stands, assembled}
use Rattle.tw_shard.specs.Moving.{HasMovedIn, HasMovedOut}
use Rattle.tw_shard.specs.Shard.{Shard, owns, timeline}
use Rattle.tw_shard.specs.Timeline.{Timeline, history}
use Rattle.tw_sim.proofs.Counts.{times-filter-no, times-filter-yes, times-insert_all}
use Rattle.tw_sim.specs.declared.machine.Signed.{Signed}
use Rattle.tw_sim.specs.Ordered.{insert_all}
use Rattle.tw_sim.specs.Simulation.{Simulation, IsLawful, one, times}
use Rattle.tw_rule.proofs.Places.{all_at, get_map}
use Rattle.tw_table.proofs.Lists.{all_set}
use Rattle.tw_table.specs.Moving.{HasMoved, moved_board}
use Rattle.tw_table.specs.Shares.{IsRuled, Share, board_of, place_of}

-- the messages of a filter by the receiver
module _ (case : Case) (is : IsCase case) (p : ℕ → Bool) (e : Event) where
  abbrev m : Simulation State Event
  m = simulation case

  one_other : (x : Event) → (p x.dst ≡ p e.dst → ⊥) → one m e x ≡ 0
  one_other x other = elim (cases_Bool (m.same e x)) [
    | inl same ↦ absurd (other (ap (λ (y : Event). p y.dst) (sym ((lawful case is).same_is e x same))))
    | inr differs ↦ ap (λ b. cond b (suc zero) zero) differs
  ]

  none_plus : (b : Bool) (n : ℕ) → n ≡ 0 → cond b n 0 ≡ 0
  none_plus true n h = h
  none_plus false n h = refl

  none_minus : (b : Bool) (n : ℕ) → n ≡ 0 → cond b 0 n ≡ 0
  none_minus true n h = refl
  none_minus false n h = h

  pub plus_yes : p e.dst ≡ true → (xs : List (Signed Event)) → messages m e (filter (λ s. p s.event.dst) xs) ≡ messages m e xs
  plus_yes h [] = refl
  plus_yes h (x ∷ xs) =
      let more = plus_yes h xs in
      elim (cases_Bool (p x.event.dst)) [
        | inl b ↦ rw b (omega arith)
        | inr b ↦ (
            let none = none_plus x.plus (one m e x.event) (one_other x.event (λ same. both_ways (p e.dst) (sym same ∙ b) h)) in
            rw b (omega arith))
      ]

  pub plus_no : p e.dst ≡ false → (xs : List (Signed Event)) → messages m e (filter (λ s. p s.event.dst) xs) ≡ 0
  plus_no h [] = refl
  plus_no h (x ∷ xs) =
      let more = plus_no h xs in
      elim (cases_Bool (p x.event.dst)) [
        | inl b ↦ (
            let none = none_plus x.plus (one m e x.event) (one_other x.event (λ same. both_ways (p e.dst) h (sym same ∙ b))) in
            rw b (omega arith))
        | inr b ↦ rw b more
      ]

  pub minus_yes : p e.dst ≡ true → (xs : List (Signed Event)) → antimessages m e (filter (λ s. p s.event.dst) xs) ≡ antimessages m e xs
  minus_yes h [] = refl
  minus_yes h (x ∷ xs) =
      let more = minus_yes h xs in
      elim (cases_Bool (p x.event.dst)) [
        | inl b ↦ rw b (omega arith)
        | inr b ↦ (
            let none = none_minus x.plus (one m e x.event) (one_other x.event (λ same. both_ways (p e.dst) (sym same ∙ b) h)) in
            rw b (omega arith))
      ]

  pub minus_no : p e.dst ≡ false → (xs : List (Signed Event)) → antimessages m e (filter (λ s. p s.event.dst) xs) ≡ 0
  minus_no h [] = refl
  minus_no h (x ∷ xs) =
      let more = minus_no h xs in
      elim (cases_Bool (p x.event.dst)) [
        | inl b ↦ (
            let none = none_minus x.plus (one m e x.event) (one_other x.event (λ same. both_ways (p e.dst) h (sym same ∙ b))) in
            rw b (omega arith))
        | inr b ↦ rw b more
      ]

-- a filter of each list is a filter of all of them
filter_append : {X : Type 0} (p : X → Bool) (xs ys : List X) → filter p (xs ++ ys) ≡ filter p xs ++ filter p ys
filter_append p [] ys = refl
filter_append p (x ∷ xs) ys = elim (cases_Bool (p x)) [
  | inl b ↦ rw b (ap (λ l. x ∷ l) (filter_append p xs ys))
  | inr b ↦ rw b (filter_append p xs ys)
]

filter_each : {X : Type 0} (p : X → Bool) (lists : List (List X)) → flat_map (λ l. l) (map (filter p) lists) ≡ filter p (flat_map (λ l. l) lists)
filter_each p [] = refl
filter_each p (l ∷ lists) = ap (λ r. filter p l ++ r) (filter_each p lists) ∙ sym (filter_append p l (flat_map (λ l. l) lists))

-- what is read of the routers of a shard
module _ {X : Type 0} (read : Timeline → X) (nothing : X) where
  abbrev at : Shard → ℕ → X
  at s k = if owns s k then read (timeline s k) else nothing

  pub none_left : (r : ℕ) (s s2 : Shard) → owns s2 r ≡ false → at s2 r ≡ nothing
  none_left r s s2 other = rw other refl

  pub stays_left : (r k : ℕ) (s s2 : Shard) → HasMovedOut r s s2 → owns s2 k ≡ owns s k → at s2 k ≡ at s k
  stays_left r k s s2 left same = elim (cases_Bool (owns s k)) [
    | inl b ↦ rw (same, b) (ap read (left.timelines k (same ∙ b)))
    | inr b ↦ rw (same, b) refl
  ]

  pub stays_came : (r k : ℕ) (s t t2 : Shard) → HasMovedIn r s t t2 → owns t2 k ≡ owns t k → at t2 k ≡ at t k
  stays_came r k s t t2 came same = elim (cases_Bool (owns t k)) [
    | inl b ↦ rw (same, b) (ap read (came.others k b))
    | inr b ↦ rw (same, b) refl
  ]

  pub has_come : (r : ℕ) (s t t2 : Shard) → HasMovedIn r s t t2 → owns s r ≡ true → owns t2 r ≡ true → at t2 r ≡ at s r
  has_come r s t t2 came was is = rw (was, is) (ap read came.moved)

and_not_self : (b : Bool) (r : ℕ) → (b && not (r == r)) ≡ false
and_not_self true r = ap not (eq-eqb r r refl)
and_not_self false r = refl

or_self : (b : Bool) (r : ℕ) → (b || r == r) ≡ true
or_self true r = refl
or_self false r = eq-eqb r r refl

and_not_other : (b : Bool) (k r : ℕ) → (k ≡ r → ⊥) → (b && not (k == r)) ≡ b
and_not_other true k r ne = ap not (ne_eqb k r ne)
and_not_other false k r ne = refl

or_other : (b : Bool) (k r : ℕ) → (k ≡ r → ⊥) → (b || k == r) ≡ b
or_other true k r ne = refl
or_other false k r ne = ne_eqb k r ne

-- the worker of each router, once router r is worker w's
pub later_is : (owners : Option (List ℕ)) (n r w : ℕ) → IsSomeAnd owners (λ list. r < length list) → worker_for (option_map (λ list. set list r w) owners) n r ≡ w
later_is None n r w listed = absurd listed
later_is (Some list) n r w listed = get_or-set_same list r w n listed

later_other : (owners : Option (List ℕ)) (n r w k : ℕ) → (k ≡ r → ⊥) → worker_for (option_map (λ list. set list r w) owners) n k ≡ worker_for owners n k
later_other None n r w k ne = refl
later_other (Some list) n r w k ne = get_or-set_other list r k w n ne

module _ (case : Case) (is : IsCase case) (r : ℕ) (x : Board) (s t s2 t2 : Share) (moved : HasMoved r x s t s2 t2) (stands_s : Stands (simulation case) (who x) (board_of x) (place_of s))
    (stands_t : Stands (simulation case) (who x) (board_of x) (place_of t)) (in_range : r < case.net.nodes) (was : who x r ≡ s.shard.terms.worker) where
  abbrev y : Board
  y = moved_board r t.shard.terms.worker x

  law : IsLawful (simulation case)
  law = lawful case is

  mine : owns s.shard r ≡ true
  mine = stands_s.owns r in_range ∙ eq-eqb (who x r) s.shard.terms.worker was

  gone : owns s2.shard r ≡ false
  gone = moved.left.routers r ∙ and_not_self (owns s.shard r) r

  here : owns t2.shard r ≡ true
  here = moved.came.routers r ∙ or_self (owns t.shard r) r

  left_other : (k : ℕ) → (k ≡ r → ⊥) → owns s2.shard k ≡ owns s.shard k
  left_other k ne = moved.left.routers k ∙ and_not_other (owns s.shard k) k r ne

  came_other : (k : ℕ) → (k ≡ r → ⊥) → owns t2.shard k ≡ owns t.shard k
  came_other k ne = moved.came.routers k ∙ or_other (owns t.shard k) k r ne

  follows : {X : Type 0} (read : Timeline → X) (nothing : X) → HasFollowed r (at read nothing s.shard) (at read nothing t.shard) (at read nothing s2.shard) (at read nothing t2.shard)
  follows read nothing = record {
    came = has_come read nothing r s.shard t.shard t2.shard moved.came mine here;
    stays_from = λ k ne. stays_left read nothing r k s.shard s2.shard moved.left (left_other k ne);
    stays_to = λ k ne. stays_came read nothing r k s.shard t.shard t2.shard moved.came (came_other k ne);
  }

  passes : {X : Type 0} (read : Timeline → X) (nothing : X) → HasPassed nothing r (at read nothing s.shard) (at read nothing t.shard) (at read nothing s2.shard) (at read nothing t2.shard)
  passes read nothing = record { followed = follows read nothing; left = none_left read nothing r s.shard s2.shard gone }

  -- events that a test of the router tells apart
  have_gone : (whose : Event → ℕ) (from to from2 to2 : List Event) → from2 ≡ filter (λ e. not (whose e == r)) from → to2 ≡ insert_all event_before (filter (λ e. whose e == r) from) to
      → HaveGone whose r (λ e. times (simulation case) e from) (λ e. times (simulation case) e to) (λ e. times (simulation case) e from2) (λ e. times (simulation case) e to2)
  have_gone whose from to from2 to2 left came =
      let m = simulation case in
      let sum : (e : Event) → times m e to2 ≡ times m e (filter (λ z. whose z == r) from) + times m e to
      = λ e. ap (times m e) came ∙ times-insert_all m e (filter (λ z. whose z == r) from) to in
      record {
        gone = λ e of_r. (
            let is_r : (whose e == r) ≡ true = eq-eqb (whose e) r of_r in
            let none = ap (times m e) left ∙ times-filter-no m law (λ z. not (whose z == r)) e from (ap not is_r) in
            let all = times-filter-yes m law (λ z. whose z == r) e from is_r in
            let now = sum e in
            (none, (omega arith)));
        stays_from = λ e ne. ap (times m e) left ∙ times-filter-yes m law (λ z. not (whose z == r)) e from (ap not (ne_eqb (whose e) r ne));
        stays_to = λ e ne. (
            let none = times-filter-no m law (λ z. whose z == r) e from (ne_eqb (whose e) r ne) in
            let now = sum e in
            omega arith);
      }

  mail_left : all_mail y ≡ filter (is_to_another r) (all_mail x)
  mail_left = filter_each (is_to_another r) x.mail

  -- the messages that have come
  plus_came : (e : Event) → messages (simulation case) e t2.mail
      ≡ messages (simulation case) e t.mail + messages (simulation case) e (filter (is_to r) s.mail) + messages (simulation case) e (filter (is_to r) (all_mail x))
  plus_came e =
      let m = simulation case in
      let a = ap (messages m e) moved.mail_came in
      let b = messages-append m e (t.mail ++ filter (is_to r) s.mail) (filter (is_to r) (all_mail x)) in
      let c = messages-append m e t.mail (filter (is_to r) s.mail) in
      omega arith

  minus_came : (e : Event) → antimessages (simulation case) e t2.mail
      ≡ antimessages (simulation case) e t.mail + antimessages (simulation case) e (filter (is_to r) s.mail) + antimessages (simulation case) e (filter (is_to r) (all_mail x))
  minus_came e =
      let m = simulation case in
      let a = ap (antimessages m e) moved.mail_came in
      let b = antimessages-append m e (t.mail ++ filter (is_to r) s.mail) (filter (is_to r) (all_mail x)) in
      let c = antimessages-append m e t.mail (filter (is_to r) s.mail) in
      omega arith

  abbrev for_it : ℕ → Bool
  for_it d = d == r

  abbrev for_another : ℕ → Bool
  for_another d = not (d == r)

  done_left : (k : ℕ) → (place_of s2).done k ≤ s2.shard.bound
  done_left k = elim (cases_eq k r) [
    | inl same ↦ (let none : (place_of s2).done k ≡ 0 = ap (place_of s2).done same ∙ none_left (λ (l : Timeline). l.done) 0 r s.shard s2.shard gone in omega arith)
    | inr ne ↦ (
        let stays : (place_of s2).done k ≡ (place_of s).done k = (follows (λ l. l.done) 0).stays_from k ne in
        let old = stands_s.place.done k in
        let bound = moved.left.bound in
        omega arith)
  ]

  bound_came : (t2.shard.bound ≤ x.bound) × (s.shard.bound ≤ t2.shard.bound) × (t.shard.bound ≤ t2.shard.bound)
  bound_came =
      let a = moved.came.bound in
      let b = stands_s.bound in
      let c = stands_t.bound in
      ((omega arith), (omega arith), (omega arith))

  done_came : (k : ℕ) → (place_of t2).done k ≤ t2.shard.bound
  done_came k = elim (cases_eq k r) [
    | inl same ↦ (
        let stays : (place_of t2).done k ≡ (place_of s).done r = ap (place_of t2).done same ∙ (follows (λ l. l.done) 0).came in
        let old = stands_s.place.done r in
        let bound = bound_came.1 in
        omega arith)
    | inr ne ↦ (
        let stays : (place_of t2).done k ≡ (place_of t).done k = (follows (λ l. l.done) 0).stays_to k ne in
        let old = stands_t.place.done k in
        let bound = bound_came.2 in
        omega arith)
  ]

  pub is_moved : IsMoved (simulation case) r (board_of x) (place_of s) (place_of t) (board_of y) (place_of s2) (place_of t2)
  is_moved =
      let m = simulation case in
      record {
        worker_from = ap (λ x. x.worker) moved.left.terms;
        worker_to = ap (λ x. x.worker) moved.came.terms;
        owns = record { followed = record { came = here ∙ sym mine; stays_from = left_other; stays_to = came_other }; left = gone };
        history = passes history [];
        past = passes (λ l. length l.past) 0;
        done = follows (λ l. l.done) 0;
        room = follows (λ l. l.room) OPENING_ROOM;
        pending = have_gone (λ e. e.dst) s.shard.pending t.shard.pending s2.shard.pending t2.shard.pending moved.left.pending moved.came.pending;
        kept = have_gone (λ e. e.dst) s.shard.kept t.shard.kept s2.shard.kept t2.shard.kept moved.left.kept moved.came.kept;
        held = have_gone (λ e. e.src) s.shard.held t.shard.held s2.shard.held t2.shard.held moved.left.held moved.came.held;
        plus = record {
          gone = λ e of_r. (
              let is_r : (e.dst == r) ≡ true = eq-eqb e.dst r of_r in
              let a = ap (messages m e) moved.mail_left ∙ plus_no case is for_another e (ap not is_r) s.mail in
              let b = ap (messages m e) mail_left ∙ plus_no case is for_another e (ap not is_r) (all_mail x) in
              let c = plus_came e in
              let d = plus_yes case is for_it e is_r s.mail in
              let f = plus_yes case is for_it e is_r (all_mail x) in
              ((omega arith), (omega arith)));
          stays_from = λ e ne. ap (messages m e) moved.mail_left ∙ plus_yes case is for_another e (ap not (ne_eqb e.dst r ne)) s.mail;
          stays_to = λ e ne. (
              let c = plus_came e in
              let d = plus_no case is for_it e (ne_eqb e.dst r ne) s.mail in
              let f = plus_no case is for_it e (ne_eqb e.dst r ne) (all_mail x) in
              omega arith);
          stays_between = λ e ne. ap (messages m e) mail_left ∙ plus_yes case is for_another e (ap not (ne_eqb e.dst r ne)) (all_mail x);
        };
        minus = record {
          gone = λ e of_r. (
              let is_r : (e.dst == r) ≡ true = eq-eqb e.dst r of_r in
              let a = ap (antimessages m e) moved.mail_left ∙ minus_no case is for_another e (ap not is_r) s.mail in
              let b = ap (antimessages m e) mail_left ∙ minus_no case is for_another e (ap not is_r) (all_mail x) in
              let c = minus_came e in
              let d = minus_yes case is for_it e is_r s.mail in
              let f = minus_yes case is for_it e is_r (all_mail x) in
              ((omega arith), (omega arith)));
          stays_from = λ e ne. ap (antimessages m e) moved.mail_left ∙ minus_yes case is for_another e (ap not (ne_eqb e.dst r ne)) s.mail;
          stays_to = λ e ne. (
              let c = minus_came e in
              let d = minus_no case is for_it e (ne_eqb e.dst r ne) s.mail in
              let f = minus_no case is for_it e (ne_eqb e.dst r ne) (all_mail x) in
              omega arith);
          stays_between = λ e ne. ap (antimessages m e) mail_left ∙ minus_yes case is for_another e (ap not (ne_eqb e.dst r ne)) (all_mail x);
        };
        sent_from = record { outgoing = moved.left.outgoing; unsent = moved.unsent_left };
        sent_to = record { outgoing = moved.came.outgoing; unsent = moved.unsent_came };
        within_from = record { done = done_left; known = (let a = moved.left.bound in let b = stands_s.bound in omega arith) };
        within_to = record { done = done_came; known = bound_came.0 };
        board = record {
          report = get_or-set_same x.reports t.shard.terms.worker (Some x.bound) None stands_t.worker;
          reports = λ v ne. get_or-set_other x.reports t.shard.terms.worker v (Some x.bound) None ne;
          workers = length-set x.reports t.shard.terms.worker (Some x.bound);
          bound = refl;
          stop = refl;
        };
      }

-- ---- and the rule is kept

map_set : {X Y : Type 0} (f : X → Y) (xs : List X) (i : ℕ) (x : X) → map f (set xs i x) ≡ set (map f xs) i (f x)
map_set f [] i x = refl
map_set f (z ∷ xs) zero x = refl
map_set f (z ∷ xs) (suc i) x = ap (λ l. f z ∷ l) (map_set f xs i x)

module _ (case : Case) (x : Board) (shares : List Share) (ruled : IsRuled case x shares) (r i j : ℕ) (s t s2 t2 : Share) (first : slice_get shares i ≡ Some s) (second : slice_get shares j ≡ Some t)
    (other : s.shard.terms.worker ≡ t.shard.terms.worker → ⊥) (listed : IsListed r x) (in_range : r < case.net.nodes) (was : who x r ≡ s.shard.terms.worker) (moved : HasMoved r x s t s2 t2) where
  abbrev z : Board
  z = moved_board r t.shard.terms.worker x

  abbrev shares2 : List Share
  shares2 = set (set shares i s2) j t2

  abbrev ps : List (Place Event)
  ps = map place_of shares

  first_place : slice_get ps i ≡ Some (place_of s)
  first_place = get_map place_of shares i s first

  second_place : slice_get ps j ≡ Some (place_of t)
  second_place = get_map place_of shares j t second

  its_place : IsMoved (simulation case) r (board_of x) (place_of s) (place_of t) (board_of z) (place_of s2) (place_of t2)
  its_place = is_moved case ruled.is_case r x s t s2 t2 moved (all_at (Stands (simulation case) (who x) (board_of x)) ps i (place_of s) first_place ruled.rule.each)
      (all_at (Stands (simulation case) (who x) (board_of x)) ps j (place_of t) second_place ruled.rule.each) in_range was

  same_workers : workers z ≡ workers x
  same_workers = length-set x.reports t.shard.terms.worker (Some x.bound)

  now : who z r ≡ t.shard.terms.worker
  now = later_is x.owners (workers z) r t.shard.terms.worker listed

  others : (k : ℕ) → (k ≡ r → ⊥) → who z k ≡ who x k
  others k ne = later_other x.owners (workers z) r t.shard.terms.worker k ne ∙ ap (λ n. worker_for x.owners n k) same_workers

  places : map place_of shares2 ≡ set (set ps i (place_of s2)) j (place_of t2)
  places = map_set place_of (set shares i s2) j t2 ∙ ap (λ l. set l j (place_of t2)) (map_set place_of shares i s2)

  moved_rule : Rule (simulation case) (who z) (board_of z) (map place_of shares2)
  moved_rule = subst (Rule (simulation case) (who z) (board_of z)) (sym places)
      (rule_moves (simulation case) (lawful case ruled.is_case) (who x) (who z) r (board_of x) (board_of z) (place_of s) (place_of t) (place_of s2) (place_of t2) ruled.rule.board in_range other was now
      others its_place i j ps ruled.rule first_place second_place)

  pub ruled_moves : IsRuled case z shares2
  ruled_moves = record {
    is_case = ruled.is_case;
    cases = (
        let case_s = all_at (λ (u : Share). u.shard.terms.case ≡ case) shares i s first ruled.cases in
        let case_t = all_at (λ (u : Share). u.shard.terms.case ≡ case) shares j t second ruled.cases in
        all_set (λ u. u.shard.terms.case ≡ case) (set shares i s2) j t2 (all_set (λ u. u.shard.terms.case ≡ case) shares i s2 ruled.cases (ap (λ x. x.case) moved.left.terms ∙ case_s)) (ap (λ x. x.case) moved.came.terms ∙ case_t));
    count = length-set (set shares i s2) j t2 ∙ (length-set shares i s2 ∙ (ruled.count ∙ sym same_workers));
    rule = moved_rule;
  }

  pub machine_stays : IsSameMachine (simulation case) (assembled (board_of x) ps) (assembled (board_of z) (map place_of shares2))
  machine_stays = subst (λ l. IsSameMachine (simulation case) (assembled (board_of x) ps) (assembled (board_of z) l)) (sym places)
      (machine_moves (simulation case) (lawful case ruled.is_case) (who x) (who z) r i j (board_of x) (board_of z) ps (place_of s) (place_of t) (place_of s2) (place_of t2) ruled.rule in_range
      first_place second_place other was now others its_place)
