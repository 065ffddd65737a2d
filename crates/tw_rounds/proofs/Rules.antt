-- What keeps the rule, where each process is a place whose worker has reported the bound.
use Rattle.std.proofs.Common.{◌≡◌, ℕ, zero, suc, ◌+◌, ◌<◌, ◌≤◌, ◌==◌, List, [], ◌∷◌, ◌++◌, None, Some, IfSome, max, replicate, slice_get, slice_index_or, true, refl, ap, sym, ◌∙◌, subst, ◌⊎◌, inl, inr, arith}
use Rattle.std.proofs.lemmas.Bool.{cases_lt}
use Rattle.std.proofs.lemmas.List.{get_or-replicate, length-replicate}
use Rattle.std.specs.Option.{IsSomeAnd}
use Rattle.tw_core.proofs.Counts.{antimessages-append, messages-append}
use Rattle.tw_core.specs.Machine.{antimessages, messages, times_handled, times_loose}
use Rattle.tw_rounds.proofs.Lists.{all_indexed}
use Rattle.tw_rounds.specs.Ruled.{board_of}
use Rattle.tw_rule.proofs.Visits.{may_stay, stands_from}
use Rattle.tw_rule.specs.Board.{Board, IsBoard, times_among}
use Rattle.tw_rule.specs.Place.{IsPlace, NoneLooseBefore, Place, PreservesPlace, in_hand, whole}
use Rattle.tw_rule.specs.Rule.{MayGive, Rule, Stands}
use Rattle.tw_sim.specs.declared.machine.Signed.{Signed}
use Rattle.tw_sim.specs.Simulation.{Simulation, IsLawful, times}

-- no report is before the bound
reported_from : (n b w : ℕ) → IfSome (slice_index_or (replicate n (Some b)) w None) (λ time. b ≤ time)
reported_from zero b w = tt
reported_from (suc n) b zero = omega arith
reported_from (suc n) b (suc w) = reported_from n b w

-- each process is a worker of its own
abbrev pub self : ℕ → ℕ
self r = r

-- a place knows this bound, or its own where that is later
abbrev pub knowing : {E : Type 0} → ℕ → Place E → Place E
knowing b p = record p { bound = max p.bound b }

module _ {S E : Type 0} (m : Simulation S E) (law : IsLawful m) where
  -- a message is among others as itself, or it is among the rest
  among_cons : (e : E) (x : Signed E) (xs : List (Signed E)) → 0 < times_among m e (x ∷ xs) → (e ≡ x.event) ⊎ (0 < times_among m e xs)
  among_cons e x xs h = grind arith

  pub among_self : (x : Signed E) (xs : List (Signed E)) → 0 < times_among m x.event (x ∷ xs)
  among_self x xs = grind arith

  -- ---- boards and places

  pub is_board : (n b stop : ℕ) (flight : List (Signed E)) → b ≤ stop → ((e : E) → 0 < times_among m e flight → b ≤ m.time e) → ((e : E) → 0 < times_among m e flight → m.suits e ≡ true)
      → IsBoard m (board_of n flight b stop)
  is_board n b stop flight le late suit = record { stop = le; reported = λ w. reported_from n b w; late = late; suit = suit }

  -- a place stands where nothing loose there is before the bound
  pub stands_of : (n b stop : ℕ) (flight : List (Signed E)) (p : Place E) → p.worker < n → ((r : ℕ) → r < m.routers → p.owns r ≡ (r == p.worker)) → IsPlace m stop p → NoneLooseBefore m b p
      → p.bound ≤ b → Stands m self (board_of n flight b stop) p
  stands_of n b stop flight p here owns place late le = record {
    worker = subst (λ k. p.worker < k) (sym (length-replicate n (Some b))) here;
    owns = owns;
    place = place;
    reported = λ e h. subst (λ o. IsSomeAnd o (λ time. time ≤ m.time e)) (sym (get_or-replicate n p.worker (Some b) None here)) (late e h);
    bound = le;
  }

  -- a place may know a later bound
  pub place_known : (stop b : ℕ) (p : Place E) → IsPlace m stop p → p.bound ≤ b → NoneLooseBefore m b p → IsPlace m stop (record p { bound = b })
  place_known stop b p place le late = record {
    good = grind arith;
    history = place.history;
    waiting = place.waiting;
    held = place.held;
    done = λ r. (let old = place.done r in omega arith);
    late = late;
    counted = place.counted;
  }

  -- ---- turns

  module _ (x : Board E) (board : IsBoard m x) (b : ℕ) (le : b ≤ x.bound) where
    pub known_stands : (p : Place E) → Stands m self x p → Stands m self x (knowing b p)
    known_stands p stands = record {
      worker = stands.worker;
      owns = stands.owns;
      place = place_known x.stop (max p.bound b) p stands.place (omega arith) (λ e h. (let from = stands_from m law self x p board stands e h in let old = stands.bound in omega arith));
      reported = stands.reported;
      bound = (let old = stands.bound in omega arith);
    }

    -- what a call keeps, once the place knows the bound, may be given
    pub may_turn : (p q : Place E) → Stands m self x p → PreservesPlace m x.stop (knowing b p) q → MayGive m self x p x q
    may_turn p q stands keeps =
        let may = may_stay m law self x (knowing b p) q board (known_stands p stands) keeps in
        record { worker = may.worker; steps = may.steps; stands = may.stands; moved = may.moved; done = may.done }

  -- ---- the bound

  pub rule_raised : (n b c stop : ℕ) (flight : List (Signed E)) (ps : List (Place E)) → Rule m self (board_of n flight b stop) ps → b ≤ c → c ≤ stop
      → ((e : E) → 0 < times_among m e flight → c ≤ m.time e) → ((i : ℕ) (p : Place E) → slice_get ps i ≡ Some p → NoneLooseBefore m c p) → Rule m self (board_of n flight c stop) ps
  rule_raised n b c stop flight ps rule up le late loose =
      let was = length-replicate n (Some b) in
      let now = length-replicate n (Some c) in
      record {
        board = is_board n c stop flight le late rule.board.suit;
        each = all_indexed (Stands m self (board_of n flight b stop)) (Stands m self (board_of n flight c stop)) ps
            (λ i p at stands. stands_of n c stop flight p (let here = stands.worker in omega arith) stands.owns stands.place (loose i p at) (let old = stands.bound in omega arith)) rule.each;
        places = λ w l. rule.places w (omega arith);
        routers = λ r l. (let old = rule.routers r l in omega arith);
        balance = rule.balance;
      }

  -- ---- messages

  -- the order of what is on its way does not count
  pub rule_reordered : (n b stop : ℕ) (flight out : List (Signed E)) (ps : List (Place E)) → Rule m self (board_of n flight b stop) ps
      → ((e : E) → (messages m e out ≡ messages m e flight) × (antimessages m e out ≡ antimessages m e flight)) → Rule m self (board_of n out b stop) ps
  rule_reordered n b stop flight out ps rule same = record {
    board = is_board n b stop out rule.board.stop
        (λ e h. rule.board.late e (let k = same e in let a = k.0 in let c = k.1 in omega arith))
        (λ e h. rule.board.suit e (let k = same e in let a = k.0 in let c = k.1 in omega arith));
    each = all_indexed (Stands m self (board_of n flight b stop)) (Stands m self (board_of n out b stop)) ps
        (λ i p at s. record { worker = s.worker; owns = s.owns; place = s.place; reported = s.reported; bound = s.bound }) rule.each;
    places = rule.places;
    routers = rule.routers;
    balance = λ e. (let old = rule.balance e in let k = same e in let a = k.0 in let c = k.1 in omega arith);
  }

  module _ (n b stop : ℕ) (flight : List (Signed E)) (p : Place E) (board : IsBoard m (board_of n flight b stop)) (stands : Stands m self (board_of n flight b stop) p) where
    -- nothing loose at a place is before the bound
    pub loose_from : NoneLooseBefore m b p
    loose_from = stands_from m law self (board_of n flight b stop) p board stands

    -- ---- what leaves a place, of what it was handed, has to send on or has sent

    module _ (mail unsent outgoing out : List (Signed E)) (few : (e : E) → times_among m e mail ≤ times_among m e p.mail)
        (parted : (e : E) → (messages m e (in_hand p) ≡ messages m e ((mail ++ unsent) ++ outgoing) + messages m e out)
        × (antimessages m e (in_hand p) ≡ antimessages m e ((mail ++ unsent) ++ outgoing) + antimessages m e out)) where
      abbrev left : Place E
      left = record p { mail = mail; unsent = unsent; outgoing = outgoing }

      loose_left : (e : E) → times_loose m (whole 0 p) e ≡ times_loose m (whole 0 left) e + times_among m e out
      loose_left e = (let k = parted e in let a = k.0 in let c = k.1 in omega arith)

      on_way_from : (e : E) → 0 < times_among m e (flight ++ out) → (b ≤ m.time e) × (m.suits e ≡ true)
      on_way_from e h =
          let k = loose_left e in
          let a = messages-append m e flight out in
          let c = antimessages-append m e flight out in
          elim (cases_lt 0 (times_among m e out)) [
            | inl l ↦ (loose_from e (omega arith), stands.place.good.suit e (omega arith))
            | inr ge ↦ (let l : 0 < times_among m e flight = omega arith in (board.late e l, board.suit e l))
          ]

      left_place : IsPlace m stop left
      left_place = record {
        good = record {
          falling = stands.place.good.falling;
          home = stands.place.good.home;
          soon = stands.place.good.soon;
          late = λ e h. omega arith;
          ahead = stands.place.good.ahead;
          alone = stands.place.good.alone;
          suit = λ e h. stands.place.good.suit e (let k = loose_left e in omega arith);
        };
        history = stands.place.history;
        waiting = λ e h. stands.place.waiting e (let k = few e in omega arith);
        held = stands.place.held;
        done = stands.place.done;
        late = λ e h. stands.place.late e (let k = loose_left e in omega arith);
        counted = stands.place.counted;
      }

      -- it goes on its way
      pub may_leave : MayGive m self (board_of n flight b stop) p (board_of n (flight ++ out) b stop) left
      may_leave = record {
        worker = refl;
        steps = record {
          others = λ v other. refl;
          workers = refl;
          bound = omega arith;
          stop = refl;
          board = is_board n b stop (flight ++ out) board.stop (λ e h. (on_way_from e h).0) (λ e h. (on_way_from e h).1);
        };
        stands = record {
          worker = stands.worker;
          owns = stands.owns;
          place = left_place;
          reported = λ e h. stands.reported e (let k = loose_left e in omega arith);
          bound = stands.bound;
        };
        moved = λ e. (let k = parted e in let a = k.0 in let c = k.1 in let f = messages-append m e flight out in let g = antimessages-append m e flight out in omega arith);
        done = λ r. omega arith;
      }

    -- ---- what comes to a place from its way

    module _ (rest out : List (Signed E)) (is : flight ≡ rest ++ out) (mail unsent : List (Signed E))
        (waiting : (e : E) → 0 < times m e p.pending + times m e p.kept + times_among m e mail → p.owns (m.dst e) ≡ true)
        (joined : (e : E) → (messages m e ((mail ++ unsent) ++ p.outgoing) ≡ messages m e (in_hand p) + messages m e out)
        × (antimessages m e ((mail ++ unsent) ++ p.outgoing) ≡ antimessages m e (in_hand p) + antimessages m e out)) where
      abbrev more : Place E
      more = record p { mail = mail; unsent = unsent }

      aside : (e : E) → (messages m e flight ≡ messages m e rest + messages m e out) × (antimessages m e flight ≡ antimessages m e rest + antimessages m e out)
      aside e = (ap (messages m e) is ∙ messages-append m e rest out, ap (antimessages m e) is ∙ antimessages-append m e rest out)

      rest_from : (e : E) → 0 < times_among m e rest + times_among m e out → (b ≤ m.time e) × (m.suits e ≡ true)
      rest_from e h = (let k = aside e in let a = k.0 in let c = k.1 in let l : 0 < times_among m e flight = omega arith in (board.late e l, board.suit e l))

      loose_more : (e : E) → times_loose m (whole 0 more) e ≡ times_loose m (whole 0 p) e + times_among m e out
      loose_more e = (let k = joined e in let a = k.0 in let c = k.1 in omega arith)

      late_more : NoneLooseBefore m b more
      late_more e h = elim (cases_lt 0 (times_among m e out)) [
        | inl l ↦ (rest_from e (omega arith)).0
        | inr ge ↦ loose_from e (let k = loose_more e in omega arith)
      ]

      suit_more : (e : E) → 0 < times_handled m (whole 0 more) e + times_loose m (whole 0 more) e → m.suits e ≡ true
      suit_more e h = elim (cases_lt 0 (times_among m e out)) [
        | inl l ↦ (rest_from e (omega arith)).1
        | inr ge ↦ stands.place.good.suit e (let k = loose_more e in omega arith)
      ]

      more_place : IsPlace m stop more
      more_place = record {
        good = record {
          falling = stands.place.good.falling;
          home = stands.place.good.home;
          soon = stands.place.good.soon;
          late = λ e h. omega arith;
          ahead = stands.place.good.ahead;
          alone = stands.place.good.alone;
          suit = suit_more;
        };
        history = stands.place.history;
        waiting = waiting;
        held = stands.place.held;
        done = stands.place.done;
        late = λ e h. (let from = late_more e h in let old = stands.bound in omega arith);
        counted = stands.place.counted;
      }

      -- it is kept there
      pub may_come : MayGive m self (board_of n flight b stop) p (board_of n rest b stop) more
      may_come = record {
        worker = refl;
        steps = record {
          others = λ v other. refl;
          workers = refl;
          bound = omega arith;
          stop = refl;
          board = is_board n b stop rest board.stop (λ e h. (rest_from e (omega arith)).0) (λ e h. (rest_from e (omega arith)).1);
        };
        stands = stands_of n b stop rest more (let here = stands.worker in let len = length-replicate n (Some b) in omega arith) stands.owns more_place late_more stands.bound;
        moved = λ e. (let k = joined e in let a = k.0 in let c = k.1 in let l = aside e in let d = l.0 in let f = l.1 in omega arith);
        done = λ r. omega arith;
      }

    -- a message waits there for its receiver
    pub waits_handed : (s : Signed E) → p.owns (m.dst s.event) ≡ true → (e : E) → 0 < times m e p.pending + times m e p.kept + times_among m e (p.mail ++ s ∷ []) → p.owns (m.dst e) ≡ true
    waits_handed s home e h =
        let a = messages-append m e p.mail (s ∷ []) in
        let c = antimessages-append m e p.mail (s ∷ []) in
        elim (cases_lt 0 (times_among m e (s ∷ []))) [
          | inl l ↦ elim (among_cons e s [] l) [ inl is_it ↦ subst (λ x. p.owns (m.dst x) ≡ true) (sym is_it) home | inr none ↦ absurd (omega arith) ]
          | inr ge ↦ stands.place.waiting e (omega arith)
        ]
