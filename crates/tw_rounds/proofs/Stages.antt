-- The rule over all processes, from one stage of a round to the next.
use Rattle.std.proofs.Common.{◌≡◌, ℕ, ◌+◌, ◌<◌, ◌≤◌, List, [], ◌∷◌, ◌++◌, Some, Result, Ok, Err, OnErr, OnOk, length, map, max, set, slice_get, refl, ap, sym, ◌∙◌, subst, arith}
use Rattle.std.proofs.lemmas.Bool.{eq-eqb}
use Rattle.std.proofs.lemmas.List.{length-set}
use Rattle.tw_core.proofs.Counts.{antimessages-append, messages-append}
use Rattle.tw_core.specs.Machine.{antimessages, messages}
use Rattle.tw_rounds.proofs.Lists.{get_set, map_get, map_set, set_each, set_twice, there_at}
use Rattle.tw_rounds.proofs.Members.{earliest-le, earliest-there, keeps_same}
use Rattle.tw_rounds.proofs.Rules.{among_self, known_stands, loose_from, may_come, may_leave, may_turn, rule_raised, rule_reordered, self, waits_handed}
use Rattle.tw_rounds.specs.Members.{IsFullBefore, IsSound, Keeps, KeepsTo, Mailed, handed, place_of, raised, sent_on, taken_out}
use Rattle.tw_rounds.specs.Ruled.{AreRuled, IsSomeFullBefore, board_of}
use Rattle.tw_rounds.specs.Times.{earliest}
use Rattle.tw_rule.proofs.Gives.{rule_gives, rule_reopens}
use Rattle.tw_rule.proofs.Places.{all_at, get_map}
use Rattle.tw_rule.proofs.Visits.{may_stay}
use Rattle.tw_rule.specs.Board.{times_among}
use Rattle.tw_rule.specs.Place.{NoneLooseBefore}
use Rattle.tw_rule.specs.Rule.{MayGive, Rule, Stands}
use Rattle.tw_sim.specs.declared.machine.Signed.{Signed}
use Rattle.tw_sim.specs.Simulation.{Simulation}

module _ {S M E : Type 0} (m : Simulation S E) where
  module _ (model : M) (stop bound : ℕ) (flight : List (Signed E)) (xs : List (Mailed M E)) (ruled : AreRuled m model stop bound flight xs) where
    -- a process stands at its number
    pub stands_at : (i : ℕ) (x : Mailed M E) → slice_get xs i ≡ Some x → Stands m self (board_of (length xs) flight bound stop) (place_of x)
    stands_at i x at = all_at (Stands m self (board_of (length xs) flight bound stop)) (map place_of xs) i (place_of x) (get_map place_of xs i x at) ruled.rule.each

    pub sound_at : (i : ℕ) (x : Mailed M E) → slice_get xs i ≡ Some x → IsSound m stop x
    sound_at i x at = record { law = ruled.law; place = (stands_at i x at).place }

    -- it may take a turn, once it knows the bound
    pub may_turn_at : (i : ℕ) (x : Mailed M E) → slice_get xs i ≡ Some x → IsSound m stop (raised bound x)
    may_turn_at i x at =
        record { law = ruled.law; place = (known_stands m ruled.law (board_of (length xs) flight bound stop) ruled.rule.board bound (omega arith) (place_of x) (stands_at i x at)).place }

    -- one has given back what it may
    one_given : (out : List (Signed E)) (i : ℕ) (x y : Mailed M E) → slice_get xs i ≡ Some x → y.process.number ≡ x.process.number → y.process.model ≡ x.process.model
        → MayGive m self (board_of (length xs) flight bound stop) (place_of x) (board_of (length xs) out bound stop) (place_of y) → AreRuled m model stop bound out (set xs i y)
    one_given out i x y at number same may = record {
      law = ruled.law;
      numbered = ruled.numbered;
      count = length-set xs i y ∙ ruled.count;
      each = set_each (λ j (z : Mailed M E). (z.process.number ≡ j) × (z.process.model ≡ model)) xs i y
          (let was = ruled.each i x at in (number ∙ was.0, same ∙ was.1)) ruled.each;
      rule = subst (λ n. Rule m self (board_of n out bound stop) (map place_of (set xs i y))) (sym (length-set xs i y))
          (subst (Rule m self (board_of (length xs) out bound stop)) (map_set place_of xs i y)
          (rule_gives m self (board_of (length xs) flight bound stop) (board_of (length xs) out bound stop) (map place_of xs) i (place_of x) (place_of y) ruled.rule
          (get_map place_of xs i x at) may));
    }

    -- one has done what its place keeps
    pub one_kept : (i : ℕ) (x y : Mailed M E) → slice_get xs i ≡ Some x → Keeps m stop x y → AreRuled m model stop bound flight (set xs i y)
    one_kept i x y at keeps =
        one_given flight i x y at keeps.number keeps.model
        (may_stay m ruled.law self (board_of (length xs) flight bound stop) (place_of x) (place_of y) ruled.rule.board (stands_at i x at) keeps.place)

    -- one tells a time
    pub one_told : (i : ℕ) (x : Mailed M E) → slice_get xs i ≡ Some x → (t : ℕ) → AreRuled m model stop bound flight (set xs i (record x { least = t }))
    one_told i x at t =
        one_given flight i x (record x { least = t }) at refl refl
        (may_stay m ruled.law self (board_of (length xs) flight bound stop) (place_of x) (place_of x) ruled.rule.board (stands_at i x at) (keeps_same m stop x (sound_at i x at)).place)

    -- one has begun a round
    pub one_begun : (i : ℕ) (x y : Mailed M E) → slice_get xs i ≡ Some x → Keeps m stop (raised bound x) y → AreRuled m model stop bound flight (set xs i y)
    one_begun i x y at keeps =
        one_given flight i x y at keeps.number keeps.model
        (may_turn m ruled.law (board_of (length xs) flight bound stop) ruled.rule.board bound (omega arith) (place_of x) (place_of y) (stands_at i x at) keeps.place)

    -- the order of what is on its way does not count
    pub reordered : (out : List (Signed E)) → ((e : E) → (messages m e out ≡ messages m e flight) × (antimessages m e out ≡ antimessages m e flight)) → AreRuled m model stop bound out xs
    reordered out same = record {
      law = ruled.law;
      numbered = ruled.numbered;
      count = ruled.count;
      each = ruled.each;
      rule = rule_reordered m ruled.law (length xs) bound stop flight out (map place_of xs) ruled.rule same;
    }

    -- what one has to send on is on its way
    pub one_sent_on : (i : ℕ) (x : Mailed M E) → slice_get xs i ≡ Some x → AreRuled m model stop bound (flight ++ x.outbox) (set xs i (sent_on x))
    one_sent_on i x at =
        one_given (flight ++ x.outbox) i x (sent_on x) at refl refl
        (may_leave m ruled.law (length xs) bound stop flight (place_of x) ruled.rule.board (stands_at i x at) x.mail [] x.process.flight x.outbox
        (λ e. omega arith) (λ e. (grind (arith, messages-append), grind (arith, antimessages-append))))

    -- one has to send on what is on its way
    pub one_kept_aside : (rest out : List (Signed E)) → flight ≡ rest ++ out → (i : ℕ) (x : Mailed M E) → slice_get xs i ≡ Some x
        → AreRuled m model stop bound rest (set xs i (record x { outbox = x.outbox ++ out }))
    one_kept_aside rest out is i x at =
        one_given rest i x (record x { outbox = x.outbox ++ out }) at refl refl
        (may_come m ruled.law (length xs) bound stop flight (place_of x) ruled.rule.board (stands_at i x at) rest out is x.mail (x.outbox ++ out)
        (stands_at i x at).place.waiting (λ e. (grind (arith, messages-append), grind (arith, antimessages-append))))

    -- what one was handed is on its way again
    pub one_returned : (mail back : List (Signed E)) (i : ℕ) (x : Mailed M E) → slice_get xs i ≡ Some x → x.mail ≡ mail ++ back
        → AreRuled m model stop bound (flight ++ back) (set xs i (record x { mail = mail }))
    one_returned mail back i x at is =
        one_given (flight ++ back) i x (record x { mail = mail }) at refl refl
        (may_leave m ruled.law (length xs) bound stop flight (place_of x) ruled.rule.board (stands_at i x at) mail x.outbox x.process.flight back
        (λ e. (let a = ap (messages m e) is in let c = ap (antimessages m e) is in grind (arith, messages-append, antimessages-append)))
        (λ e. (let a = ap (messages m e) is in let c = ap (antimessages m e) is in (grind (arith, messages-append), grind (arith, antimessages-append)))))

    -- what one has sent is on its way
    pub one_sent : (i : ℕ) (x : Mailed M E) → slice_get xs i ≡ Some x → AreRuled m model stop bound (flight ++ x.process.flight) (set xs i (taken_out x))
    one_sent i x at =
        one_given (flight ++ x.process.flight) i x (taken_out x) at refl refl
        (may_leave m ruled.law (length xs) bound stop flight (place_of x) ruled.rule.board (stands_at i x at) x.mail x.outbox [] x.process.flight
        (λ e. omega arith) (λ e. (grind (arith, messages-append), grind (arith, antimessages-append))))

    module _ (rest : List (Signed E)) (s : Signed E) (is : flight ≡ rest ++ s ∷ []) where
      -- the last message is for a process that is there
      pub receiver_there : m.dst s.event < length xs
      receiver_there =
          let one = among_self m ruled.law s [] in
          let a = ap (messages m s.event) is ∙ messages-append m s.event rest (s ∷ []) in
          let b = ap (antimessages m s.event) is ∙ antimessages-append m s.event rest (s ∷ []) in
          let here = ruled.law.receiver s.event (ruled.rule.board.suit s.event (omega arith)) in
          let count = ruled.count in
          omega arith

      -- it is handed to that
      pub one_handed : (x : Mailed M E) → slice_get xs (m.dst s.event) ≡ Some x → AreRuled m model stop bound rest (set xs (m.dst s.event) (record x { mail = x.mail ++ s ∷ [] }))
      one_handed x at =
          one_given rest (m.dst s.event) x (record x { mail = x.mail ++ s ∷ [] }) at refl refl
          (may_come m ruled.law (length xs) bound stop flight (place_of x) ruled.rule.board (stands_at (m.dst s.event) x at) rest (s ∷ []) is (x.mail ++ s ∷ []) x.outbox
          (waits_handed m ruled.law (length xs) bound stop flight (place_of x) ruled.rule.board (stands_at (m.dst s.event) x at) s
          (eq-eqb (m.dst s.event) x.process.number (sym (ruled.each (m.dst s.event) x at).0)))
          (λ e. (grind (arith, messages-append), grind (arith, antimessages-append))))

    -- a process has the last message on its way to send on
    pub kept_ruled : (rest : List (Signed E)) (s : Signed E) → flight ≡ rest ++ s ∷ [] → (n : ℕ) (ys : List (Mailed M E)) → n < length xs
        → ((x : Mailed M E) → slice_get xs n ≡ Some x → ys ≡ set xs n (record x { outbox = x.outbox ++ s ∷ [] })) → AreRuled m model stop bound rest ys
    kept_ruled rest s is n ys l h =
        let x = there_at xs n l in
        subst (AreRuled m model stop bound rest) (sym (h x.0 x.1)) (one_kept_aside rest (s ∷ []) is n x.0 x.1)

    -- nothing has changed
    pub still_ruled : (n : ℕ) (ys : List (Mailed M E)) → n < length xs → ((x : Mailed M E) → slice_get xs n ≡ Some x → ys ≡ set xs n x) → AreRuled m model stop bound flight ys
    still_ruled n ys l h =
        let x = there_at xs n l in
        subst (AreRuled m model stop bound flight) (sym (h x.0 x.1)) (one_kept n x.0 x.0 x.1 (keeps_same m stop x.0 (sound_at n x.0 x.1)))

    -- what one has sent is on its way, or nothing has changed
    pub sent_ruled : {T F : Type 0} (r : Result T F) (i : ℕ) (x y : Mailed M E) (out : List (Signed E)) → slice_get xs i ≡ Some x → OnOk r (y ≡ taken_out x) → OnOk r (out ≡ flight ++ x.process.flight)
        → OnErr r (y ≡ x) → OnErr r (out ≡ flight) → AreRuled m model stop bound out (set xs i y)
    sent_ruled (Ok u) i x y out at ok sent err unsent =
        subst (λ f. AreRuled m model stop bound f (set xs i y)) (sym sent)
        (subst (λ z. AreRuled m model stop bound (flight ++ x.process.flight) (set xs i z)) (sym ok) (one_sent i x at))
    sent_ruled (Err u) i x y out at ok sent err unsent =
        subst (λ f. AreRuled m model stop bound f (set xs i y)) (sym unsent)
        (subst (λ z. AreRuled m model stop bound flight (set xs i z)) (sym err) (one_kept i x x at (keeps_same m stop x (sound_at i x at))))

    -- what one has to send on is on its way, or nothing has changed
    pub sent_on_ruled : {T F : Type 0} (r : Result T F) (i : ℕ) (x y : Mailed M E) (out : List (Signed E)) → slice_get xs i ≡ Some x → OnOk r (y ≡ sent_on x) → OnOk r (out ≡ flight ++ x.outbox)
        → OnErr r (y ≡ x) → OnErr r (out ≡ flight) → AreRuled m model stop bound out (set xs i y)
    sent_on_ruled (Ok u) i x y out at ok sent err unsent =
        subst (λ f. AreRuled m model stop bound f (set xs i y)) (sym sent)
        (subst (λ z. AreRuled m model stop bound (flight ++ x.outbox) (set xs i z)) (sym ok) (one_sent_on i x at))
    sent_on_ruled (Err u) i x y out at ok sent err unsent =
        subst (λ f. AreRuled m model stop bound f (set xs i y)) (sym unsent)
        (subst (λ z. AreRuled m model stop bound flight (set xs i z)) (sym err) (one_kept i x x at (keeps_same m stop x (sound_at i x at))))

    -- the bound has risen
    pub bound_raised : (c : ℕ) → bound ≤ c → c ≤ stop → ((e : E) → 0 < times_among m e flight → c ≤ m.time e) → ((i : ℕ) (x : Mailed M E) → slice_get xs i ≡ Some x → NoneLooseBefore m c (place_of x))
        → AreRuled m model stop c flight xs
    bound_raised c up le late loose = record {
      law = ruled.law;
      numbered = ruled.numbered;
      count = ruled.count;
      each = ruled.each;
      rule = rule_raised m ruled.law (length xs) bound c stop flight (map place_of xs) ruled.rule up le late
          (λ i p at. let x = map_get place_of xs i p at in subst (NoneLooseBefore m c) x.2 (loose i x.0 x.1));
    }

    -- the bound has risen to the least of what waits or is on its way
    pub bound_found : (least : ℕ) → bound ≤ stop → least ≤ earliest m.time flight stop → ((i : ℕ) (x : Mailed M E) → slice_get xs i ≡ Some x → NoneLooseBefore m least (place_of x))
        → AreRuled m model stop (max bound least) flight xs
    bound_found least le most loose =
        let within_stop = earliest-le m.time flight stop in
        bound_raised (max bound least) (omega arith) (omega arith)
        (λ e h. (let a = ruled.rule.board.late e h in let b = earliest-there m ruled.law flight stop e h in omega arith))
        (λ i x at e h. (
        let a = loose_from m ruled.law (length xs) bound stop flight (place_of x) ruled.rule.board (stands_at i x at) e h in
        let b = loose i x at e h in
        omega arith))

    -- the stop has risen
    pub stop_raised : (later : ℕ) → stop ≤ later → AreRuled m model later bound flight xs
    stop_raised later le = record {
      law = ruled.law;
      numbered = ruled.numbered;
      count = ruled.count;
      each = ruled.each;
      rule = rule_reopens m self (board_of (length xs) flight bound stop) (map place_of xs) later le ruled.rule;
    }

module _ {S M E : Type 0} (m : Simulation S E) (model : M) (stop bound : ℕ) (xs : List (Mailed M E)) (rest : List (Signed E)) (s : Signed E) (ruled : AreRuled m model stop bound (rest ++ s ∷ []) xs)
    (i : ℕ) (x y : Mailed M E) (at : slice_get xs i ≡ Some x) (own : m.dst s.event ≡ i) where
  -- the last message on its way would be handed to its receiver
  pub would_hand : AreRuled m model stop bound rest (set xs i (handed s x))
  would_hand =
      subst (λ n. AreRuled m model stop bound rest (set xs n (handed s x))) own
      (one_handed m model stop bound (rest ++ s ∷ []) xs ruled rest s refl x (subst (λ n. slice_get xs n ≡ Some x) (sym own) at))

  pub would_sound : IsSound m stop (handed s x)
  would_sound = sound_at m model stop bound rest (set xs i (handed s x)) would_hand i (handed s x) (get_set xs i x (handed s x) at)

  -- its receiver has received it
  pub one_received : Keeps m stop (handed s x) y → AreRuled m model stop bound rest (set xs i y)
  one_received keeps =
      subst (AreRuled m model stop bound rest) (set_twice xs i (handed s x) y)
      (one_kept m model stop bound rest (set xs i (handed s x)) would_hand i (handed s x) y (get_set xs i x (handed s x) at) keeps)

  -- or there was no memory for it, and it is on its way still
  pub one_met : Keeps m stop (handed s x) (handed s y) → AreRuled m model stop bound (rest ++ s ∷ []) (set xs i y)
  one_met keeps =
      let met = subst (AreRuled m model stop bound rest) (set_twice xs i (handed s x) (handed s y))
      (one_kept m model stop bound rest (set xs i (handed s x)) would_hand i (handed s x) (handed s y) (get_set xs i x (handed s x) at) keeps) in
      subst (AreRuled m model stop bound (rest ++ s ∷ [])) (set_twice xs i (handed s y) y)
      (one_returned m model stop bound rest (set xs i (handed s y)) met y.mail (s ∷ []) i (handed s y) (get_set xs i x (handed s y) at) refl)

module _ {S M E : Type 0} (sim : M → Simulation S E) (model : M) (stop bound : ℕ) (flight : List (Signed E)) (xs : List (Mailed M E)) (ruled : AreRuled (sim model) model stop bound flight xs)
    (i : ℕ) (x y : Mailed M E) (at : slice_get xs i ≡ Some x) where
  -- one has told why it does not go on
  pub told_ruled : bound < stop → KeepsTo (sim x.process.model) (bound + 1) x y → AreRuled (sim model) model stop bound flight (set xs i y)
  told_ruled lt keeps =
      one_kept (sim model) model stop bound flight xs ruled i x y at
      (subst (λ md. KeepsTo (sim md) (bound + 1) x y) (ruled.each i x at).1 keeps stop (omega arith) (sound_at (sim model) model stop bound flight xs ruled i x at))

  pub told_full : IsFullBefore (sim x.process.model) (bound + 1) y.process → IsSomeFullBefore (sim model) (bound + 1) (set xs i y)
  told_full full = record { number = i; member = y; there = get_set xs i x y at; full = subst (λ md. IsFullBefore (sim md) (bound + 1) y.process) (ruled.each i x at).1 full }
