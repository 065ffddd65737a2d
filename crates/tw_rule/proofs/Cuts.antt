-- The rule holds of a board and places at a cut of the one-thread run, and the machine of all routers stands there.
use Rattle.std.proofs.Common.{◌≡◌, ◌+◌, ◌*◌, ◌<◌, ◌≤◌, ◌==◌, ◌∷◌, ◌++◌, ◌∙◌, Bool}
use Rattle.std.proofs.Common.{ℕ, zero, suc, cond, false, true, List, [], None, Some, IfSome, flat_map, get_or, length, map, replicate, refl, ap, sym, subst, inl, inr, arith, mul-one, zero-mul}
use Rattle.std.proofs.lemmas.Bool.{cases_Bool, cases_lt, eq-eqb, eqb-true, ne_eqb}
use Rattle.std.proofs.lemmas.List.{get_or-replicate, length-replicate}
use Rattle.std.specs.List.{AllByRecursion}
use Rattle.tw_core.proofs.Counts.{none_there}
use Rattle.tw_core.proofs.Cuts.{run_suits}
use Rattle.tw_core.proofs.Owners.{from_owner, of_owner}
use Rattle.tw_core.proofs.Parts.{sent_some, times-flat_map}
use Rattle.tw_core.proofs.Wording.{total_same, total_scale}
use Rattle.tw_core.specs.Cut.{IsCut}
use Rattle.tw_core.specs.Good.{times_there}
use Rattle.tw_core.specs.Machine.{Core, antimessages, messages, times_loose}
use Rattle.tw_core.specs.Parts.{Part, times_wanted, total}
use Rattle.tw_rule.proofs.Places.{all_in_map, total_map}
use Rattle.tw_rule.proofs.Ruled.{owners_once}
use Rattle.tw_rule.specs.Board.{Board, IsBoard, workers}
use Rattle.tw_rule.specs.Cut.{AreCutPlaces, HasOwn, IsCutBoard}
use Rattle.tw_rule.specs.Place.{IsPlace, Place, in_hand, part_of, whole}
use Rattle.tw_rule.specs.Rule.{Rule, Stands, assembled, is_at}
use Rattle.tw_sim.proofs.Closed.{rest_late, running_seq}
use Rattle.tw_sim.proofs.Counts.{in_filter, none}
use Rattle.tw_sim.proofs.Rising.{AllSuit}
use Rattle.tw_sim.proofs.Unique.{falling-filter, in_only, sent_by_source}
use Rattle.tw_sim.specs.Seq.{World, seq}
use Rattle.tw_sim.specs.Simulation.{Simulation, IsFalling, IsLawful, IsNumbered, all_sent, only, sent, times}

-- ---- a board

reported_at : (t b n w : ℕ) → b ≤ t → IfSome (get_or (replicate n (Some t)) w None) (λ time. b ≤ time)
reported_at t b zero w le = tt
reported_at t b (suc n) zero le = le
reported_at t b (suc n) (suc w) le = reported_at t b n w le

-- one of two values by a test, as read
pick_yes : {X : Type 0} (b : Bool) (x y : X) → b ≡ true → cond b x y ≡ x
pick_yes b x y is = rw is refl

-- of two equal values either is the one
pub either : {X : Type 0} (b : Bool) (x : X) → cond b x x ≡ x
either true x = refl
either false x = refl

pick_no : {X : Type 0} (b : Bool) (x y : X) → b ≡ false → cond b x y ≡ y
pick_no b x y is = rw is refl

module _ {S E : Type 0} (m : Simulation S E) (law : IsLawful m) where
  board_at_cut : (n t : ℕ) (x : Board E) → IsCutBoard n t x → IsBoard m x
  board_at_cut n t x board = grind (arith, reported_at)

  -- events that are handled and others that are pending, at time t, as a run has them
  pub record IsRunAt (t : ℕ) (v : World E) : Type 0 where
    pub falling : IsFalling m v.log
    pub soon : (e : E) → 0 < times m e v.log → m.time e < t
    pub late : (e : E) → 0 < times m e v.rest → t ≤ m.time e
    pub ahead : (e x : E) → 0 < times m e v.rest → 0 < times m x v.log → m.before e x ≡ false
    pub balance : (e : E) → times m e v.log + times m e v.rest ≡ times m e m.opening + times m e (all_sent m v.log)
    pub suit : AllSuit m v

  -- as the one-thread run to t
  pub run_at : IsNumbered m → (t : ℕ) → IsRunAt t (seq m t)
  run_at numbered t =
      let run = running_seq m law numbered t in
      record {
        falling = run.falling;
        soon = run.soon;
        late = rest_late m law numbered t;
        ahead = run.ahead;
        balance = run.balance;
        suit = run_suits m law t;
      }

  -- what is handled is for a router that is there
  there : (t : ℕ) (v : World E) → IsRunAt t v → (e : E) → 0 < times m e v.log → m.dst e < m.routers
  there t v run e h = law.receiver e (run.suit.handled e h)

  -- a router past those that are there has handled nothing
  pub none_beyond : (t : ℕ) (v : World E) → IsRunAt t v → (r : ℕ) → m.routers ≤ r → only m r v.log ≡ []
  none_beyond t v run r le =
      none_there m law (only m r v.log) (λ e. none (times m e (only m r v.log)) (λ h.
      (let past = in_filter m law (λ x. m.dst x == r) e v.log h in
      let same = eqb-true (m.dst e) r past.0 in
      let known = there t v run e past.1 in
      absurd (omega arith))))

  module _ (who : ℕ → ℕ) (t : ℕ) (v : World E) (run : IsRunAt t v) where
    -- those of the workers from w on
    abbrev pub HaveOwn : ℕ → List (Place E) → Type 0
    HaveOwn w [] = Unit {0}
    HaveOwn w (p ∷ ps) = HasOwn m v.log v.rest who t w p × HaveOwn (suc w) ps

    -- ---- one place

    module _ (w : ℕ) (p : Place E) (new : HasOwn m v.log v.rest who t w p) where
      -- what is handled here is its router's, and that is this worker's
      handled_here : (r : ℕ) (e : E) → 0 < times m e (p.history r) → (who r ≡ w) × (m.dst e ≡ r) × (0 < times m e v.log)
      handled_here r e h = grind (arith, cases_Bool, in_filter, eqb-true)

      -- what is pending here is for a router of this worker
      waits_here : (e : E) → 0 < times m e p.pending → (who (m.dst e) ≡ w) × (0 < times m e v.rest)
      waits_here e h = grind arith

      none_kept : (e : E) → times m e p.kept ≡ 0
      none_kept e = ap (times m e) new.kept

      none_held : (e : E) → times m e p.held ≡ 0
      none_held e = ap (times m e) new.held

      no_messages : (e : E) → messages m e p.mail + messages m e (in_hand p) ≡ 0
      no_messages e = grind arith

      no_antimessages : (e : E) → antimessages m e p.mail + antimessages m e (in_hand p) ≡ 0
      no_antimessages e = grind arith

      -- what is loose is left by the run
      loose_here : (e : E) → 0 < times_loose m (whole 0 p) e → 0 < times m e v.rest
      loose_here e h = (waits_here e (let a = none_kept e in let d = none_held e in let b = no_messages e in let c = no_antimessages e in omega arith)).1

      place_at_cut : (stop : ℕ) → t ≤ stop → IsPlace m stop p
      place_at_cut stop le = grind (arith, cases_Bool, pick_yes, falling-filter, pick_no, handled_here, waits_here, none_kept, cases_lt, none_held, no_messages, no_antimessages, there, eq-eqb, loose_here)

      stands_at_cut : (n : ℕ) (x : Board E) → w < n → IsCutBoard n t x → Stands m who x p
      stands_at_cut n x l board =
          let told : get_or x.reports p.worker None ≡ Some t =
          ap (λ rs. get_or rs p.worker None) board.reports ∙ (ap (λ k. get_or (replicate n (Some t)) k None) new.worker ∙ get_or-replicate n w (Some t) None l) in
          record {
            worker = (let a = new.worker in let b : workers x ≡ n = ap length board.reports ∙ length-replicate n (Some t) in omega arith);
            owns = λ r k. new.owns r k ∙ ap (λ k. who r == k) (sym new.worker);
            place = place_at_cut x.stop board.stop;
            reported = λ e h. grind arith;
            bound = (let a = new.bound in let b = board.bound in omega arith);
          }

      -- the worker is told by the place
      at_worker : (q n : ℕ) → cond (who q == w) n 0 ≡ cond (p.worker == who q) n 0
      at_worker q n = grind arith

      wanted_here : (e : E) → times_wanted m (whole 0 p) e ≡ cond (p.worker == who (m.src e)) (times m e (sent m (m.src e) (only m (m.src e) v.log))) 0
      wanted_here e = grind arith

      there_here : (e : E) → times_there m (whole 0 p) e ≡ cond (p.worker == who (m.dst e)) (times m e (only m (m.dst e) v.log) + times m e v.rest) 0
      there_here e = grind arith

    -- ---- the places of all workers

    all_own : (n : ℕ) (Q : Place E → Type 0) → ((w : ℕ) (p : Place E) → w < n → HasOwn m v.log v.rest who t w p → Q p) → (w : ℕ) (ps : List (Place E)) → w + length ps ≡ n
        → HaveOwn w ps → AllByRecursion Q ps
    all_own n Q f w [] all new = tt
    all_own n Q f w (p ∷ ps) all new = (f w p (omega arith) new.0, all_own n Q f (suc w) ps (omega arith) new.1)

    none_before : (k w : ℕ) (ps : List (Place E)) → k < w → HaveOwn w ps → total (is_at k) ps ≡ 0
    none_before k w [] l new = refl
    none_before k w (p ∷ ps) l new = grind (arith, ne_eqb, none_before k (suc w) ps (omega arith) new.1)

    -- each worker has one
    one_each : (k w : ℕ) (ps : List (Place E)) → w ≤ k → k < w + length ps → HaveOwn w ps → total (is_at k) ps ≡ 1
    one_each k w [] from l new = absurd (omega arith)
    one_each k w (p ∷ ps) from l new =
        elim (cases_lt w k) [
          | inl less ↦ (
              let other : is_at k p ≡ 0 = rw (ne_eqb p.worker k (λ is. let at = new.0.worker in omega arith)) refl in
              let more = one_each k (suc w) ps (omega arith) (omega arith) new.1 in
              omega arith)
          | inr ge ↦ grind (arith, eq-eqb, none_before)
        ]

    -- what one worker's place alone has is the sum over all places
    had_once : (ps : List (Place E)) → HaveOwn 0 ps → (d n : ℕ) (f : Place E → ℕ) → AllByRecursion (λ p. f p ≡ cond (p.worker == d) n 0) ps
        → (0 < n → d < length ps) → total f ps ≡ n
    had_once ps new d n f each within =
        let owners = total (λ (p : Place E). cond (p.worker == d) 1 0) ps in
        let once : n * owners ≡ n = elim (cases_lt 0 n) [
          | inl l ↦ ap (λ j. n * j) (one_each d 0 ps (omega arith) (let a = within l in omega arith) new) ∙ mul-one n
          | inr ge ↦ (let z : n ≡ 0 = omega arith in ap (λ j. j * owners) z ∙ (zero-mul owners ∙ sym z))
        ] in
        total_same m law f (λ p. cond (p.worker == d) n 0) ps each ∙ (total_scale m law n (λ (p : Place E). p.worker == d) ps ∙ once)

    pub rule_at : (x : Board E) (ps : List (Place E)) → IsCutBoard (length ps) t x → HaveOwn 0 ps → ((r : ℕ) → r < m.routers → who r < length ps) → Rule m who x ps
    rule_at x ps board new whose =
        let n = length ps in
        let many : workers x ≡ n = ap length board.reports ∙ length-replicate n (Some t) in
        record {
          board = board_at_cut n t x board;
          each = all_own n (Stands m who x) (λ w p l own. stands_at_cut w p own n x l board) 0 ps (omega arith) new;
          places = λ w l. one_each w 0 ps (omega arith) (omega arith) new;
          routers = λ r l. (let k = whose r l in omega arith);
          balance = λ e.
              let sends = times m e (sent m (m.src e) (only m (m.src e) v.log)) in
              let has = times m e (only m (m.dst e) v.log) + times m e v.rest in
              let here = in_only m law e v.log in
              let wanted = had_once ps new (who (m.src e)) sends (λ p. times_wanted m (whole 0 p) e)
              (all_own n (λ p. times_wanted m (whole 0 p) e ≡ cond (p.worker == who (m.src e)) sends 0) (λ w p l own. wanted_here w p own e) 0 ps (omega arith) new)
              (λ l.
              let some = sent_some m law (m.src e) (only m (m.src e) v.log) e l in
              let past = in_filter m law (λ x. m.dst x == m.src e) some.0 v.log some.1 in
              whose (m.src e) (subst (λ q. q < m.routers) (eqb-true (m.dst some.0) (m.src e) past.0) (there t v run some.0 past.1))) in
              let there_is = had_once ps new (who (m.dst e)) has (λ p. times_there m (whole 0 p) e)
              (all_own n (λ p. times_there m (whole 0 p) e ≡ cond (p.worker == who (m.dst e)) has 0) (λ w p l own. there_here w p own e) 0 ps (omega arith) new)
              (λ l. whose (m.dst e) (elim (cases_lt 0 (times m e v.log)) [
                | inl k ↦ there t v run e k
                | inr ge ↦ law.receiver e (run.suit.pending e (omega arith))
              ])) in
              let no_plus : messages m e x.mail ≡ 0 = ap (messages m e) board.mail in
              let no_minus : antimessages m e x.mail ≡ 0 = ap (antimessages m e) board.mail in
              let of_run = run.balance e in
              let source = sent_by_source m law v.log e in
              omega arith;
        }

    -- ---- and the machine of all routers

    history_at : (x : Board E) (ps : List (Place E)) → HaveOwn 0 ps → Rule m who x ps → (r : ℕ) → (assembled x ps).history r ≡ only m r v.log
    history_at x ps new rule r =
        elim (cases_lt r m.routers) [
          | inl known ↦ (
              let once = owners_once m law who x ps r rule known in
              let same = total_map (λ (p : Part E). cond (p.owns r) 1 0) (part_of x.stop) ps in
              let each : AllByRecursion (λ p. p.owns r ≡ true → p.history r ≡ only m r v.log) ps = all_own (length ps) (λ p. p.owns r ≡ true → p.history r ≡ only m r v.log)
              (λ w p l own mine. own.history r ∙ pick_yes (who r == w) (only m r v.log) [] (sym (own.owns r known) ∙ mine)) 0 ps (omega arith) new in
              of_owner r (λ (C : Core E). C.history r) [] (only m r v.log) (map (part_of x.stop) ps)
              (all_in_map (λ (p : Part E). p.owns r ≡ true → p.core.history r ≡ only m r v.log) (part_of x.stop) ps each) (omega arith))
          | inr beyond ↦ (
              let nothing = none_beyond t v run r beyond in
              let each : AllByRecursion (λ p. p.history r ≡ []) ps = all_own (length ps) (λ p. p.history r ≡ [])
              (λ w p l own. own.history r ∙ (ap (λ xs. cond (who r == w) xs []) nothing ∙ either (who r == w) [])) 0 ps (omega arith) new in
              from_owner r (λ (C : Core E). C.history r) [] (λ xs. xs ≡ []) refl (map (part_of x.stop) ps) (all_in_map (λ (p : Part E). p.core.history r ≡ []) (part_of x.stop) ps each) ∙ sym nothing)
        ]

    done_at : (x : Board E) (ps : List (Place E)) → HaveOwn 0 ps → (r : ℕ) → (assembled x ps).done r ≤ t
    done_at x ps new r =
        from_owner r (λ (C : Core E). C.done r) 0 (λ n. n ≤ t) (omega arith) (map (part_of x.stop) ps)
        (all_in_map (λ (p : Part E). p.core.done r ≤ t) (part_of x.stop) ps (all_own (length ps) (λ p. p.done r ≤ t) (λ w p l own. own.done r) 0 ps (omega arith) new))

    pending_at : (x : Board E) (ps : List (Place E)) → HaveOwn 0 ps → ((r : ℕ) → r < m.routers → who r < length ps) → (e : E) → times m e (assembled x ps).pending ≡ times m e v.rest
    pending_at x ps new whose e =
        let d = who (m.dst e) in
        let n = times m e v.rest in
        times-flat_map m e (λ p. p.core.pending) (map (part_of x.stop) ps)
        ∙ (total_map (λ (p : Part E). times m e p.core.pending) (part_of x.stop) ps
        ∙ had_once ps new d n (λ p. times m e p.pending)
        (all_own (length ps) (λ p. times m e p.pending ≡ cond (p.worker == d) n 0) (λ w p l own. own.pending e ∙ at_worker w p own (m.dst e) n) 0 ps (omega arith) new)
        (λ h. whose (m.dst e) (law.receiver e (run.suit.pending e h))))

    kept_at : (stop w : ℕ) (ps : List (Place E)) → HaveOwn w ps → flat_map (λ (p : Part E). p.core.kept) (map (part_of stop) ps) ≡ []
    kept_at stop w [] new = refl
    kept_at stop w (p ∷ ps) new = λ i. new.0.kept i ++ kept_at stop (suc w) ps new.1 i

    held_at : (stop w : ℕ) (ps : List (Place E)) → HaveOwn w ps → flat_map (λ (p : Part E). p.core.held) (map (part_of stop) ps) ≡ []
    held_at stop w [] new = refl
    held_at stop w (p ∷ ps) new = λ i. new.0.held i ++ held_at stop (suc w) ps new.1 i

    flight_at : (stop w : ℕ) (ps : List (Place E)) → HaveOwn w ps → flat_map (λ (p : Part E). p.core.flight) (map (part_of stop) ps) ≡ []
    flight_at stop w [] new = refl
    flight_at stop w (p ∷ ps) new = λ i. ((new.0.mail i ++ new.0.unsent i) ++ new.0.outgoing i) ++ flight_at stop (suc w) ps new.1 i

  -- ---- a cut

  own_at_cut : (who : ℕ → ℕ) (t w : ℕ) (ps : List (Place E)) (run : IsRunAt t (seq m t)) → AreCutPlaces m who t w ps → HaveOwn who t (seq m t) run w ps
  own_at_cut who t w [] run new = tt
  own_at_cut who t w (p ∷ ps) run new = (new.0, own_at_cut who t (suc w) ps run new.1)

  pub rule_at_cut : IsNumbered m → (who : ℕ → ℕ) (t : ℕ) (x : Board E) (ps : List (Place E)) → IsCutBoard (length ps) t x → AreCutPlaces m who t 0 ps
      → ((r : ℕ) → r < m.routers → who r < length ps) → Rule m who x ps
  rule_at_cut numbered who t x ps board new whose =
      let run = run_at numbered t in
      rule_at who t (seq m t) run x ps board (own_at_cut who t 0 ps run new) whose

  -- and the machine of all routers stands at that cut
  pub machine_at_cut : IsNumbered m → (who : ℕ → ℕ) (t : ℕ) (x : Board E) (ps : List (Place E)) → IsCutBoard (length ps) t x → AreCutPlaces m who t 0 ps
      → ((r : ℕ) → r < m.routers → who r < length ps) → IsCut m t (assembled x ps)
  machine_at_cut numbered who t x ps board new whose =
      let run = run_at numbered t in
      let v = seq m t in
      let own = own_at_cut who t 0 ps run new in
      record {
        history = history_at who t v run x ps own (rule_at who t v run x ps board own whose);
        pending = pending_at who t v run x ps own whose;
        kept = kept_at who t v run x.stop 0 ps own;
        flight = λ i. board.mail i ++ flight_at who t v run x.stop 0 ps own i;
        held = held_at who t v run x.stop 0 ps own;
        done = done_at who t v run x ps own;
        bound = board.bound;
        stop = board.stop;
      }
