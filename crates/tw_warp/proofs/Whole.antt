-- A part of a machine beside the rest of it: what a step at the part's routers does to the whole.
use Rattle.std.proofs.Common.{◌≡◌, ℕ, ◌+◌, ◌*◌, ◌<◌, ◌==◌, ◌||◌, Bool, true, false, not, cond, List, [], ◌∷◌, ◌++◌, map, nat_lt, Option, Some, None, Result, Ok, Err, if◌then◌else◌, refl, ap, sym, ◌∙◌, subst, inl, inr, arith}
use Rattle.std.proofs.Math.Path.{fun_ext}
use Rattle.std.specs.List.{suffix_len}
use Rattle.std.proofs.lemmas.Bool.{cases_Bool, cases_eq, eq-eqb, eqb-true, ne_eqb}
use Rattle.tw_core.specs.declared.refusal.Refusal.{Refusal}
use Rattle.tw_core.specs.declared.refusal.Refusal.TheVariants.{Nothing, Double, AheadFull, CounterFull}
use Rattle.tw_core.specs.Good.{IsGoodPart}
use Rattle.tw_core.specs.Machine.{Core, count_ahead}
use Rattle.tw_core.specs.Steps.{after_antimessage, after_arrival, after_handling, after_message, after_undoing, after_undoing_while, antimessage, first_pending, from, handle, is_newest, message, put, sent_back, still_held, to_send, undo, with_commit, with_pending, with_release, with_room, without_from, without_later, without_pending}
use Rattle.tw_sim.specs.declared.machine.Signed.{Signed}
use Rattle.tw_sim.specs.Simulation.{Simulation, IsFalling, IsLawful, only, state, times}
use Rattle.tw_sim.proofs.Counts.{in_filter, none, times-append, times-filter-no, times-filter-yes}
use Rattle.tw_sim.proofs.Least.{least_is}
use Rattle.tw_sim.proofs.Rising.{IsRising}
use Rattle.tw_warp.proofs.InOrder.{AreNotHeld, count_part, from_others_part, from_part, held_back_part, in_order, insert_part, same_least, still_held_part, take_part, times-in_order, to_send_part}

-- the rest of a machine
pub record Rest (E : Type 0) : Type 0 where
  -- which routers are not of the rest
  pub mine : ℕ → Bool
  pub history : ℕ → List E
  pub done : ℕ → ℕ
  pub past : ℕ → ℕ
  pub room : ℕ → ℕ
  pub pending : List E
  pub kept : List E
  pub held : List E

-- putting a value at one of the part's routers
put_within : {A : Type 0} (mine : ℕ → Bool) (f g : ℕ → A) (r : ℕ) (a : A) → mine r ≡ true
    → (λ q. cond (mine q) (put f r a q) (g q)) ≡ put (λ q. cond (mine q) (f q) (g q)) r a
put_within mine f g r a own =
    fun_ext (λ q. elim (cases_eq q r) [
      | inl is ↦ rw (eq-eqb q r is) (ap (λ b. cond b a (g q)) (ap mine is ∙ own))
      | inr apart ↦ rw (ne_eqb q r apart) refl
    ])

module _ {S E : Type 0} (m : Simulation S E) where
  -- the part and the rest as one machine
  abbrev pub whole : Rest E → Core E → Core E
  whole X C = record {
    history = λ r. cond (X.mine r) (C.history r) (X.history r);
    pending = in_order m (X.pending ++ C.pending);
    kept = in_order m (X.kept ++ C.kept);
    flight = C.flight;
    held = in_order m (X.held ++ C.held);
    done = λ r. cond (X.mine r) (C.done r) (X.done r);
    past = λ r. cond (X.mine r) (C.past r) (X.past r);
    room = λ r. cond (X.mine r) (C.room r) (X.room r);
    bound = C.bound;
    stop = C.stop;
    cancel = C.cancel;
  }

  -- nothing of the rest waits for the part's routers, or was sent by them and is held
  pub record IsApart (X : Rest E) : Type 0 where
    pub pending : (e : E) → X.mine (m.dst e) ≡ true → times m e X.pending ≡ 0
    pub kept : (e : E) → X.mine (m.dst e) ≡ true → times m e X.kept ≡ 0
    pub held : (e : E) → X.mine (m.src e) ≡ true → times m e X.held ≡ 0

  -- the whole that a step at the part leads to
  abbrev pub lift : Rest E → Result (Core E) Refusal → Result (Core E) Refusal
  lift X (Ok D) = Ok (whole X D)
  lift X (Err f) = Err f

  module _ (law : IsLawful m) (X : Rest E) (apart : IsApart X) where
    pub same_history : (C : Core E) (r : ℕ) → X.mine r ≡ true → (whole X C).history r ≡ C.history r
    same_history C r own = rw own refl

    same_done : (C : Core E) (r : ℕ) → X.mine r ≡ true → (whole X C).done r ≡ C.done r
    same_done C r own = rw own refl

    same_ahead : (C : Core E) (r : ℕ) → X.mine r ≡ true → count_ahead (whole X C) r ≡ count_ahead C r
    same_ahead C r own = rw own refl

    -- what is held for one of the part's routers
    pub held_at : (C : Core E) (r : ℕ) → X.mine r ≡ true → IsRising m C.held → from m r (whole X C).held ≡ from m r C.held
    held_at C r own rising = from_part m law r X.held C.held (λ e here. apart.held e (ap X.mine (eqb-true (m.src e) r here) ∙ own)) rising

    same_room : (C : Core E) (r : ℕ) → X.mine r ≡ true → (whole X C).room r ≡ C.room r
    same_room C r own = rw own refl

    -- what one of the part's routers sends is not held for the rest
    sends_apart : (s : S) (e : E) → X.mine (m.dst e) ≡ true → AreNotHeld m (m.sends s e) X.held
    sends_apart s e own = λ x h. apart.held x (ap X.mine (law.sender s e x h) ∙ own)

    own_apart : (r : ℕ) → X.mine r ≡ true → (e : E) → (m.src e == r) ≡ true → times m e X.held ≡ 0
    own_apart r own e here = apart.held e (ap X.mine (eqb-true (m.src e) r here) ∙ own)

    -- ---- what steps leave

    pub handling_whole : (C : Core E) (r : ℕ) (e : E) → X.mine r ≡ true → m.dst e ≡ r → after_handling m (whole X C) r e ≡ whole X (after_handling m C r e)
    handling_whole C r e own home =
        let here = same_history C r own in
        let none = apart.pending e (ap X.mine home ∙ own) in
        let sends = m.sends (state m r (C.history r)) e in
        let sent_apart = sends_apart (state m r (C.history r)) e (ap X.mine home ∙ own) in
        let known : m.sends (state m r ((whole X C).history r)) e ≡ sends = ap (λ h. m.sends (state m r h) e) here in
        λ i. record {
          history = (ap (λ h. put (whole X C).history r (e ∷ h)) here ∙ sym (put_within X.mine C.history X.history r (e ∷ C.history r) own)) i;
          pending = take_part m law e X.pending C.pending none i;
          kept = in_order m (X.kept ++ C.kept);
          flight = C.flight ++ map message ((ap (λ xs. to_send m xs (in_order m (X.held ++ C.held))) known ∙ to_send_part m law sends X.held C.held sent_apart) i);
          held = (ap (λ xs. still_held m xs (in_order m (X.held ++ C.held))) known ∙ still_held_part m law sends X.held C.held sent_apart) i;
          done = (whole X C).done;
          past = (whole X C).past;
          room = (whole X C).room;
          bound = C.bound;
          stop = C.stop;
          cancel = C.cancel;
        }

    pub undoing_whole : (C : Core E) (r : ℕ) (e : E) (older : List E) → X.mine r ≡ true → after_undoing m (whole X C) r e older ≡ whole X (after_undoing m C r e older)
    undoing_whole C r e older own = λ i. record {
      history = sym (put_within X.mine C.history X.history r older own) i;
      pending = insert_part m law e X.pending C.pending i;
      kept = in_order m (X.kept ++ C.kept);
      flight = C.flight ++ sent_back m C.cancel (m.sends (state m r older) e);
      held = held_back_part m law C.cancel (m.sends (state m r older) e) X.held C.held i;
      done = (whole X C).done;
      past = (whole X C).past;
      room = (whole X C).room;
      bound = C.bound;
      stop = C.stop;
      cancel = C.cancel;
    }

    while_whole : (test : E → Bool) (r : ℕ) (xs : List E) (C : Core E) → X.mine r ≡ true
        → after_undoing_while m test r xs (whole X C) ≡ whole X (after_undoing_while m test r xs C)
    while_whole test r [] C own = refl
    while_whole test r (e ∷ older) C own =
        elim (cases_Bool (test e)) [
          | inl goes ↦ rw goes (ap (after_undoing_while m test r older) (undoing_whole C r e older own) ∙ while_whole test r older (after_undoing m C r e older) own)
          | inr stays ↦ rw stays refl
        ]

    rolled_whole : (test : E → Bool) (r : ℕ) (C : Core E) → X.mine r ≡ true
        → after_undoing_while m test r ((whole X C).history r) (whole X C) ≡ whole X (after_undoing_while m test r (C.history r) C)
    rolled_whole test r C own = ap (λ xs. after_undoing_while m test r xs (whole X C)) (same_history C r own) ∙ while_whole test r (C.history r) C own

    with_pending_whole : (C : Core E) (e : E) → with_pending m (whole X C) e ≡ whole X (with_pending m C e)
    with_pending_whole C e = ap (λ p. record (whole X C) { pending = p }) (insert_part m law e X.pending C.pending)

    without_pending_whole : (C : Core E) (e : E) → X.mine (m.dst e) ≡ true → without_pending m (whole X C) e ≡ whole X (without_pending m C e)
    without_pending_whole C e own = ap (λ p. record (whole X C) { pending = p }) (take_part m law e X.pending C.pending (apart.pending e own))

    message_whole : (C : Core E) (e : E) → X.mine (m.dst e) ≡ true → after_message m (whole X C) e ≡ whole X (after_message m C e)
    message_whole C e own =
        let kept = count_part m law e X.kept C.kept (apart.kept e own) in
        elim (cases_Bool (nat_lt 0 (times m e C.kept))) [
          | inl some ↦ rw (kept, some) (ap (λ k. record (whole X C) { kept = k }) (take_part m law e X.kept C.kept (apart.kept e own)))
          | inr unkept ↦ rw (kept, unkept) (
              ap (λ D. with_pending m D e) (rolled_whole (λ x. m.before e x) (m.dst e) C own)
              ∙ with_pending_whole (without_later m C e) e)
        ]

    antimessage_whole : (C : Core E) (e : E) → X.mine (m.dst e) ≡ true → after_antimessage m (whole X C) e ≡ whole X (after_antimessage m C e)
    antimessage_whole C e own =
        let pending = count_part m law e X.pending C.pending (apart.pending e own) in
        let here = same_history C (m.dst e) own in
        elim (cases_Bool (nat_lt 0 (times m e C.pending))) [
          | inl some ↦ rw (pending, some) (without_pending_whole C e own)
          | inr absent ↦ elim (cases_Bool (nat_lt 0 (times m e (C.history (m.dst e))))) [
            | inl handled ↦ rw (pending, absent, here, handled) (
                ap (λ D. without_pending m D e) (while_whole (λ x. not (m.before x e)) (m.dst e) (C.history (m.dst e)) C own)
                ∙ without_pending_whole (without_from m C e) e own)
            | inr unhandled ↦ rw (pending, absent, here, unhandled) (ap (λ k. record (whole X C) { kept = k }) (insert_part m law e X.kept C.kept))
          ]
        ]

    pub arrival_whole : (C : Core E) (x : Signed E) → X.mine (m.dst x.event) ≡ true → after_arrival m (whole X C) x ≡ whole X (after_arrival m C x)
    arrival_whole C x own =
        elim (cases_Bool x.plus) [
          | inl plus ↦ rw plus (message_whole C x.event own)
          | inr minus ↦ rw minus (antimessage_whole C x.event own)
        ]

    pub commit_whole : (C : Core E) (r : ℕ) → X.mine r ≡ true → with_commit m (whole X C) r ≡ whole X (with_commit m C r)
    commit_whole C r own =
        let count = λ (xs : List E). suffix_len (λ e. nat_lt (m.time e) C.bound) xs in
        λ i. record (whole X C) {
          done = sym (put_within X.mine C.done X.done r C.bound own) i;
          past = (ap (λ xs. put (whole X C).past r (count xs)) (same_history C r own) ∙ sym (put_within X.mine C.past X.past r (count (C.history r)) own)) i;
        }

    pub room_whole : (C : Core E) (r : ℕ) → X.mine r ≡ true → with_room m (whole X C) r ≡ whole X (with_room m C r)
    room_whole C r own =
        ap (λ d. record (whole X C) { room = d }) (ap (λ n. put (whole X C).room r (2 * n)) (same_room C r own) ∙ sym (put_within X.mine C.room X.room r (2 * C.room r) own))

    pub release_whole : (C : Core E) (r : ℕ) → X.mine r ≡ true → IsRising m C.held → with_release m (whole X C) r ≡ whole X (with_release m C r)
    release_whole C r own rising =
        λ i. record (whole X C) {
          flight = C.flight ++ map antimessage (from_part m law r X.held C.held (own_apart r own) rising i);
          held = from_others_part m law r X.held C.held (own_apart r own) i;
        }

    -- ---- steps, refusals among them

    pub first_whole : (C : Core E) (r : ℕ) → X.mine r ≡ true → first_pending m (whole X C) r ≡ first_pending m C r
    first_whole C r own =
        same_least m law (only m r (in_order m (X.pending ++ C.pending))) (only m r C.pending) (λ e. elim (cases_Bool (m.dst e == r)) [
          | inl here ↦ times-filter-yes m law (λ x. m.dst x == r) e (in_order m (X.pending ++ C.pending)) here
              ∙ (count_part m law e X.pending C.pending (apart.pending e (ap X.mine (eqb-true (m.dst e) r here) ∙ own))
              ∙ sym (times-filter-yes m law (λ x. m.dst x == r) e C.pending here))
          | inr other ↦ times-filter-no m law (λ x. m.dst x == r) e (in_order m (X.pending ++ C.pending)) other ∙ sym (times-filter-no m law (λ x. m.dst x == r) e C.pending other)
        ])

    -- an event that is first among a router's is for it
    first_home : (C : Core E) (r : ℕ) (e : E) → first_pending m C r ≡ Some e → m.dst e ≡ r
    first_home C r e is = eqb-true (m.dst e) r (in_filter m law (λ x. m.dst x == r) e C.pending (least_is m law e (only m r C.pending) is).there).0

    handle_event : (C : Core E) (r : ℕ) (e : E) → X.mine r ≡ true → m.dst e ≡ r → handle m (whole X C) r (Some e) ≡ lift X (handle m C r (Some e))
    handle_event C r e own home =
        let here = same_history C r own in
        let next = handling_whole C r e own home in
        let done : Result (Core E) Refusal = Ok (after_handling m (whole X C) r e) in
        let ahead = same_ahead C r own in
        let places = same_room C r own in
        (λ i. if nat_lt (m.time e) C.stop then (if is_newest m e (here i) then Err Double else (if nat_lt (ahead i) (places i) then (if m.full (state m r (here i)) e then Err CounterFull else done) else Err AheadFull)) else Err Nothing)
        ∙ elim (cases_Bool (nat_lt (m.time e) C.stop)) [
          | inl soon ↦ elim (cases_Bool (is_newest m e (C.history r))) [
            | inl double ↦ rw (soon, double) refl
            | inr new ↦ elim (cases_Bool (nat_lt (count_ahead C r) (C.room r))) [
              | inl place ↦ elim (cases_Bool (m.full (state m r (C.history r)) e)) [
                | inl full ↦ rw (soon, new, place, full) refl
                | inr fits ↦ rw (soon, new, place, fits) (ap Ok next)
              ]
              | inr none ↦ rw (soon, new, none) refl
            ]
          ]
          | inr late ↦ rw late refl
        ]

    pub handle_whole : (C : Core E) (r : ℕ) → X.mine r ≡ true
        → handle m (whole X C) r (first_pending m (whole X C) r) ≡ lift X (handle m C r (first_pending m C r))
    handle_whole C r own = ap (handle m (whole X C) r) (first_whole C r own) ∙ go (first_pending m C r) refl where
      go : (o : Option E) → first_pending m C r ≡ o → handle m (whole X C) r o ≡ lift X (handle m C r o)
      go None is = refl
      go (Some e) is = handle_event C r e own (first_home C r e is)

    undo_list : (C : Core E) (r : ℕ) (xs : List E) → X.mine r ≡ true → undo m (whole X C) r xs ≡ lift X (undo m C r xs)
    undo_list C r [] own = refl
    undo_list C r (e ∷ older) own =
        let done = same_done C r own in
        elim (cases_Bool (nat_lt (m.time e) (C.done r) || nat_lt (m.time e) C.bound)) [
          | inl early ↦ rw (done, early) refl
          | inr late ↦ rw (done, late) (ap Ok (undoing_whole C r e older own))
        ]

    pub undo_whole : (C : Core E) (r : ℕ) → X.mine r ≡ true → undo m (whole X C) r ((whole X C).history r) ≡ lift X (undo m C r (C.history r))
    undo_whole C r own = ap (undo m (whole X C) r) (same_history C r own) ∙ undo_list C r (C.history r) own

  -- what a part keeps of a good state, where it has the histories of its own routers alone
  pub part_of : (X : Rest E) (t : ℕ) (C : Core E) → IsLawful m → ((r : ℕ) → X.mine r ≡ false → C.history r ≡ []) → IsGoodPart m t (whole X C) → IsGoodPart m t C
  part_of X t C law bare good =
      let history : (r : ℕ) → X.mine r ≡ true → (whole X C).history r ≡ C.history r = λ r own. rw own refl in
      let some : (r : ℕ) (e : E) → 0 < times m e (C.history r) → X.mine r ≡ true =
      λ r e h. elim (cases_Bool (X.mine r)) [
        | inl own ↦ own
        | inr other ↦ let none = ap (times m e) (bare r other) in absurd (omega arith)
      ] in
      let handled : (r : ℕ) (e : E) → 0 < times m e (C.history r) → 0 < times m e ((whole X C).history r) =
      λ r e h. subst (λ xs. 0 < times m e xs) (sym (history r (some r e h))) h in
      let pending : (e : E) → times m e (whole X C).pending ≡ times m e X.pending + times m e C.pending =
      λ e. times-in_order m law e (X.pending ++ C.pending) ∙ times-append m e X.pending C.pending in
      let kept : (e : E) → times m e (whole X C).kept ≡ times m e X.kept + times m e C.kept =
      λ e. times-in_order m law e (X.kept ++ C.kept) ∙ times-append m e X.kept C.kept in
      let held : (e : E) → times m e (whole X C).held ≡ times m e X.held + times m e C.held =
      λ e. times-in_order m law e (X.held ++ C.held) ∙ times-append m e X.held C.held in
      record {
        falling = λ r. elim (cases_Bool (X.mine r)) [
          | inl own ↦ subst (IsFalling m) (history r own) (good.falling r)
          | inr other ↦ subst (IsFalling m) (sym (bare r other)) tt
        ];
        home = λ r e h. good.home r e (handled r e h);
        soon = λ r e h. good.soon r e (handled r e h);
        late = λ e h. good.late e (let a = pending e in let b = kept e in let c = held e in omega arith);
        ahead = λ e x h k. good.ahead e x (let a = pending e in omega arith) (handled (m.dst e) x k);
        alone = λ e h. (
            let a = pending e in
            let b = kept e in
            let both = good.alone e (omega arith) in
            let first = both.0 in
            let second = both.1 in
            (omega arith, none (times m e (C.history (m.dst e))) (λ k. let l = handled (m.dst e) e k in omega arith)));
        suit = λ e h. good.suit e (elim (cases_eq (times m e (C.history (m.dst e))) 0) [
          | inl unhandled ↦ (let a = pending e in let b = kept e in let c = held e in omega arith)
          | inr some ↦ (let l = handled (m.dst e) e (grind arith) in omega arith)
        ]);
      }
