-- What the calls at a process keep of its place.
use Rattle.std.proofs.Common.{◌≡◌, ℕ, ◌+◌, ◌<◌, ◌≤◌, ◌==◌, true, false, List, [], ◌∷◌, ◌++◌, Option, Some, None, Ok, length, min, remove, slice_get, refl, ap, sym, ◌∙◌, subst, ◌⊎◌, inl, inr, arith}
use Rattle.std.proofs.lemmas.Bool.{cases_lt, eq-eqb, eqb-true, le-ltb, lt-ltb}
use Rattle.tw_core.proofs.Counts.{antimessages-append, messages-append}
use Rattle.tw_core.proofs.Done.{handle_done}
use Rattle.tw_core.specs.Machine.{Core, count_ahead, times_loose}
use Rattle.tw_core.specs.Steps.{IsRolledBack, after_arrival, after_handling, first_pending, handle, is_newest, least_time, with_commit}
use Rattle.tw_engine.specs.Arrival.{refusing}
use Rattle.tw_engine.specs.Process.{Logical, committed_at, process_core}
use Rattle.tw_rounds.proofs.Lists.{get_seam, remove_seam}
use Rattle.tw_rounds.specs.Members.{IsSound, Keeps, KeepsTo, Mailed, handed, place_of}
use Rattle.tw_rounds.specs.Times.{earliest}
use Rattle.tw_rule.proofs.Calls.{hand_is_loose, hand_is_own, keeps_commit, keeps_handle, keeps_receive, keeps_roll_back}
use Rattle.tw_rule.specs.Board.{times_among}
use Rattle.tw_rule.specs.Place.{NoneLooseBefore, PreservesPlace, place_core, whole, with_core}
use Rattle.tw_sim.proofs.Counts.{in_cons}
use Rattle.tw_sim.specs.declared.machine.Signed.{Signed}
use Rattle.tw_sim.specs.Simulation.{Simulation, IsLawful, state, times}

-- a process with some mail, what it has to send on, and the time that it tells
abbrev pub mailed : {M E : Type 0} → Logical M E → List (Signed E) → List (Signed E) → ℕ → Mailed M E
mailed p mail outbox least = record { process = p; mail = mail; outbox = outbox; least = least }

-- the place of a process that has become another
moved_place : {M E : Type 0} (stop : ℕ) (x : Mailed M E) (q : Logical M E) (mail : List (Signed E)) → q.number ≡ x.process.number
    → with_core (process_core stop q) (record (place_of x) { mail = mail }) ≡ place_of (mailed q mail x.outbox x.least)
moved_place stop x q mail same = ap (λ n. record (place_of (mailed q mail x.outbox x.least)) { worker = n; owns = λ r. r == n }) (sym same)

module _ {S E : Type 0} (m : Simulation S E) where
  -- what is handled before a stop is handled so before a later one
  handle_later : (C D : Core E) (r : ℕ) (o : Option E) (stop : ℕ) → handle m C r o ≡ Ok D → C.stop ≤ stop → handle m (record C { stop = stop }) r o ≡ Ok (record D { stop = stop })
  handle_later C D r None stop h le = cc
  handle_later C D r (Some e) stop h le =
      let done = handle_done m C D r (Some e) h in
      let is : e ≡ done.event = cc in
      let soon : m.time e < stop = (let time = ap m.time is in let early = done.soon in omega arith) in
      let new : is_newest m e (C.history r) ≡ false = subst (λ x. is_newest m x (C.history r) ≡ false) (sym is) done.new in
      let room = done.room in
      let counters : m.full (state m r (C.history r)) e ≡ false = subst (λ x. m.full (state m r (C.history r)) x ≡ false) (sym is) done.counters in
      let made : after_handling m C r e ≡ D = ap (after_handling m C r) is ∙ done.made in
      let at : handle m (record C { stop = stop }) r (Some e) ≡ Ok (after_handling m (record C { stop = stop }) r e)
      = rw (lt-ltb (m.time e) stop soon, new, lt-ltb (count_ahead C r) (C.room r) room, counters) refl in
      at ∙ ap (λ (B : Core E). Ok (record B { stop = stop })) made

module _ {S M E : Type 0} (m : Simulation S E) where
  -- ---- one call and then another

  pub keeps_same : (stop : ℕ) (x : Mailed M E) → IsSound m stop x → Keeps m stop x x
  keeps_same stop x sound = record {
    model = refl;
    number = refl;
    outbox = refl;
    place = record { worker = refl; owns = refl; place = sound.place; late = λ t from. from; surplus = λ e. refl; done = λ r. omega arith; bound = refl };
  }

  pub keeps_both : (stop : ℕ) (x y z : Mailed M E) → Keeps m stop x y → Keeps m stop y z → Keeps m stop x z
  keeps_both stop x y z first second = record {
    model = second.model ∙ first.model;
    number = second.number ∙ first.number;
    outbox = second.outbox ∙ first.outbox;
    place = record {
      worker = second.place.worker ∙ first.place.worker;
      owns = second.place.owns ∙ first.place.owns;
      place = second.place.place;
      late = λ t from. second.place.late t (first.place.late t from);
      surplus = λ e. (let a = first.place.surplus e in let b = second.place.surplus e in omega arith);
      done = λ r. (let a = first.place.done r in let b = second.place.done r in omega arith);
      bound = second.place.bound ∙ first.place.bound;
    };
  }

  pub sound_after : (stop : ℕ) (x y : Mailed M E) → IsSound m stop x → Keeps m stop x y → IsSound m stop y
  sound_after stop x y sound keeps = record { law = sound.law; place = keeps.place.place }

  pub to_same : (limit : ℕ) (x : Mailed M E) → KeepsTo m limit x x
  to_same limit x stop le sound = keeps_same stop x sound

  pub to_is : (limit : ℕ) (x y : Mailed M E) → y ≡ x → KeepsTo m limit x y
  to_is limit x y is = subst (λ z. KeepsTo m limit x z) (sym is) (to_same limit x)

  pub to_later : (a b : ℕ) (x y : Mailed M E) → a ≤ b → KeepsTo m a x y → KeepsTo m b x y
  to_later a b x y le keeps stop more sound = keeps stop (omega arith) sound

  pub to_both : (limit : ℕ) (x y z : Mailed M E) → KeepsTo m limit x y → KeepsTo m limit y z → KeepsTo m limit x z
  to_both limit x y z first second stop le sound =
      let one = first stop le sound in
      keeps_both stop x y z one (second stop le (sound_after stop x y sound one))

  -- ---- calls

  -- a process that has become another, in a way that its place keeps
  became : (stop : ℕ) (x : Mailed M E) (q : Logical M E) (mail : List (Signed E)) → q.model ≡ x.process.model → q.number ≡ x.process.number
      → PreservesPlace m stop (place_of x) (with_core (process_core stop q) (record (place_of x) { mail = mail })) → Keeps m stop x (mailed q mail x.outbox x.least)
  became stop x q mail model number keeps = record { model = model; number = number; outbox = refl; place = subst (PreservesPlace m stop (place_of x)) (moved_place stop x q mail number) keeps }

  -- it has handled an event before the limit
  pub handled : (limit : ℕ) (x : Mailed M E) (q : Logical M E) → q.model ≡ x.process.model → q.number ≡ x.process.number
      → handle m (process_core limit x.process) x.process.number (first_pending m (process_core limit x.process) x.process.number) ≡ Ok (process_core limit q)
      → KeepsTo m limit x (mailed q x.mail x.outbox x.least)
  handled limit x q model number done stop le sound =
      became stop x q x.mail model number
      (keeps_handle m sound.law stop x.process.number (place_of x) (process_core stop q) sound.place
      (handle_later m (process_core limit x.process) (process_core limit q) x.process.number (first_pending m (process_core limit x.process) x.process.number) stop done le))

  -- it has committed
  pub committed : (x : Mailed M E) (q : Logical M E) → q ≡ committed_at m x.process → ((stop : ℕ) → process_core stop q ≡ with_commit m (process_core stop x.process) x.process.number)
      → KeepsTo m 0 x (mailed q x.mail x.outbox x.least)
  committed x q is core stop le sound =
      became stop x q x.mail (ap (λ p. p.model) is) (ap (λ p. p.number) is)
      (subst (λ C. PreservesPlace m stop (place_of x) (with_core C (place_of x))) (sym (core stop)) (keeps_commit m sound.law stop x.process.number (place_of x) sound.place))

  module _ (x : Mailed M E) (rest : List (Signed E)) (s : Signed E) (is : x.mail ≡ rest ++ s ∷ []) where
    there : slice_get x.mail (length rest) ≡ Some s
    there = ap (λ xs. slice_get xs (length rest)) is ∙ get_seam rest s []

    -- the message to be received next is welcome
    pub welcome : (stop : ℕ) → IsSound m stop x → (m.dst s.event ≡ x.process.number) × (x.process.bound ≤ m.time s.event) × (m.suits s.event ≡ true)
    welcome stop sound =
        let p = place_of x in
        let loose = hand_is_loose m sound.law p (length rest) s there in
        let own : (m.dst s.event == x.process.number) ≡ true = hand_is_own m sound.law stop p (length rest) s sound.place there in
        (eqb-true (m.dst s.event) x.process.number own, sound.place.late s.event loose, sound.place.good.suit s.event (omega arith))

    -- it has been received
    pub received : (q : Logical M E) (left : List (Signed E)) → left ≡ rest → q.model ≡ x.process.model → q.number ≡ x.process.number
        → ((stop : ℕ) → process_core stop q ≡ after_arrival m (process_core stop x.process) s) → KeepsTo m 0 x (mailed q left x.outbox x.least)
    received q left same model number core stop le sound =
        let p = place_of x in
        let kept = keeps_receive m sound.law stop (length rest) p s sound.place there in
        let mail : remove x.mail (length rest) ≡ left = ap (λ xs. remove xs (length rest)) is ∙ (remove_seam rest s ∙ sym same) in
        became stop x q left model number
        (subst (λ C. PreservesPlace m stop p (with_core C (record p { mail = left }))) (sym (core stop))
        (subst (λ xs. PreservesPlace m stop p (with_core (after_arrival m (place_core stop p) s) (record p { mail = xs }))) mail kept))

    -- or there was no memory for it
    pub met : (q : Logical M E) → q.model ≡ x.process.model → q.number ≡ x.process.number → ((stop : ℕ) → IsRolledBack m s.event (process_core stop x.process) (process_core stop q))
        → KeepsTo m 0 x (mailed q x.mail x.outbox x.least)
    met q model number back stop le sound =
        became stop x q x.mail model number (keeps_roll_back m sound.law stop (length rest) (place_of x) s (process_core stop q) sound.place there (back stop))

module _ {S M E : Type 0} (m : Simulation S E) (x : Mailed M E) (s : Signed E) where
  -- a message that it would be handed is welcome
  pub handed_welcome : (stop : ℕ) → IsSound m stop (handed s x) → (m.dst s.event ≡ x.process.number) × (x.process.bound ≤ m.time s.event) × (m.suits s.event ≡ true)
  handed_welcome stop sound = welcome m (handed s x) x.mail s refl stop sound

  -- it has been received
  pub handed_received : (q : Logical M E) → q.model ≡ x.process.model → q.number ≡ x.process.number → ((stop : ℕ) → process_core stop q ≡ after_arrival m (process_core stop x.process) s)
      → KeepsTo m 0 (handed s x) (mailed q x.mail x.outbox x.least)
  handed_received q model number core = received m (handed s x) x.mail s refl q x.mail refl model number core

  -- or there was no memory for it
  pub handed_met : (q : Logical M E) → q.model ≡ x.process.model → q.number ≡ x.process.number → ((stop : ℕ) → IsRolledBack m s.event (process_core stop x.process) (process_core stop q))
      → KeepsTo m 0 (handed s x) (handed s (mailed q x.mail x.outbox x.least))
  handed_met q model number back = met m (handed s x) x.mail s refl q model number back

-- a message that is for a process, suits it and is not before its bound is not refused
pub never_refused : {S M E : Type 0} (m : Simulation S E) (p : Logical M E) (e : E) → m.dst e ≡ p.number → p.bound ≤ m.time e → m.suits e ≡ true → refusing m p e ≡ Ok tt
never_refused m p e own late suits = rw (eq-eqb (m.dst e) p.number own, le-ltb (m.time e) p.bound late, suits) refl

-- one call and then another, where the model is known to stay
pub then_keeps : {S M E : Type 0} (sim : M → Simulation S E) (limit : ℕ) (x y z : Mailed M E) → y.process.model ≡ x.process.model → KeepsTo (sim x.process.model) limit x y
    → KeepsTo (sim y.process.model) limit y z → KeepsTo (sim x.process.model) limit x z
then_keeps sim limit x y z same first second = to_both (sim x.process.model) limit x y z first (subst (λ model. KeepsTo (sim model) limit y z) same second)

-- ---- times

pub earliest-le : {E : Type 0} (time : E → ℕ) (xs : List (Signed E)) (t : ℕ) → earliest time xs t ≤ t
earliest-le time [] t = omega arith
earliest-le time (x ∷ xs) t = let more = earliest-le time xs (min t (time x.event)) in omega arith

pub earliest-append : {E : Type 0} (time : E → ℕ) (xs ys : List (Signed E)) (t : ℕ) → earliest time (xs ++ ys) t ≡ earliest time ys (earliest time xs t)
earliest-append time [] ys t = refl
earliest-append time (x ∷ xs) ys t = earliest-append time xs ys (min t (time x.event))

module _ {S E : Type 0} (m : Simulation S E) where
  least-le : (xs : List E) (t : ℕ) → least_time m xs t ≤ t
  least-le [] t = omega arith
  least-le (x ∷ xs) t = let more = least-le xs t in omega arith

  pub least-all-le : (pending kept : List E) (mail flight outbox : List (Signed E)) (t : ℕ)
      → least_time m pending (least_time m kept (earliest m.time mail (earliest m.time flight (earliest m.time outbox t)))) ≤ t
  least-all-le pending kept mail flight outbox t =
      let o = earliest m.time outbox t in
      let a = earliest-le m.time outbox t in
      let b = earliest-le m.time flight o in
      let c = earliest-le m.time mail (earliest m.time flight o) in
      let d = least-le kept (earliest m.time mail (earliest m.time flight o)) in
      let e = least-le pending (least_time m kept (earliest m.time mail (earliest m.time flight o))) in
      omega arith

module _ {S E : Type 0} (m : Simulation S E) (law : IsLawful m) where
  among_cons : (e : E) (x : Signed E) (xs : List (Signed E)) → 0 < times_among m e (x ∷ xs) → (e ≡ x.event) ⊎ (0 < times_among m e xs)
  among_cons e x xs h = grind arith

  pub earliest-there : (xs : List (Signed E)) (t : ℕ) (e : E) → 0 < times_among m e xs → earliest m.time xs t ≤ m.time e
  earliest-there [] t e h = absurd (omega arith)
  earliest-there (x ∷ xs) t e h =
      elim (among_cons e x xs h) [
        | inl is ↦ (let same = ap m.time is in let more = earliest-le m.time xs (min t (m.time x.event)) in omega arith)
        | inr l ↦ earliest-there xs (min t (m.time x.event)) e l
      ]

  least-there : (xs : List E) (t : ℕ) (e : E) → 0 < times m e xs → least_time m xs t ≤ m.time e
  least-there [] t e h = absurd (omega arith)
  least-there (x ∷ xs) t e h =
      elim (in_cons m law e x xs h) [
        | inl is ↦ (let same : m.time e ≡ m.time x = ap m.time is in omega arith)
        | inr k ↦ (let more = least-there xs t e k in omega arith)
      ]

  -- nothing loose at a process is before the least of these times
  pub none_before : {M : Type 0} (x : Mailed M E) (t : ℕ)
      → NoneLooseBefore m (least_time m x.process.pending (least_time m x.process.kept (earliest m.time x.mail (earliest m.time x.process.flight (earliest m.time x.outbox t))))) (place_of x)
  none_before x t e h =
      let p = x.process in
      let o = earliest m.time x.outbox t in
      let f = earliest m.time p.flight o in
      let g = earliest m.time x.mail f in
      let k = least_time m p.kept g in
      let a = earliest-le m.time p.flight o in
      let b = earliest-le m.time x.mail f in
      let c = least-le m p.kept g in
      let d = least-le m p.pending k in
      elim (cases_lt 0 (times m e p.pending)) [
        | inl l ↦ least-there p.pending k e l
        | inr le1 ↦ elim (cases_lt 0 (times m e p.kept)) [
          | inl l ↦ (let there = least-there p.kept g e l in omega arith)
          | inr le2 ↦ elim (cases_lt 0 (times_among m e x.mail)) [
            | inl l ↦ (let there = earliest-there x.mail f e l in omega arith)
            | inr le3 ↦ elim (cases_lt 0 (times_among m e p.flight)) [
              | inl l ↦ (let there = earliest-there p.flight o e l in omega arith)
              | inr le4 ↦ (
                  let all : times_loose m (whole 0 (place_of x)) e
                  ≡ times m e p.pending + times m e p.kept + times_among m e x.mail + times_among m e p.flight + times_among m e x.outbox
                  = grind (arith, messages-append, antimessages-append) in
                  let there = earliest-there x.outbox t e (omega arith) in
                  omega arith)
            ]
          ]
        ]
      ]
