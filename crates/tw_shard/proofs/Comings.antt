-- What a message that comes leaves, once its router is rolled back.
use Rattle.std.proofs.Common.{◌≡◌, ℕ, ◌<◌, ◌≤◌, Bool, true, false, List, [], ◌∷◌, ◌++◌, Result, Ok, Err, nat_lt, if◌then◌else◌, refl, ap, sym, ◌∙◌, subst, inl, inr, arith}
use Rattle.std.specs.List.{AllByRecursion}
use Rattle.std.specs.Result.{result_and}
use Rattle.std.proofs.lemmas.Bool.{cases_Bool, lt-ltb, ltb-false, ltb-true, false_from_ne_true}
use Rattle.tw_core.specs.Machine.{Core}
use Rattle.tw_core.specs.Steps.{after_antimessage, after_arrival, after_message, after_undoing_while, with_pending, without_from, without_later, without_pending}
use Rattle.tw_event.specs.declared.event.Event.{Event}
use Rattle.tw_event.specs.Order.{event_before, event_same}
use Rattle.tw_model.specs.Case.{Case, IsCase, simulation}
use Rattle.tw_model.specs.Effect.{suits}
use Rattle.tw_model.proofs.Lawful.{lawful}
use Rattle.tw_shard.specs.Arrival.{receiving, refusing, rolls}
use Rattle.tw_shard.specs.declared.rejection.Reach.TheVariants as reach
use Rattle.tw_shard.specs.declared.rejection.Rejection.{Rejection}
use Rattle.tw_shard.specs.declared.rejection.Rejection.TheVariants.{NotMine, Late, Foreign}
use Rattle.tw_shard.specs.Shard.{IsSoundShard, Shard, owns, shard_core, timeline}
use Rattle.tw_shard.specs.Timeline.{history}
use Rattle.tw_shard.proofs.Arrivals.{times_two}
use Rattle.tw_shard.proofs.RollBack.{done_here}
use Rattle.tw_sim.specs.declared.machine.Signed.{Signed}
use Rattle.tw_sim.specs.Ordered.{insert, take_out, times}

-- a test that finds nothing, and one that finds something
none_found : (n : ℕ) → (0 < n → ⊥) → nat_lt 0 n ≡ false
none_found n none = false_from_ne_true (nat_lt 0 n) (λ found. none (ltb-true 0 n found))

-- a message where no antimessage is kept, for a router that has handled nothing as late
pub message_last : (o u : Shard) (e : Event) → IsCase o.terms.case → owns o e.dst ≡ true → o.kept ≡ [] → AllByRecursion (λ (p : Event). p.time < e.time) (history (timeline o e.dst))
    → u ≡ record o { pending = insert event_before e o.pending } → (stop : ℕ) → shard_core stop u ≡ after_message (simulation o.terms.case) (shard_core stop o) e
message_last o u e is mine unkept early put stop =
    let m = simulation o.terms.case in
    let C = shard_core stop o in
    let here : C.history e.dst ≡ history (timeline o e.dst) = rw mine refl in
    let stays : without_later m C e ≡ C =
    ap (λ h. after_undoing_while m (rolls reach.Later e) e.dst h C) here ∙ done_here o.terms.case is reach.Later e [] (history (timeline o e.dst)) C refl early in
    let none : times event_same e o.kept ≡ 0 = ap (times event_same e) unkept in
    ap (shard_core stop) put
    ∙ (ap (λ D. with_pending m D e) (sym stays)
    ∙ ap (λ b. if b then record C { kept = take_out event_same e o.kept } else with_pending m (without_later m C e) e) (sym (none_found (times event_same e o.kept) (λ some. omega arith))))

-- a message whose antimessage is not kept
pub message_came : (o s t u : Shard) (e : Event) → s ≡ o → (0 < times event_same e o.kept → ⊥)
    → ((stop : ℕ) → shard_core stop t ≡ after_undoing_while (simulation s.terms.case) (rolls reach.Later e) e.dst ((shard_core stop s).history e.dst) (shard_core stop s))
    → u ≡ record t { pending = insert event_before e t.pending } → (stop : ℕ) → shard_core stop u ≡ after_message (simulation o.terms.case) (shard_core stop o) e
message_came o s t u e is unkept back put stop =
    let m = simulation o.terms.case in
    let rolled = subst (λ s. shard_core stop t ≡ after_undoing_while (simulation s.terms.case) (rolls reach.Later e) e.dst ((shard_core stop s).history e.dst) (shard_core stop s)) is (back stop) in
    ap (shard_core stop) put
    ∙ (ap (λ C. with_pending m C e) rolled
    ∙ ap (λ b. if b then record (shard_core stop o) { kept = take_out event_same e o.kept } else with_pending m (without_later m (shard_core stop o) e) e) (sym (none_found (times event_same e o.kept) unkept)))

-- what an antimessage does whose event is not pending
apart : (o : Shard) (e : Event) (stop : ℕ) → (0 < times event_same e o.pending → ⊥)
    → after_antimessage (simulation o.terms.case) (shard_core stop o) e
    ≡ (if nat_lt 0 (times event_same e ((shard_core stop o).history e.dst))
    then without_pending (simulation o.terms.case) (without_from (simulation o.terms.case) (shard_core stop o) e) e
    else record (shard_core stop o) { kept = insert event_before e o.kept })
apart o e stop none =
    let m = simulation o.terms.case in
    let C = shard_core stop o in
    ap (λ b. if b then without_pending m C e else (if nat_lt 0 (times event_same e (C.history e.dst))
    then without_pending m (without_from m C e) e
    else record C { kept = insert event_before e C.kept })) (none_found (times event_same e o.pending) none)

-- an antimessage whose event is handled
pub antimessage_came : (o s t u : Shard) (e : Event) → s ≡ o → owns o e.dst ≡ true → (0 < times event_same e o.pending → ⊥) → 0 < times event_same e (timeline o e.dst).ahead
    → ((stop : ℕ) → shard_core stop t ≡ after_undoing_while (simulation s.terms.case) (rolls reach.From e) e.dst ((shard_core stop s).history e.dst) (shard_core stop s))
    → u ≡ record t { pending = take_out event_same e t.pending } → (stop : ℕ) → shard_core stop u ≡ after_antimessage (simulation o.terms.case) (shard_core stop o) e
antimessage_came o s t u e is mine none some back taken stop =
    let m = simulation o.terms.case in
    let C = shard_core stop o in
    let rolled = subst (λ s. shard_core stop t ≡ after_undoing_while (simulation s.terms.case) (rolls reach.From e) e.dst ((shard_core stop s).history e.dst) (shard_core stop s)) is (back stop) in
    let line = timeline o e.dst in
    let here : C.history e.dst ≡ line.ahead ++ line.past = rw mine refl in
    let count = times_two e line.ahead line.past in
    let found : nat_lt 0 (times event_same e (C.history e.dst)) ≡ true = ap (λ xs. nat_lt 0 (times event_same e xs)) here ∙ lt-ltb 0 (times event_same e (line.ahead ++ line.past)) (omega arith) in
    ap (shard_core stop) taken
    ∙ (ap (λ C. without_pending m C e) rolled
    ∙ (ap (λ b. if b then without_pending m (without_from m C e) e else record C { kept = insert event_before e o.kept }) (sym found)
    ∙ sym (apart o e stop none)))

-- events of another time are others
none_past : (case : Case) → IsCase case → (e : Event) (t : ℕ) (past : List Event) → t ≤ e.time → AllByRecursion (λ (p : Event). p.time < t) past → times event_same e past ≡ 0
none_past case is e t [] late all = refl
none_past case is e t (p ∷ past) late all =
    elim (cases_Bool (event_same e p)) [
      | inl same ↦ let equal = ap (λ x. x.time) ((lawful case is).same_is e p same) in let early = all.0 in absurd (omega arith)
      | inr other ↦ rw other (let rest = none_past case is e t past late all.1 in omega arith)
    ]

-- an antimessage that came before its message
pub antimessage_early : (o s u : Shard) (e : Event) → s ≡ o → IsSoundShard s → owns o e.dst ≡ true → o.bound ≤ e.time → (0 < times event_same e o.pending → ⊥)
    → (0 < times event_same e (timeline s e.dst).ahead → ⊥) → AllByRecursion (λ (p : Event). p.time < (timeline s e.dst).done) (timeline s e.dst).past
    → u ≡ record s { kept = insert event_before e s.kept } → (stop : ℕ) → shard_core stop u ≡ after_antimessage (simulation o.terms.case) (shard_core stop o) e
antimessage_early o s u e is whole own late none unhandled past put stop =
    let m = simulation o.terms.case in
    let C = shard_core stop o in
    let line = timeline s e.dst in
    let mine : owns s e.dst ≡ true = ap (λ s. owns s e.dst) is ∙ own in
    let here : C.history e.dst ≡ line.ahead ++ line.past = ap (λ s. (shard_core stop s).history e.dst) (sym is) ∙ rw mine refl in
    let count = times_two e line.ahead line.past in
    let done = (whole.routers e.dst mine).done in
    let bound = ap (λ s. s.bound) is in
    let old = none_past s.terms.case whole.case e line.done line.past (omega arith) past in
    let absent : nat_lt 0 (times event_same e (C.history e.dst)) ≡ false =
    ap (λ xs. nat_lt 0 (times event_same e xs)) here ∙ none_found (times event_same e (line.ahead ++ line.past)) (λ some. unhandled (omega arith)) in
    ap (shard_core stop) (subst (λ s. u ≡ record s { kept = insert event_before e s.kept }) is put)
    ∙ (ap (λ b. if b then without_pending m (without_from m C e) e else record C { kept = insert event_before e o.kept }) (sym absent)
    ∙ sym (apart o e stop none))

-- ---- what may come

-- what the three tests lead to
abbrev tested : Bool → Bool → Bool → ℕ → Result (Unit {0}) Rejection
tested own late suit bound = if own then (if late then Err (Late bound) else (if suit then Ok tt else Err Foreign)) else Err NotMine

all_tests : (own late suit : Bool) (bound : ℕ) → tested own late suit bound ≡ Ok tt → (own ≡ true) × (late ≡ false) × (suit ≡ true)
all_tests true false true bound h = (refl, refl, refl)
all_tests true false false bound h = absurd (cc h)
all_tests true true suit bound h = absurd (cc h)
all_tests false late suit bound h = absurd (cc h)

-- what may come is for one of its routers, not before the bound, and suits its receiver
pub welcome : (s : Shard) (e : Event) → refusing s e ≡ Ok tt → (owns s e.dst ≡ true) × (s.bound ≤ e.time) × (suits s.terms.case.net e.dst e ≡ true)
welcome s e may =
    let all = all_tests (owns s e.dst) (nat_lt e.time s.bound) (suits s.terms.case.net e.dst e) s.bound may in
    (all.0, ltb-false e.time s.bound all.1, all.2)

-- and comes
pub received : (stop : ℕ) (s : Shard) (x : Signed Event) (C : Core Event) → refusing s x.event ≡ Ok tt → C ≡ after_arrival (simulation s.terms.case) (shard_core stop s) x
    → receiving stop s x ≡ Ok C
received stop s x C may came =
    ap (λ o. result_and o (Ok (after_arrival (simulation s.terms.case) (shard_core stop s) x))) may ∙ ap (λ D. Ok D) (sym came)
