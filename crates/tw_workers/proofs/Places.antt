-- What calls at a shard and at a hand keep of a worker's share.
use Rattle.std.proofs.Common.{◌≡◌, ℕ, zero, suc, ◌+◌, ◌<◌, ◌≤◌, nat_lt, true, false, List, [], ◌∷◌, drop, length, get_or, Result, Ok, Err, Some, remove, slice_get, refl, ap, sym, ◌∙◌, subst, inl, inr, arith, if◌then◌else◌}
use Rattle.std.proofs.lemmas.Bool.{cases_Bool, ltb-true}
use Rattle.std.proofs.lemmas.List.{at_drop_more}
use Rattle.tw_core.specs.declared.refusal.Refusal.TheVariants.{AheadFull, NotMine, Nothing}
use Rattle.tw_core.specs.declared.refusal.Refusal.{Refusal}
use Rattle.tw_core.specs.Machine.{Core}
use Rattle.tw_core.specs.Steps.{IsRolledBack, after_arrival, first_pending, handle, with_release, with_room}
use Rattle.tw_event.specs.declared.event.Event.{Event}
use Rattle.tw_event.specs.Order.{event_before}
use Rattle.tw_model.proofs.Lawful.{lawful}
use Rattle.tw_model.specs.Case.{Case, IsCase, simulation}
use Rattle.tw_model.specs.Effect.{suits}
use Rattle.tw_rule.proofs.Before.{kept_before}
use Rattle.tw_rule.proofs.Calls.{hand_is_loose, hand_is_own, keeps_handle, keeps_receive, keeps_release, keeps_roll_back, keeps_widen}
use Rattle.tw_rule.specs.Place.{IsPlace, IsRunBefore, PreservesPlace, with_core}
use Rattle.std.specs.Option.{option_map_or}
use Rattle.std.specs.Result.{result_and}
use Rattle.tw_shard.proofs.Leasts.{one_told}
use Rattle.tw_shard.specs.Arrival.{receiving, refusing}
use Rattle.tw_shard.specs.declared.rejection.Rejection.{Rejection}
use Rattle.tw_shard.specs.Roster.{has}
use Rattle.tw_shard.specs.Shard.{IsSameShare, Shard, handling, handling_least, owns, releasing, shard_core, widening}
use Rattle.tw_sim.specs.declared.machine.Signed.{Signed}
use Rattle.tw_sim.specs.Ordered.{least}
use Rattle.tw_table.specs.Shares.{Share, place_of}
use Rattle.tw_workers.specs.Work.{IsAtWork, PreservesShare}

-- a shard that is the same worker's still is so after one more call
pub same_again : (a b c : Shard) → IsSameShare a b → IsSameShare b c → IsSameShare a c
same_again a b c first last = record { terms = last.terms ∙ first.terms; routers = last.routers ∙ first.routers }

-- ---- the share after a call

-- it is the place whose routers have become another machine
pub place_after : (stop : ℕ) (s t : Share) → IsSameShare s.shard t.shard → t.mail ≡ s.mail → t.unsent ≡ s.unsent → place_of t ≡ with_core (shard_core stop t.shard) (place_of s)
place_after stop s t same mail unsent = λ i. record {
  worker = (same.terms i).worker;
  owns = λ r. has (same.routers i) r;
  history = (shard_core 0 t.shard).history;
  pending = t.shard.pending;
  kept = t.shard.kept;
  outgoing = t.shard.outgoing;
  held = t.shard.held;
  done = (shard_core 0 t.shard).done;
  past = (shard_core 0 t.shard).past;
  room = (shard_core 0 t.shard).room;
  bound = t.shard.bound;
  cancel = t.shard.terms.cancel;
  mail = mail i;
  unsent = unsent i;
}

-- what is kept by nothing, and by one call after another
keeps_same : (stop : ℕ) (s : Share) → IsAtWork stop s → PreservesPlace (simulation s.shard.terms.case) stop (place_of s) (place_of s)
keeps_same stop s work = record {
  worker = refl;
  owns = refl;
  place = work.place;
  late = λ t from. from;
  surplus = λ e. refl;
  done = λ r. omega arith;
  bound = refl;
}

pub kept_same : (stop : ℕ) (s : Share) → IsAtWork stop s → PreservesShare stop s s
kept_same stop s work = record { shard = record { terms = refl; routers = refl }; place = keeps_same stop s work }

pub kept_both : (stop : ℕ) (s t u : Share) → PreservesShare stop s t → PreservesShare stop t u → PreservesShare stop s u
kept_both stop s t u one two =
    let m = simulation s.shard.terms.case in
    let first = one.place in
    let second : PreservesPlace m stop (place_of t) (place_of u) = subst (λ (c : Case). PreservesPlace (simulation c) stop (place_of t) (place_of u)) (ap (λ x. x.case) one.shard.terms) two.place in
    record {
      shard = same_again s.shard t.shard u.shard one.shard two.shard;
      place = record {
        worker = second.worker ∙ first.worker;
        owns = second.owns ∙ first.owns;
        place = second.place;
        late = λ time from. second.late time (first.late time from);
        surplus = λ e. (let a = first.surplus e in let b = second.surplus e in omega arith);
        done = λ r. (let a = first.done r in let b = second.done r in omega arith);
        bound = second.bound ∙ first.bound;
      };
    }

-- what its routers have handled before the bound stays the run
run_kept : (stop : ℕ) (s t : Share) → IsAtWork stop s → PreservesShare stop s t → IsRunBefore (simulation s.shard.terms.case) t.shard.bound (place_of t)
run_kept stop s t work kept =
    let m = simulation s.shard.terms.case in
    subst (λ b. IsRunBefore m b (place_of t)) (sym kept.place.bound)
    (λ r l mine.
    kept_before m (lawful s.shard.terms.case work.case) stop s.shard.bound (place_of s) (place_of t) work.place work.place.late kept.place r
    ∙ work.run r l (sym (ap (λ owns. owns r) kept.place.owns) ∙ mine))

-- a worker stays at work
pub work_kept : (stop : ℕ) (s t : Share) → IsAtWork stop s → PreservesShare stop s t → IsAtWork stop t
work_kept stop s t work kept =
    let same : t.shard.terms.case ≡ s.shard.terms.case = ap (λ x. x.case) kept.shard.terms in
    record {
      case = subst IsCase (sym same) work.case;
      place = subst (λ (c : Case). IsPlace (simulation c) stop (place_of t)) (sym same) kept.place.place;
      run = subst (λ (c : Case). IsRunBefore (simulation c) t.shard.bound (place_of t)) (sym same) (run_kept stop s t work kept);
    }

-- ---- messages of the hand

-- the first that is left
pub drop_one : {X : Type 0} (xs : List X) (k : ℕ) (d : X) → k < length xs → drop k xs ≡ get_or xs k d ∷ drop (k + 1) xs
drop_one xs k d h = at_drop_more (λ l. l) xs k d h

pub drop_none : {X : Type 0} (xs : List X) → drop 0 xs ≡ xs
drop_none [] = refl
drop_none (x ∷ xs) = refl

pub drop_all : {X : Type 0} (xs : List X) (k : ℕ) → length xs ≤ k → drop k xs ≡ []
drop_all [] zero h = refl
drop_all [] (suc k) h = refl
drop_all (x ∷ xs) zero h = absurd (omega arith)
drop_all (x ∷ xs) (suc k) h = drop_all xs k (omega arith)

pub before_no : (a b : ℕ) → b ≤ a → nat_lt a b ≡ false
before_no a b h =
    elim (cases_Bool (nat_lt a b)) [
      | inl before ↦ absurd (let less = ltb-true a b before in omega arith)
      | inr not_before ↦ not_before
    ]

-- a message in the hand is never refused
pub welcome : (stop : ℕ) (s : Share) (x : Signed Event) (rest : List (Signed Event)) → IsAtWork stop s → s.mail ≡ x ∷ rest → refusing s.shard x.event ≡ Ok tt
welcome stop s x rest work first =
    let m = simulation s.shard.terms.case in
    let law = lawful s.shard.terms.case work.case in
    let there : slice_get s.mail 0 ≡ Some x = ap (λ l. slice_get l 0) first in
    let own : owns s.shard x.event.dst ≡ true = hand_is_own m law stop (place_of s) 0 x work.place there in
    let loose = hand_is_loose m law (place_of s) 0 x there in
    let late : s.shard.bound ≤ x.event.time = work.place.late x.event loose in
    let suit : suits s.shard.terms.case.net x.event.dst x.event ≡ true = work.place.good.suit x.event (omega arith) in
    let not_late : nat_lt x.event.time s.shard.bound ≡ false = before_no x.event.time s.shard.bound late in
    rw own (rw not_late (rw suit refl))

-- and so it is received
may_come : (s : Shard) (x : Signed Event) (stop : ℕ) → refusing s x.event ≡ Ok tt → receiving stop s x ≡ Ok (after_arrival (simulation s.terms.case) (shard_core stop s) x)
may_come s x stop may = ap (λ o. result_and o (Ok (after_arrival (simulation s.terms.case) (shard_core stop s) x))) may

pub arrived : (s t : Shard) (x : Signed Event) (stop : ℕ) → refusing s x.event ≡ Ok tt → receiving stop s x ≡ Ok (shard_core stop t)
    → after_arrival (simulation s.terms.case) (shard_core stop s) x ≡ shard_core stop t
arrived s t x stop may came =
    let same : ◌≡◌ {A = Result (Core Event) Rejection} (Ok (after_arrival (simulation s.terms.case) (shard_core stop s) x)) (Ok (shard_core stop t)) = sym (may_come s x stop may) ∙ came in
    cc same

pub kept_received : (stop : ℕ) (s t : Share) (x : Signed Event) (rest : List (Signed Event)) → IsAtWork stop s → s.mail ≡ x ∷ rest → IsSameShare s.shard t.shard
    → after_arrival (simulation s.shard.terms.case) (shard_core stop s.shard) x ≡ shard_core stop t.shard → t.mail ≡ rest → t.unsent ≡ s.unsent → PreservesShare stop s t
kept_received stop s t x rest work first same came mail unsent =
    let m = simulation s.shard.terms.case in
    let there : slice_get s.mail 0 ≡ Some x = ap (λ l. slice_get l 0) first in
    let left : remove s.mail 0 ≡ rest = ap (λ l. remove l 0) first in
    let mid : Share = record s { mail = rest } in
    let keeps = keeps_receive m (lawful s.shard.terms.case work.case) stop 0 (place_of s) x work.place there in
    let arrived : with_core (after_arrival m (shard_core stop s.shard) x) (record (place_of s) { mail = remove s.mail 0 }) ≡ with_core (shard_core stop t.shard) (place_of mid)
    = λ i. with_core (came i) (record (place_of s) { mail = left i }) in
    let made = arrived ∙ sym (place_after stop mid t same mail unsent) in
    record { shard = same; place = subst (PreservesPlace m stop (place_of s)) made keeps }

-- some of what it undoes is undone, and it is in the hand still
pub kept_rolled_back : (stop : ℕ) (s t : Share) (x : Signed Event) (rest : List (Signed Event)) → IsAtWork stop s → s.mail ≡ x ∷ rest → IsSameShare s.shard t.shard
    → IsRolledBack (simulation s.shard.terms.case) x.event (shard_core stop s.shard) (shard_core stop t.shard) → t.mail ≡ s.mail → t.unsent ≡ s.unsent → PreservesShare stop s t
kept_rolled_back stop s t x rest work first same back mail unsent =
    let m = simulation s.shard.terms.case in
    let there : slice_get s.mail 0 ≡ Some x = ap (λ l. slice_get l 0) first in
    let keeps = keeps_roll_back m (lawful s.shard.terms.case work.case) stop 0 (place_of s) x (shard_core stop t.shard) work.place there back in
    record { shard = same; place = subst (PreservesPlace m stop (place_of s)) (sym (place_after stop s t same mail unsent)) keeps }

-- ---- a router handles

-- only its own routers do
own_of : (stop r : ℕ) (s t : Shard) → handling stop s r ≡ Ok (shard_core stop t) → owns s r ≡ true
own_of stop r s t done =
    elim (cases_Bool (owns s r)) [
      | inl own ↦ own
      | inr other ↦
          let m = simulation s.terms.case in
          let refused : handling stop s r ≡ Err NotMine = ap (λ b. if b then handle m (shard_core stop s) r (first_pending m (shard_core stop s) r) else Err NotMine) other in
          absurd (cc (refused, done))
    ]

pub kept_handled : (stop r : ℕ) (s t : Share) → IsAtWork stop s → IsSameShare s.shard t.shard → handling stop s.shard r ≡ Ok (shard_core stop t.shard) → t.mail ≡ s.mail → t.unsent ≡ s.unsent
    → PreservesShare stop s t
kept_handled stop r s t work same done mail unsent =
    let m = simulation s.shard.terms.case in
    let next = handle m (shard_core stop s.shard) r (first_pending m (shard_core stop s.shard) r) in
    let own = own_of stop r s.shard t.shard done in
    let at_own : next ≡ Ok (shard_core stop t.shard) = sym (ap (λ b. if b then next else Err NotMine) own) ∙ done in
    let keeps = keeps_handle m (lawful s.shard.terms.case work.case) stop r (place_of s) (shard_core stop t.shard) work.place at_own in
    record { shard = same; place = subst (PreservesPlace m stop (place_of s)) (sym (place_after stop s t same mail unsent)) keeps }

-- and where the least of all pending events is handled
pub kept_least : (stop : ℕ) (s t : Share) → IsAtWork stop s → IsSameShare s.shard t.shard → handling_least stop s.shard ≡ Ok (shard_core stop t.shard) → t.mail ≡ s.mail → t.unsent ≡ s.unsent
    → PreservesShare stop s t
kept_least stop s t work same done mail unsent =
    let told = one_told stop s.shard (Ok (shard_core stop t.shard)) done (λ none. cc none) in
    kept_handled stop told.0 s t work same told.1 mail unsent

-- a router that has no room is one of its own
pub own_full : (stop r : ℕ) (s : Shard) → handling stop s r ≡ Err AheadFull → owns s r ≡ true
own_full stop r s full =
    elim (cases_Bool (owns s r)) [
      | inl own ↦ own
      | inr other ↦
          let m = simulation s.terms.case in
          let refused : handling stop s r ≡ Err NotMine = ap (λ b. if b then handle m (shard_core stop s) r (first_pending m (shard_core stop s) r) else Err NotMine) other in
          absurd (cc (refused, full))
    ]

-- and so is that of the least pending event
pub own_least : (time : ℕ) (s : Shard) (e : Event) → least event_before s.pending ≡ Some e → handling_least time s ≡ Err AheadFull → owns s e.dst ≡ true
own_least time s e first full =
    let told = sym (ap (λ o. option_map_or (λ (e : Event). if nat_lt e.time time then handling time s e.dst else Err Nothing) o (Err Nothing)) first) ∙ full in
    elim (cases_Bool (nat_lt e.time time)) [
      | inl soon ↦ own_full time e.dst s (sym (ap (λ b. if b then handling time s e.dst else Err Nothing) soon) ∙ told)
      | inr late ↦ absurd (cc (sym (ap (λ b. if b then handling time s e.dst else Err Nothing) late) ∙ told))
    ]

-- a router of its own has more room
pub kept_widened : (stop r : ℕ) (s : Share) (t : Shard) → IsAtWork stop s → IsSameShare s.shard t → owns s.shard r ≡ true → widening stop s.shard r ≡ Ok (shard_core stop t)
    → PreservesShare stop s (record s { shard = t })
kept_widened stop r s t work same own done =
    let m = simulation s.shard.terms.case in
    let wide : Result (Core Event) Refusal = Ok (with_room m (shard_core stop s.shard) r) in
    let at_own : wide ≡ Ok (shard_core stop t) = sym (ap (λ b. if b then wide else Err NotMine) own) ∙ done in
    let reached : with_room m (shard_core stop s.shard) r ≡ shard_core stop t = cc at_own in
    let made : with_core (with_room m (shard_core stop s.shard) r) (place_of s) ≡ place_of (record s { shard = t })
    = (λ i. with_core (reached i) (place_of s)) ∙ sym (place_after stop s (record s { shard = t }) same refl refl) in
    record {
      shard = same;
      place = subst (PreservesPlace m stop (place_of s)) made (keeps_widen m (lawful s.shard.terms.case work.case) stop r (place_of s) work.place);
    }

-- what is held for a router of its own is taken back
pub kept_released : (stop r : ℕ) (s : Share) (t : Shard) → IsAtWork stop s → IsSameShare s.shard t → owns s.shard r ≡ true → releasing stop s.shard r ≡ Ok (shard_core stop t)
    → PreservesShare stop s (record s { shard = t })
kept_released stop r s t work same own done =
    let m = simulation s.shard.terms.case in
    let less : Result (Core Event) Refusal = Ok (with_release m (shard_core stop s.shard) r) in
    let at_own : less ≡ Ok (shard_core stop t) = sym (ap (λ b. if b then less else Err NotMine) own) ∙ done in
    let reached : with_release m (shard_core stop s.shard) r ≡ shard_core stop t = cc at_own in
    let made : with_core (with_release m (shard_core stop s.shard) r) (place_of s) ≡ place_of (record s { shard = t })
    = (λ i. with_core (reached i) (place_of s)) ∙ sym (place_after stop s (record s { shard = t }) same refl refl) in
    record {
      shard = same;
      place = subst (PreservesPlace m stop (place_of s)) made (keeps_release m (lawful s.shard.terms.case work.case) stop r (place_of s) work.place);
    }

-- which is not refused
pub no_release_refusal : (stop : ℕ) (s : Shard) (r : ℕ) (f : Refusal) → owns s r ≡ true → releasing stop s r ≡ Err f → ⊥
no_release_refusal stop s r f own refused =
    let done : releasing stop s r ≡ Ok (with_release (simulation s.terms.case) (shard_core stop s) r) =
    ap (λ b. if b then Ok (with_release (simulation s.terms.case) (shard_core stop s) r) else Err NotMine) own in
    cc (done, refused)

-- it is not refused
pub no_widening_refusal : (stop : ℕ) (s : Shard) (r : ℕ) (f : Refusal) → owns s r ≡ true → widening stop s r ≡ Err f → ⊥
no_widening_refusal stop s r f own refused =
    let done : widening stop s r ≡ Ok (with_room (simulation s.terms.case) (shard_core stop s) r) =
    ap (λ b. if b then Ok (with_room (simulation s.terms.case) (shard_core stop s) r) else Err NotMine) own in
    cc (done, refused)
