-- Calls that take no memory.
use Rattle.std.proofs.Common.{◌≡◌, ◌↔◌, ℕ, zero, suc, ◌+◌, ◌-◌, ◌<◌, ◌≤◌, ◌^◌, true, List, [], ◌∷◌, ◌++◌, length, take, Result, Ok, Err, if◌then◌else◌, refl, ap, sym, ◌∙◌, subst, inl, inr, arith}
use Rattle.std.proofs.lemmas.Bool.{cases_Bool, eq-eqb}
use Rattle.std.proofs.lemmas.List.{length-append}
use Rattle.std.specs.List.{AllByRecursion}
use Rattle.std.specs.Prelude.{IsErrOf, IsOk}
use Rattle.tw_core.specs.declared.limits.TheConstants.{OPENING_ROOM}
use Rattle.tw_core.specs.declared.refusal.Refusal.{Refusal}
use Rattle.tw_core.specs.declared.refusal.Refusal.TheVariants.{NotMine}
use Rattle.tw_core.specs.Machine.{Core}
use Rattle.tw_core.specs.Steps.{from}
use Rattle.tw_event.specs.declared.event.Event.{Event}
use Rattle.tw_model.specs.Case.{Case, simulation}
use Rattle.tw_model.specs.declared.memory.OrMemory.{OrMemory}
use Rattle.tw_model.specs.declared.memory.OrMemory.TheVariants as or_memory
use Rattle.tw_shard.specs.Commit.{HasNothingToCommit}
use Rattle.tw_shard.specs.Shard.{Shard, owns, shard_core, timeline}
use Rattle.tw_shard.specs.Shard as share
use Rattle.tw_shard.specs.Timeline.{history}
use Rattle.tw_sim.specs.declared.machine.Signed.{Signed}
use Rattle.tw_warp.specs.Calls.{CallTakesNone, FreeAt}
use Rattle.tw_warp.specs.declared.calls.RouterCall.{RouterCall}
use Rattle.tw_warp.specs.declared.calls.RouterCall.TheVariants.{Commit, Handle, Release, Undo, Widen}
use Rattle.tw_warp.specs.Warp.{IsWarp, Warp, lent, shard_at, warp_core, worker_with}
use Rattle.tw_warp.proofs.Joined.{rest, rest_apart}
use Rattle.tw_warp.proofs.Moves.{has_worker, law, now}
use Rattle.tw_warp.proofs.Whole.{held_at}

-- ---- at a shard

-- a router of its own is not refused memory, and another one is refused by name
pub not_memory : (s : Shard) (r : ℕ) (o : Result (Core Event) Refusal) (result : Result (Unit {0}) (OrMemory Refusal)) → (owns s r ≡ true → IsOk result)
    → (IsErrOf result (or_memory.Fault NotMine) ↔ (share.at_own s r o ≡ Err NotMine)) → IsErrOf result or_memory.Memory → ⊥
not_memory s r o result fits refused told =
    elim (cases_Bool (owns s r)) [
      | inl own ↦ (let fine = subst (λ (x : Result (Unit {0}) (OrMemory Refusal)). IsOk x) told (fits own) in cc fine)
      | inr foreign ↦ (let named = refused.1 (ap (λ b. if b then o else Err NotMine) foreign) in cc (sym named ∙ told))
    ]

-- what a shard has to send does not count
pub free_behind : (call : RouterCall) (s : Shard) (messages : List (Signed Event)) (r : ℕ) → FreeAt call s r → FreeAt call (record s { outgoing = messages }) r
free_behind Handle s messages r h = h
free_behind Undo s messages r h = h
free_behind Commit s messages r h = h
free_behind Release s messages r h = h
free_behind Widen s messages r h = h

-- ---- of the machine

last_from : (t : ℕ) (newer : List Event) (oldest : Event) → AllByRecursion (λ e. t ≤ e.time) (newer ++ oldest ∷ []) → t ≤ oldest.time
last_from t [] oldest h = h.0
last_from t (e ∷ newer) oldest h = last_from t newer oldest h.1

take_front : (xs ys : List Event) → take (length xs) (xs ++ ys) ≡ xs
take_front [] [] = refl
take_front [] (y ∷ ys) = refl
take_front (x ∷ xs) ys = ap (λ l. x ∷ l) (take_front xs ys)

-- the first of a list, all but as many as stand behind them
front : (xs ys : List Event) → take (length (xs ++ ys) - length ys) (xs ++ ys) ≡ xs
front xs ys =
    let long = length-append xs ys in
    let same : length (xs ++ ys) - length ys ≡ length xs = omega arith in
    ap (λ n. take n (xs ++ ys)) same ∙ take_front xs ys

module _ (w : Warp) (is : IsWarp w) (r : ℕ) where
  abbrev k : ℕ
  k = worker_with w r

  abbrev s : Shard
  s = shard_at w k

  -- none of the events that r can undo is before the bound
  free_commit : owns s r ≡ true → CallTakesNone (simulation w.case) Commit r (warp_core w) → HasNothingToCommit s r
  free_commit own none =
      let t = timeline s r in
      let all : AllByRecursion (λ e. w.bound ≤ e.time) (take (length (t.ahead ++ t.past) - length t.past) (t.ahead ++ t.past)) =
      subst (λ b. AllByRecursion (λ e. w.bound ≤ e.time) (take (length (if b then history t else []) - (if b then length t.past else 0)) (if b then history t else []))) own none in
      let ahead : AllByRecursion (λ e. w.bound ≤ e.time) t.ahead = subst (AllByRecursion (λ e. w.bound ≤ e.time)) (front t.ahead t.past) all in
      let bound : s.bound ≡ w.bound = (is.shares k (has_worker w is r)).bound in
      λ newer oldest same. subst (λ b. b ≤ oldest.time) (sym bound) (last_from w.bound newer oldest (subst (AllByRecursion (λ e. w.bound ≤ e.time)) same ahead))

  -- nothing is held for it
  free_release : CallTakesNone (simulation w.case) Release r (warp_core w) → from (simulation s.terms.case) r s.held ≡ []
  free_release none =
      let m = simulation w.case in
      let within = has_worker w is r in
      let here = held_at m (law w is) (rest w k) (rest_apart w is.case k within is.shares) (shard_core w.stop (lent w k)) r (eq-eqb k k refl) (is.shares k within).held in
      let at : from m r s.held ≡ [] = sym here ∙ (ap (λ (W : Core Event). from m r W.held) (sym (now w is k within)) ∙ none) in
      subst (λ (c : Case). from (simulation c) r s.held ≡ []) (sym (is.shares k within).case) at

  pub free_at : (call : RouterCall) → CallTakesNone (simulation w.case) call r (warp_core w) → owns s r ≡ true → FreeAt call s r
  free_at Handle none own = none
  free_at Undo none own = none
  free_at Commit none own = free_commit own none
  free_at Release none own = free_release none
  free_at Widen none own = subst (λ b. (if b then (timeline s r).room else OPENING_ROOM) < 2 ^ 63) own none
