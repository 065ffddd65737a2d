-- The routers' events, where they are retained.
use Rattle.std.proofs.Common.{◌≡◌, ℕ, zero, suc, ◌<◌, List, [], ◌∷◌, ◌++◌, Option, None, Some, IfSome, length, set, get_or, is_some, slice_get, refl, ap, sym, ◌∙◌, subst, arith}
use Rattle.std.proofs.lemmas.List.{get_or-map, length-map, map-set}
use Rattle.std.proofs.lemmas.List.FromFn.{length-map-range_with_len}
use Rattle.std.proofs.Math.Seq.{map-set_same}
use Rattle.std.specs.declared.vec.Vec.{Vec}
use Rattle.std.specs.Option.{IsSomeAnd, option_map}
use Rattle.std.specs.Prelude.{vec_capacity, vec_len}
use Rattle.tw_event.specs.declared.event.Event.{Event}
use Rattle.tw_model.specs.Case.{Case, simulation}
use Rattle.tw_sim.specs.Simulation.{only}
use Rattle.tw_seq.specs.Traced.{lists_of, logs_after, push_at, retained}
use Rattle.tw_seq.proofs.Noted.{next_logs}

-- ---- one of the lists

module _ {Z : Type 0} (logs : List (Vec Event Z)) (r : ℕ) where
  pub lists_same : (log d : Vec Event Z) → log.items ≡ (get_or logs r d).items → lists_of (set logs r log) ≡ lists_of logs
  lists_same log d same = map-set_same (λ l. l.items) logs r log d same

  pub lists_push : (log d : Vec Event Z) (e : Event) → r ≡ e.dst → r < length logs → log.items ≡ (get_or logs r d).items ++ e ∷ []
      → lists_of (set logs r log) ≡ push_at (lists_of logs) e
  lists_push log d e own within pushed =
      let old : get_or (lists_of logs) r [] ≡ (get_or logs r d).items = get_or-map (λ (l : Vec Event Z). l.items) logs r d [] within in
      map-set (λ (l : Vec Event Z). l.items) logs r log
      ∙ (ap (set (lists_of logs) r) (pushed ∙ ap (λ xs. xs ++ e ∷ []) (sym old))
      ∙ ap (λ k. set (lists_of logs) k (get_or (lists_of logs) k [] ++ e ∷ [])) own)

-- a list that has room is there
pub room_within : {Z : Type 0} (r : ℕ) (logs : List (Vec Event Z)) → IsSomeAnd (slice_get logs r) (λ log. vec_len log < vec_capacity log) → r < length logs
room_within r [] room = absurd room
room_within zero (x ∷ logs) room = omega arith
room_within (suc r) (x ∷ logs) room = let more = room_within r logs room in omega arith

-- and what is found there has it
pub room_is : {Z : Type 0} (r : ℕ) (logs : List (Vec Event Z)) (log : Vec Event Z) → log ≡ get_or logs r log
    → IsSomeAnd (slice_get logs r) (λ log. vec_len log < vec_capacity log) → vec_len log < vec_capacity log
room_is {Z = Z} r [] log found room = absurd room
room_is {Z = Z} zero (x ∷ logs) log found room = subst (λ (l : Vec Event Z). vec_len l < vec_capacity l) (sym found) room
room_is {Z = Z} (suc r) (x ∷ logs) log found room = room_is r logs log found room

-- a list with room that is put there is found
pub room_made : {Z : Type 0} (r : ℕ) (logs : List (Vec Event Z)) (log : Vec Event Z) → r < length logs → vec_len log < vec_capacity log
    → IsSomeAnd (slice_get (set logs r log) r) (λ log. vec_len log < vec_capacity log)
room_made r [] log within room = absurd (omega arith)
room_made zero (x ∷ logs) log within room = room
room_made (suc r) (x ∷ logs) log within room = room_made r logs log (omega arith) room

-- ---- all of them

module _ {Y Z : Type 0} (case : Case) (events : List Event) where
  pub retained_within : (logs : Option (Vec (Vec Event Z) Y)) (r : ℕ) → IfSome logs (λ logs. lists_of logs.items ≡ logs_after case events) → r < case.net.nodes
      → IfSome logs (λ logs. r < length logs.items)
  retained_within None r are within = tt
  retained_within (Some logs) r are within =
      let count = ap length are ∙ length-map-range_with_len (λ r. only (simulation case) r events) 0 case.net.nodes in
      let long = length-map logs.items (λ (l : Vec Event Z). l.items) in
      omega arith

  pub retained_same : (old new : Option (Vec (Vec Event Z) Y)) → retained new ≡ retained old → IfSome old (λ logs. lists_of logs.items ≡ logs_after case events)
      → IfSome new (λ logs. lists_of logs.items ≡ logs_after case events)
  retained_same None None same are = tt
  retained_same None (Some new) same are = absurd (cc)
  retained_same (Some old) None same are = absurd (cc)
  retained_same (Some old) (Some new) same are = let lists : lists_of new.items ≡ lists_of old.items = cc in lists ∙ are

  pub retained_next : (old new : Option (Vec (Vec Event Z) Y)) (e : Event) → retained new ≡ option_map (λ lists. push_at lists e) (retained old) → e.dst < case.net.nodes
      → IfSome old (λ logs. lists_of logs.items ≡ logs_after case events) → IfSome new (λ logs. lists_of logs.items ≡ logs_after case (events ++ e ∷ []))
  retained_next None None e next within are = tt
  retained_next None (Some new) e next within are = absurd (cc)
  retained_next (Some old) None e next within are = absurd (cc)
  retained_next (Some old) (Some new) e next within are =
      let lists : lists_of new.items ≡ push_at (lists_of old.items) e = cc in
      lists ∙ (ap (λ l. push_at l e) are ∙ next_logs case events e within)

-- whether they are retained
retains_is : {Y Z : Type 0} (logs : Option (Vec (Vec Event Z) Y)) → is_some logs ≡ is_some (retained logs)
retains_is None = refl
retains_is (Some logs) = refl

retains_map : (f : List (List Event) → List (List Event)) (lists : Option (List (List Event))) → is_some (option_map f lists) ≡ is_some lists
retains_map f None = refl
retains_map f (Some lists) = refl

pub retains_same : {Y Z : Type 0} (old new : Option (Vec (Vec Event Z) Y)) → retained new ≡ retained old → is_some new ≡ is_some old
retains_same old new same = retains_is new ∙ (ap is_some same ∙ sym (retains_is old))

pub retains_next : {Y Z : Type 0} (old new : Option (Vec (Vec Event Z) Y)) (e : Event) → retained new ≡ option_map (λ lists. push_at lists e) (retained old) → is_some new ≡ is_some old
retains_next old new e next = retains_is new ∙ (ap is_some next ∙ (retains_map (λ lists. push_at lists e) (retained old) ∙ sym (retains_is old)))
