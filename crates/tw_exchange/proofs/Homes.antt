-- Which messages have a worker.
use Rattle.std.proofs.Common.{arith, ℕ, zero, suc, ◌≡◌, ◌<◌, ◌||◌, Bool, true, false, List, [], ◌∷◌, Option, None, length, get_or, nat_lt, not, refl, ap, sym, ◌∙◌, subst}
use Rattle.std.proofs.lemmas.Bool.{lt-ltb, ltb-true}
use Rattle.std.specs.List.{AllByRecursion}
use Rattle.tw_exchange.specs.AnyBoard.{any_homeless, who, worker_for}
use Rattle.tw_process.specs.Parts.{Parts}
use Rattle.tw_sim.specs.declared.machine.Signed.{Signed}
use Rattle.tw_sim.specs.Owners.{owner}

-- neither of two tests passes
pub neither : (a b : Bool) → (a || b) ≡ false → (a ≡ false) × (b ≡ false)
neither true b h = absurd (cc h)
neither false b h = (refl, h)

passes : (a : Bool) → not a ≡ false → a ≡ true
passes true h = refl
passes false h = absurd (cc h)

module _ {E : Type 0} (parts : Parts E) where
  -- where none is homeless, each has a worker
  pub all_home : (owners : Option (List ℕ)) (n : ℕ) (out : List (Signed E)) → any_homeless parts owners n out ≡ false → AllByRecursion (λ m. worker_for owners n (parts.dst m.event) < n) out
  all_home owners n [] h = tt
  all_home owners n (m ∷ ms) h =
      let both = neither (not (nat_lt (worker_for owners n (parts.dst m.event)) n)) (any_homeless parts owners n ms) h in
      (ltb-true (worker_for owners n (parts.dst m.event)) n (passes (nat_lt (worker_for owners n (parts.dst m.event)) n) both.0), all_home owners n ms both.1)

  -- and the other way round
  pub none_homeless : (owners : Option (List ℕ)) (n : ℕ) (out : List (Signed E)) → AllByRecursion (λ m. worker_for owners n (parts.dst m.event) < n) out → any_homeless parts owners n out ≡ false
  none_homeless owners n [] h = refl
  none_homeless owners n (m ∷ ms) h = ap (λ b. not b || any_homeless parts owners n ms) (lt-ltb (worker_for owners n (parts.dst m.event)) n h.0) ∙ none_homeless owners n ms h.1

  -- the worker of the message at place i, by the number of workers under another name
  pub alike : (owners : Option (List ℕ)) (m n : ℕ) (out : List (Signed E)) (i o : ℕ) (d : Signed E) → m ≡ n → o ≡ worker_for owners m (parts.dst (get_or out i d).event)
      → o ≡ worker_for owners n (parts.dst (get_or out i d).event)
  alike owners m n out i o d same e = e ∙ ap (λ k. worker_for owners k (parts.dst (get_or out i d).event)) same

  -- it is one of them
  pub home_at : (who : ℕ → ℕ) (n : ℕ) (out : List (Signed E)) (i o : ℕ) (d : Signed E) → o ≡ who (parts.dst (get_or out i d).event) → AllByRecursion (λ m. who (parts.dst m.event) < n) out
      → i < length out → o < n
  home_at who n [] i o d e h below = absurd (omega arith)
  home_at who n (m ∷ ms) zero o d e h below = subst (λ k. k < n) (sym e) h.0
  home_at who n (m ∷ ms) (suc i) o d e h below = home_at who n ms i o d e h.1 (omega arith)

  pub home_here : (owners : Option (List ℕ)) (m n : ℕ) (out : List (Signed E)) (i o : ℕ) (d : Signed E) → m ≡ n → o ≡ worker_for owners m (parts.dst (get_or out i d).event)
      → any_homeless parts owners n out ≡ false → i < length out → o < m
  home_here owners m n out i o d same e none below =
      let here = home_at (worker_for owners n) n out i o d (alike owners m n out i o d same e) (all_home owners n out none) below in
      omega arith

  -- the same, by the message and its receiver
  pub home_now : (owners : Option (List ℕ)) (m n : ℕ) (out : List (Signed E)) (i o r : ℕ) (d : Signed E) → m ≡ n → o ≡ worker_for owners m r → r ≡ parts.dst d.event → d ≡ get_or out i d
      → any_homeless parts owners n out ≡ false → i < length out → o < m
  home_now owners m n out i o r d same e to is none below =
      home_here owners m n out i o d same (e ∙ (ap (worker_for owners m) to ∙ ap (λ (x : Signed E). worker_for owners m (parts.dst x.event)) is)) none below

  -- where routers are dealt out in turn, each has a worker
  in_turn_home : (n : ℕ) (out : List (Signed E)) → 0 < n → AllByRecursion (λ m. owner n (parts.dst m.event) < n) out
  in_turn_home n [] some = tt
  in_turn_home n (m ∷ ms) some = (let within : owner n (parts.dst m.event) < n = omega arith in within, in_turn_home n ms some)

  pub in_turn : (n : ℕ) (out : List (Signed E)) → 0 < n → any_homeless parts None n out ≡ false
  in_turn n out some = none_homeless None n out (in_turn_home n out some)
