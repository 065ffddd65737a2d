-- What all shares keep of the rule, once each has taken its turn.
use Rattle.std.proofs.Common.{◌≡◌, ℕ, zero, suc, ◌+◌, ◌-◌, ◌*◌, ◌<◌, ◌≤◌, List, [], ◌∷◌, ◌++◌, Some, append_assoc, drop, drop-drop, length, length-take-le, slice_get, take, take-add, take_all, ap, sym, ◌∙◌, subst, inl, inr, arith}
use Rattle.std.proofs.lemmas.Bool.{cases_lt}
use Rattle.std.proofs.lemmas.List.{append-nil, drop_all, take-append-drop}
use Rattle.std.specs.Fork.{slice_chunk}
use Rattle.std.specs.declared.cmp.Ordering.{Ordering}
use Rattle.tw_process.specs.Behaviour.{Behaviour, simulation_of}
use Rattle.tw_process.specs.Parts.{Parts}
use Rattle.tw_rounds.proofs.Lists.{there_at, within}
use Rattle.tw_rounds.specs.Members.{Mailed, place_of}
use Rattle.tw_rounds.specs.Ruled.{AreRuled}
use Rattle.tw_rounds.specs.Shares.{IsShare, KeepsRule, TellsLeast}
use Rattle.tw_rounds.specs.declared.turning.Round.{Round}
use Rattle.tw_rule.specs.Place.{NoneLooseBefore}
use Rattle.tw_sim.specs.declared.machine.Signed.{Signed}
use Rattle.tw_sim.specs.Simulation.{IsLawful}

-- a part of a list, with what stands before it and behind it
parted : {X : Type 0} (start size : ℕ) (xs : List X) → take start xs ++ take size (drop start xs) ++ drop (start + size) xs ≡ xs
parted start size xs = ap (λ zs. zs ++ drop (start + size) xs) (sym (take-add start size xs)) ∙ take-append-drop (start + size) xs

-- more factors make no less
pub not_less : (k n size : ℕ) → k ≤ n → k * size ≤ n * size
not_less zero n size le = omega arith
not_less (suc k) zero size le = absurd (omega arith)
not_less (suc k) (suc n) size le = (let more = not_less k n size (omega arith) in omega arith)

-- as many products as factors are enough
pub enough : (n size : ℕ) → 0 < size → n ≤ n * size
enough zero size l = omega arith
enough (suc n) size l = (let more = enough n size l in omega arith)

module _ {S M E : Type 0} (parts : Parts E) (cmp : E → E → Ordering) (behaviour : M → Behaviour S E) (round : Round) (model : M) (flight : List (Signed E)) where
  abbrev Ruled : List (Signed E) → List (Mailed M E) → Type 0
  Ruled = AreRuled (simulation_of parts cmp (behaviour model)) model round.stop round.bound

  -- what stands from a number on is a share
  pub chunk_shares : (start size : ℕ) (xs part : List (Mailed M E)) → round.limit ≤ round.stop → round.stop ≤ (behaviour model).latest → start ≤ length xs → part ≡ take size (drop start xs)
      → Ruled flight xs → IsShare parts cmp behaviour round start part []
  chunk_shares start size xs part limit early le is ruled = record {
    model = model;
    front = take start xs;
    back = drop (start + size) xs;
    others = flight;
    from = length-take-le start xs le;
    limit = limit;
    early = early;
    ruled = subst (λ fs. Ruled fs (take start xs ++ part ++ drop (start + size) xs)) (sym (append-nil flight))
        (subst (λ zs. Ruled flight (take start xs ++ zs ++ drop (start + size) xs)) (sym is) (subst (Ruled flight) (sym (parted start size xs)) ruled));
  }

  module _ (size : ℕ) (xs ys : List (Mailed M E)) (some : 0 < size) (count : length ys ≡ length xs)
      (each : (n : ℕ) → n * size < length xs → KeepsRule parts cmp behaviour round (n * size) (slice_chunk xs size n) [] (slice_chunk ys size n) []) where
    -- so many shares have taken their turns
    abbrev turned : ℕ → List (Mailed M E)
    turned n = take (n * size) ys ++ drop (n * size) xs

    one_more : (n : ℕ) → n * size < length xs → Ruled flight (turned n) → Ruled flight (turned (suc n))
    one_more n l ruled =
        let start = n * size in
        let front = take start ys in
        let back = drop (start + size) xs in
        let split : turned n ≡ front ++ slice_chunk xs size n ++ back
        = ap (λ zs. front ++ zs) (sym (take-append-drop size (drop start xs)) ∙ ap (λ zs. take size (drop start xs) ++ zs) (drop-drop size start xs))
        ∙ sym (append_assoc front (slice_chunk xs size n) back) in
        let next : suc n * size ≡ start + size = omega arith in
        let join : front ++ slice_chunk ys size n ++ back ≡ turned (suc n)
        = ap (λ zs. zs ++ back) (sym (take-add start size ys)) ∙ ap (λ k. take k ys ++ drop k xs) (sym next) in
        let before = subst (λ fs. Ruled fs (front ++ slice_chunk xs size n ++ back)) (sym (append-nil flight)) (subst (Ruled flight) split ruled) in
        let after = each n l model front back flight (length-take-le start ys (omega arith)) before in
        subst (Ruled flight) join (subst (λ fs. Ruled fs (front ++ slice_chunk ys size n ++ back)) (append-nil flight) after)

    -- where no processes are left, all have
    over : (n : ℕ) → length xs ≤ n * size → turned n ≡ ys
    over n ge = ap (λ zs. zs ++ drop (n * size) xs) (take_all (n * size) ys (omega arith)) ∙ (ap (λ zs. ys ++ zs) (drop_all (n * size) xs ge) ∙ append-nil ys)

    none_yet : 0 * size ≡ 0
    none_yet = omega arith

    so_many : Ruled flight xs → (n : ℕ) → Ruled flight (turned n)
    so_many ruled zero = subst (Ruled flight) (ap (λ k. take k ys ++ drop k xs) (sym none_yet)) ruled
    so_many ruled (suc n) =
        let before = so_many ruled n in
        elim (cases_lt (n * size) (length xs)) [
          | inl l ↦ one_more n l before
          | inr ge ↦ subst (Ruled flight) (over n ge ∙ sym (over (suc n) (omega arith))) before
        ]

    -- all have taken their turns
    pub all_turned : Ruled flight xs → Ruled flight ys
    all_turned ruled = subst (Ruled flight) (over (length xs) (enough (length xs) size some)) (so_many ruled (length xs))

-- what stands in a list stands in its front, or behind it
get_take : {X : Type 0} (m : ℕ) (xs : List X) (k : ℕ) (x : X) → k < m → slice_get xs k ≡ Some x → slice_get (take m xs) k ≡ Some x
get_take zero xs k x l h = absurd (omega arith)
get_take (suc m) [] k x l h = cc
get_take (suc m) (y ∷ ys) zero x l h = h
get_take (suc m) (y ∷ ys) (suc k) x l h = get_take m ys k x (omega arith) h

get_drop : {X : Type 0} (m : ℕ) (xs : List X) (k : ℕ) (x : X) → slice_get xs (m + k) ≡ Some x → slice_get (drop m xs) k ≡ Some x
get_drop zero xs k x h = subst (λ n. slice_get xs n ≡ Some x) {y = k} (omega arith) h
get_drop (suc m) [] k x h = cc
get_drop (suc m) (y ∷ ys) k x h = get_drop m ys k x (subst (λ n. slice_get (y ∷ ys) n ≡ Some x) {y = suc (m + k)} (omega arith) h)

-- and what stands in all stands in its share
get_chunk : {X : Type 0} (xs : List X) (size n k : ℕ) (x : X) → k < size → slice_get xs (n * size + k) ≡ Some x → slice_get (slice_chunk xs size n) k ≡ Some x
get_chunk xs size n k x l h = get_take size (drop (n * size) xs) k x l (get_drop (n * size) xs k x h)

module _ {S M E : Type 0} (parts : Parts E) (cmp : E → E → Ordering) (behaviour : M → Behaviour S E) (size least : ℕ) (ys : List (Mailed M E))
    (each : (n : ℕ) → n * size < length ys → TellsLeast parts cmp behaviour (slice_chunk ys size n)) (low : (n : ℕ) (x : Mailed M E) → slice_get ys (n * size) ≡ Some x → least ≤ x.least) where
  -- the least of what so many shares tell
  told_by : (n i : ℕ) (y : Mailed M E) → i < n * size → slice_get ys i ≡ Some y → IsLawful (simulation_of parts cmp (behaviour y.process.model)) → NoneLooseBefore (simulation_of parts cmp (behaviour y.process.model)) least (place_of y)
  told_by zero i y l at law = absurd (omega arith)
  told_by (suc n) i y l at law = elim (cases_lt i (n * size)) [
    | inl lt ↦ told_by n i y lt at law
    | inr ge ↦
        let start = n * size in
        let inside = within ys i y at in
        let first = there_at ys start (omega arith) in
        let begins = get_chunk ys size n 0 first.0 (omega arith) (subst (λ k. slice_get ys k ≡ Some first.0) {y = start + 0} (omega arith) first.1) in
        let here = get_chunk ys size n (i - start) y (omega arith) (subst (λ k. slice_get ys k ≡ Some y) {y = start + (i - start)} (omega arith) at) in
        let told = each n (omega arith) first.0 begins (i - start) y here law in
        let le = low n first.0 first.1 in
        λ e h. (let old = told e h in omega arith)
  ]

  -- of what all tell
  pub all_told : 0 < size → (i : ℕ) (y : Mailed M E) → slice_get ys i ≡ Some y → IsLawful (simulation_of parts cmp (behaviour y.process.model)) → NoneLooseBefore (simulation_of parts cmp (behaviour y.process.model)) least (place_of y)
  all_told some i y at = told_by (length ys) i y (let inside = within ys i y at in let all = enough (length ys) size some in omega arith) at
