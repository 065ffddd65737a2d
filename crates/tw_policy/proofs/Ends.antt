-- A search ends: each step down leaves fewer paths in all.
use Rattle.std.proofs.Common.{◌≡◌, ℕ, suc, zero, ◌<◌, ◌≤◌, ◌==◌, Bool, List, [], ◌∷◌, ◌++◌, length, filter, Option, Some, None, refl, inl, inr, arith, if◌then◌else◌}
use Rattle.std.specs.List.{find, range_with_len}
use Rattle.std.proofs.lemmas.Bool.{cases_Bool, eq-eqb, ltb-true}
use Rattle.tw_event.specs.declared.event.PathNo.{PathNo}
use Rattle.tw_model.specs.Net.{Net, origin_path}
use Rattle.tw_model.specs.State.{State}
use Rattle.tw_sim.proofs.Members.{In, in_find}
use Rattle.tw_policy.specs.Left.{remaining}
use Rattle.tw_policy.specs.Search.{each, has_choice, is_one_of, narrowed, only_at, search, settled, split, total}

pub filter_short : (p : PathNo → Bool) (xs : List PathNo) → length (filter p xs) ≤ length xs
filter_short p [] = omega arith
filter_short p (x ∷ xs) = grind (arith, cases_Bool, filter_short p xs)

pub total_no_more : (one two : ℕ → List PathNo) → ((v : ℕ) → length (one v) ≤ length (two v)) → (vs : List ℕ) → total one vs ≤ total two vs
total_no_more one two fewer [] = omega arith
total_no_more one two fewer (v ∷ vs) = let here = fewer v in let more = total_no_more one two fewer vs in omega arith

pub total_less : (one two : ℕ → List PathNo) → ((v : ℕ) → length (one v) ≤ length (two v)) → (v : ℕ) → length (one v) < length (two v) → (vs : List ℕ) → In v vs
    → total one vs < total two vs
total_less one two fewer v less (w ∷ vs) (inl e) = grind (arith, total_no_more)
total_less one two fewer v less (w ∷ vs) (inr k) = let here = fewer w in let more = total_less one two fewer v less vs k in omega arith
total_less one two fewer v less [] k = absurd k

-- one path alone is fewer than a choice
pub only_short : (left : ℕ → List PathNo) (v : ℕ) (q : PathNo) → 1 < length (left v) → (w : ℕ) → length (only_at left v q w) ≤ length (left w)
only_short left v q choice w = grind arith

pub only_shorter : (left : ℕ → List PathNo) (v : ℕ) (q : PathNo) → 1 < length (left v) → length (only_at left v q v) < length (left v)
only_shorter left v q choice = rw (eq-eqb v v refl) choice

module _ (net : Net) (states : ℕ → State) where
  abbrev routers : List ℕ
  routers = range_with_len 0 net.nodes

  -- the search from these lists answers
  abbrev Answers : ℕ → (ℕ → List PathNo) → Type 0
  Answers n left = (xs : List (ℕ → PathNo)) × (search net states n left ≡ Some xs)

  module _ (n : ℕ) (more : (left : ℕ → List PathNo) → total left routers < n → Answers n left) where
    each_ends : (left : ℕ → List PathNo) (v : ℕ) → ((q : PathNo) → total (only_at left v q) routers < n) → (qs : List PathNo)
        → (xs : List (ℕ → PathNo)) × (each (search net states n) left v qs ≡ Some xs)
    each_ends left v fewer [] = ([], refl)
    each_ends left v fewer (q ∷ qs) =
        let first = more (only_at left v q) (fewer q) in
        let others = each_ends left v fewer qs in
        (first.0 ++ others.0, rw (first.1, others.1) refl)

    split_ends : (left : ℕ → List PathNo) → total left routers ≤ n → (o : Option ℕ) → find (has_choice left) routers ≡ o
        → (xs : List (ℕ → PathNo)) × (split net states (search net states n) left o ≡ Some xs)
    split_ends left few None none = (settled net states left, refl)
    split_ends left few (Some v) some =
        let found = in_find (has_choice left) v routers some in
        let choice = ltb-true 1 (length (left v)) found.0 in
        each_ends left v
        (λ q. let less = total_less (only_at left v q) left (only_short left v q choice) v (only_shorter left v q choice) routers found.1 in omega arith)
        (left v)

  pub ends : (n : ℕ) (left : ℕ → List PathNo) → total left routers < n → Answers n left
  ends zero left few = absurd (omega arith)
  ends (suc n) left few =
      let narrow = total_no_more (narrowed net states left) left
      (λ v. filter_short (is_one_of (if v == 0 then origin_path ∷ [] else remaining net states left v [] (states v).order)) (left v)) routers in
      split_ends n (ends n) (narrowed net states left) (omega arith) (find (has_choice (narrowed net states left)) routers) refl
