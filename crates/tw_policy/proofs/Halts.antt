-- Elimination comes to a halt: each round leaves fewer paths, or what it leaves is left for ever.
use Rattle.std.proofs.Common.{◌≡◌, ℕ, suc, zero, ◌+◌, ◌<◌, ◌≤◌, ◌==◌, true, false, not, ◌&&◌, List, [], ◌∷◌, ◌++◌, length, refl, ap, sym, ◌∙◌, subst, ◌⊎◌, inl, inr, arith, nat_lt, if◌then◌else◌}
use Rattle.std.specs.List.{list_any, range_with_len, zip}
use Rattle.std.proofs.lemmas.Bool.{cases_Bool, cases_lt, both_ways, eq-eqb, eqb-true, and_from, and_parts, ltb-false, ltb-true, not-true, not_from_false}
use Rattle.tw_event.specs.declared.event.PathNo.{PathNo}
use Rattle.tw_model.specs.declared.net.Hop.{Hop}
use Rattle.tw_model.specs.declared.state.Row.{Row}
use Rattle.tw_model.specs.Net.{Net, empty_path, hops_of, origin_path}
use Rattle.tw_model.specs.State.{State, has_peer, hop, slot}
use Rattle.tw_model.proofs.Nets.{has_peer_of, hop_in_hops, hop_of, hop_slot}
use Rattle.tw_sim.proofs.Members.{In, any_from_in, in_from_any, in_zip, range_has}
use Rattle.tw_policy.specs.DisputeWheel.{IsDisputeWheel, Pivot}
use Rattle.tw_policy.specs.Left.{IsHalted, allows, covers, is_covered, is_given, left_after, remaining, round_left}
use Rattle.tw_policy.specs.Search.{all_paths, is_one_of, total}
use Rattle.tw_policy.proofs.Lists.{all_from, all_in, any_agree, same_number}
use Rattle.tw_policy.proofs.Rests.{IsLeftAfterRounds, lists, some_kept, some_path}
use Rattle.tw_policy.proofs.Stuck.{stuck_wheel}

-- ---- a list with some left out

pub data Within : List PathNo → List PathNo → Type 0 where
  ended : Within [] []
  keep : (x : PathNo) (xs ys : List PathNo) → Within xs ys → Within (x ∷ xs) (x ∷ ys)
  drop : (x : PathNo) (xs ys : List PathNo) → Within xs ys → Within xs (x ∷ ys)

within_self : (xs : List PathNo) → Within xs xs
within_self [] = ended
within_self (x ∷ xs) = keep x xs xs (within_self xs)

within_short : (xs ys : List PathNo) → Within xs ys → length xs ≤ length ys
within_short _ _ ended = omega arith
within_short _ _ (keep x xs ys w) = let more = within_short xs ys w in omega arith
within_short _ _ (drop x xs ys w) = let more = within_short xs ys w in omega arith

within_same : (xs ys : List PathNo) → Within xs ys → length xs ≡ length ys → xs ≡ ys
within_same _ _ ended same = refl
within_same _ _ (keep x xs ys w) same = ap (λ zs. x ∷ zs) (within_same xs ys w (omega arith))
within_same _ _ (drop x xs ys w) same = let few = within_short xs ys w in absurd (omega arith)

pub within_in : (xs ys : List PathNo) → Within xs ys → (p : PathNo) → In p xs → In p ys
within_in _ _ ended p i = absurd i
within_in _ _ (keep x xs ys w) p (inl e) = inl e
within_in _ _ (keep x xs ys w) p (inr k) = inr (within_in xs ys w p k)
within_in _ _ (drop x xs ys w) p i = inr (within_in xs ys w p i)

-- where lists are within others, they are fewer paths in all, or the same
fewer_or_same : (less left : ℕ → List PathNo) → ((v : ℕ) → Within (less v) (left v)) → (vs : List ℕ) → (total less vs < total left vs) ⊎ ((v : ℕ) → In v vs → less v ≡ left v)
fewer_or_same less left within [] = inr (λ v i. absurd i)
fewer_or_same less left within (v ∷ vs) =
    let here = within_short (less v) (left v) (within v) in
    elim (fewer_or_same less left within vs) [
      | inl fewer ↦ inl (omega arith)
      | inr same ↦ elim (cases_lt (length (less v)) (length (left v))) [
        | inl few ↦ (let more = same_total less left vs same in inl (omega arith))
        | inr long ↦ grind (arith, within_same)
      ]
    ] where
      same_total : (less left : ℕ → List PathNo) (vs : List ℕ) → ((v : ℕ) → In v vs → less v ≡ left v) → total less vs ≡ total left vs
      same_total less left [] same = refl
      same_total less left (v ∷ vs) same =
          let here = ap length (same v (inl refl)) in
          let more = same_total less left vs (λ w k. same w (inr k)) in
          omega arith

-- a list of one path at most, in which one stands
one_of : (xs : List PathNo) (p : PathNo) → In p xs → nat_lt 1 (length xs) ≡ false → (q : PathNo) × (xs ≡ q ∷ [])
one_of (x ∷ []) p i few = (x, refl)
one_of (x ∷ y ∷ xs) p i few = let short = ltb-false 1 (length (x ∷ y ∷ xs)) few in absurd (omega arith)
one_of [] p i few = absurd i

module _ (net : Net) (states : ℕ → State) where
  abbrev routers : List ℕ
  routers = range_with_len 0 net.nodes

  -- ---- fewer paths at the neighbours leave fewer here

  module _ (less left : ℕ → List PathNo) (fewer : (w : ℕ) (p : PathNo) → In p (less w) → In p (left w)) (v : ℕ) where
    given_too : (q : PathNo) → is_given net states less v q ≡ true → is_given net states left v q ≡ true
    given_too q h =
        let found = in_from_any (λ p. p.1.up && list_any (allows net states v q) (less p.0.peer)) (zip (hops_of net v) (states v).rows) h in
        let p = found.0 in
        let parts = and_parts p.1.up (list_any (allows net states v q) (less p.0.peer)) found.1 in
        let one = in_from_any (allows net states v q) (less p.0.peer) parts.1 in
        any_from_in (λ o. o.1.up && list_any (allows net states v q) (left o.0.peer)) p (zip (hops_of net v) (states v).rows)
        (and_from p.1.up (list_any (allows net states v q) (left p.0.peer)) parts.0
        (any_from_in (allows net states v q) one.0 (left p.0.peer) one.1 (fewer p.0.peer one.0 one.2)))
        found.2

    covered_too : (better : List PathNo) → is_covered net states left v better ≡ true → is_covered net states less v better ≡ true
    covered_too better h =
        let found = in_from_any (λ p. p.1.up && covers net states left v better p.0.peer) (zip (hops_of net v) (states v).rows) h in
        let p = found.0 in
        let w = p.0.peer in
        let parts = and_parts p.1.up (covers net states left v better w) found.1 in
        let all : covers net states less v better w ≡ true
        = all_from (λ r. list_any (λ y. allows net states v y r) better) (less w)
        (λ r i. all_in (λ r. list_any (λ y. allows net states v y r) better) r (left w) parts.1 (fewer w r i)) in
        any_from_in (λ o. o.1.up && covers net states less v better o.0.peer) p (zip (hops_of net v) (states v).rows)
        (and_from p.1.up (covers net states less v better w) parts.0 all) found.2

    uncovered_too : (better : List PathNo) → is_covered net states less v better ≡ false → is_covered net states left v better ≡ false
    uncovered_too better h = grind (arith, cases_Bool, both_ways, covered_too)

    remaining_within : (better order : List PathNo) → Within (remaining net states less v better order) (remaining net states left v better order)
    remaining_within better [] =
        elim (cases_Bool (is_covered net states less v better)) [
          | inr b ↦ rw (b, uncovered_too better b) (keep empty_path [] [] ended)
          | inl b ↦ elim (cases_Bool (is_covered net states left v better)) [
            | inl c ↦ rw (b, c) ended
            | inr c ↦ rw (b, c) (drop empty_path [] [] ended)
          ]
        ]
    remaining_within better (q ∷ order) =
        let more = remaining_within (better ++ q ∷ []) order in
        let mine = remaining net states less v (better ++ q ∷ []) order in
        let others = remaining net states left v (better ++ q ∷ []) order in
        elim (cases_Bool (is_given net states less v q && not (is_covered net states less v better))) [
          | inl b ↦ (
              let parts = and_parts (is_given net states less v q) (not (is_covered net states less v better)) b in
              let too : (is_given net states left v q && not (is_covered net states left v better)) ≡ true
              = and_from (is_given net states left v q) (not (is_covered net states left v better)) (given_too q parts.0)
              (not_from_false (is_covered net states left v better) (uncovered_too better (not-true (is_covered net states less v better) parts.1))) in
              rw (b, too) (keep q mine others more))
          | inr b ↦ elim (cases_Bool (is_given net states left v q && not (is_covered net states left v better))) [
            | inl c ↦ rw (b, c) (drop q mine others more)
            | inr c ↦ rw (b, c) more
          ]
        ]

  -- what remains of an order is within it, with the empty path behind
  order_within : (left : ℕ → List PathNo) (v : ℕ) (better order : List PathNo) → Within (remaining net states left v better order) (order ++ empty_path ∷ [])
  order_within left v better [] =
      elim (cases_Bool (is_covered net states left v better)) [
        | inl b ↦ rw b (drop empty_path [] [] ended)
        | inr b ↦ rw b (keep empty_path [] [] ended)
      ]
  order_within left v better (q ∷ order) =
      let more = order_within left v (better ++ q ∷ []) order in
      let mine = remaining net states left v (better ++ q ∷ []) order in
      elim (cases_Bool (is_given net states left v q && not (is_covered net states left v better))) [
        | inl b ↦ rw b (keep q mine (order ++ empty_path ∷ []) more)
        | inr b ↦ rw b (drop q mine (order ++ empty_path ∷ []) more)
      ]

  -- a round leaves nothing that the round before did not
  pub left_within : (n v : ℕ) → Within (left_after net states (suc n) v) (left_after net states n v)
  left_within zero v = grind (arith, cases_Bool, within_self, order_within)
  left_within (suc n) v =
      elim (cases_Bool (v == 0)) [
        | inl b ↦ rw b (within_self (origin_path ∷ []))
        | inr b ↦ rw b (remaining_within (left_after net states (suc n)) (left_after net states n)
            (λ w p i. within_in (left_after net states (suc n) w) (left_after net states n w) (left_within n w) p i) v [] (states v).order)
      ]

  -- ---- a round that leaves what the one before did is the last

  module _ (one two : ℕ → List PathNo) (v : ℕ) (same : (w : ℕ) → has_peer net v w ≡ true → one w ≡ two w) where
    there : (p : Hop × Row) → In p (zip (hops_of net v) (states v).rows) → one p.0.peer ≡ two p.0.peer
    there p i = same p.0.peer (has_peer_of net v p.0 (in_zip p (hops_of net v) (states v).rows i).0)

    given_same : (q : PathNo) → is_given net states one v q ≡ is_given net states two v q
    given_same q = grind (arith, any_agree, there)

    covered_same : (better : List PathNo) → is_covered net states one v better ≡ is_covered net states two v better
    covered_same better = grind (arith, any_agree, there)

    -- what a router has left depends on its neighbours alone
    pub remaining_same : (better order : List PathNo) → remaining net states one v better order ≡ remaining net states two v better order
    remaining_same better [] = ap (λ b. if b then [] else empty_path ∷ []) (covered_same better)
    remaining_same better (q ∷ order) = grind (arith, not, given_same, covered_same, remaining_same (better ++ q ∷ []) order)

  peer_below : (v w : ℕ) → has_peer net v w ≡ true → w < net.nodes
  peer_below v w there =
      subst (λ z. z < net.nodes) (hop_slot net v w there)
      (hop_of net v (hop net v (slot net v w)) (hop_in_hops net v (slot net v w) (ltb-true (slot net v w) (length (hops_of net v)) there))).2

  -- the round after so many changes nothing
  abbrev pub IsLastRound : ℕ → Type 0
  IsLastRound n = (v : ℕ) → v < net.nodes → left_after net states (suc n) v ≡ left_after net states n v

  same_after : (n v : ℕ) → IsLastRound n → left_after net states (suc (suc n)) v ≡ left_after net states (suc n) v
  same_after n v last = grind (arith, remaining_same, peer_below, there)

  stays_last : (n k : ℕ) → IsLastRound n → IsLastRound (n + k)
  stays_last n zero last = grind arith
  stays_last n (suc k) last = subst IsLastRound (sum_suc n k) (λ v here. same_after (n + k) v (stays_last n k last)) where
    sum_suc : (n k : ℕ) → suc (n + k) ≡ n + suc k
    sum_suc n k = omega arith

  pub over : (n : ℕ) → IsLastRound n → (k v : ℕ) → v < net.nodes → left_after net states (n + k) v ≡ left_after net states n v
  over n last zero v here = grind arith
  over n last (suc k) v here = ap (λ m. left_after net states m v) (sum_suc n k) ∙ (stays_last n k last v here ∙ over n last k v here) where
    sum_suc : (n k : ℕ) → n + suc k ≡ suc (n + k)
    sum_suc n k = omega arith

  pub fewer : (n : ℕ) → (total (left_after net states (suc n)) routers < total (left_after net states n) routers) ⊎ IsLastRound n
  fewer n =
      elim (fewer_or_same (left_after net states (suc n)) (left_after net states n) (left_within n) routers) [
        | inl less ↦ inl less
        | inr same ↦ inr (λ v here. same v (range_has v 0 net.nodes (omega arith) (omega arith)))
      ]

  halts_from : (k n : ℕ) → total (left_after net states n) routers ≤ k → (m : ℕ) × (m ≤ n + k) × IsLastRound m
  halts_from zero n few = elim (fewer n) [ inl less ↦ absurd (omega arith) | inr last ↦ (n, omega arith, last) ]
  halts_from (suc k) n few =
      elim (fewer n) [
        | inr last ↦ (n, omega arith, last)
        | inl less ↦ (let more = halts_from k (suc n) (omega arith) in let soon = more.1 in (more.0, omega arith, more.2))
      ]

  -- a halt comes within as many rounds as there are paths in all
  pub halts : (n : ℕ) × (n ≤ total (all_paths net states) routers) × IsLastRound n
  halts = let h = halts_from (total (all_paths net states) routers) 0 (omega arith) in let soon = h.1 in (h.0, omega arith, h.2)

  -- without a dispute wheel each router has one path left at the halt
  pub no_wheel_one_left : ((one : Pivot) (others : List Pivot) → IsDisputeWheel net states one others → ⊥)
      → (n : ℕ) × (n ≤ total (all_paths net states) routers) × ((v : ℕ) → v < net.nodes → (q : PathNo) × (left_after net states n v ≡ q ∷ []))
  no_wheel_one_left no_wheel =
      let h = halts in
      let n = h.0 in
      let left = left_after net states (suc n) in (
        n,
        h.1,
        λ v here.
            let few : nat_lt 1 (length (left v)) ≡ false = elim (cases_Bool (nat_lt 1 (length (left v)))) [
              | inr b ↦ b
              | inl b ↦ (
                  let wheel = stuck_wheel net states left (λ w. sym (same_after n w h.2)) v (ltb-true 1 (length (left v)) b) in
                  absurd (no_wheel wheel.one wheel.others wheel.is))
            ] in
            let there = some_kept net states (IsLeftAfterRounds net states) (lists net states) (suc n) v in
            let one = one_of (left v) (some_path net states (suc n) v) there few in
            (one.0, sym (h.2 v here) ∙ one.1),
      )

  -- ---- in whatever order routers eliminate, they come to the same halt

  -- each path of these lists is one of those
  abbrev pub AreAmong : (ℕ → List PathNo) → (ℕ → List PathNo) → Type 0
  AreAmong less left = (w : ℕ) (q : PathNo) → is_one_of (less w) q ≡ true → is_one_of (left w) q ≡ true

  pub one_in : (xs : List PathNo) (q : PathNo) → is_one_of xs q ≡ true → In q xs
  one_in xs q h = let found = in_from_any (λ x. q.0 == x.0) xs h in subst (λ z. In z xs) (sym (same_number q found.0 (eqb-true q.0 (found.0).0 found.1))) found.2

  pub in_one : (xs : List PathNo) (q : PathNo) → In q xs → is_one_of xs q ≡ true
  in_one xs q i = any_from_in (λ x. q.0 == x.0) q xs (eq-eqb q.0 q.0 refl) i

  round_within : (less left : ℕ → List PathNo) → AreAmong less left → (v : ℕ) → Within (round_left net states less v) (round_left net states left v)
  round_within less left among v = grind (arith, cases_Bool, within_self, remaining_within, one_in, in_one)

  -- a round keeps what a halt has
  pub kept : (halted left : ℕ → List PathNo) → IsHalted net states halted → AreAmong halted left → AreAmong halted (round_left net states left)
  kept halted left halt among v q h =
      in_one (round_left net states left v) q (within_in (round_left net states halted v) (round_left net states left v) (round_within halted left among v) q
      (subst (In q) (halt v) (one_in (halted v) q h)))

  -- and no halt has more than so many rounds leave
  pub within_rounds : (halted : ℕ → List PathNo) → IsHalted net states halted → (n : ℕ) → AreAmong halted (left_after net states n)
  within_rounds halted halt zero v q h =
      let i : In q (round_left net states halted v) = subst (In q) (halt v) (one_in (halted v) q h) in
      elim (cases_Bool (v == 0)) [
        | inl b ↦ (let here : In q (origin_path ∷ []) = rw b at i in rw b (in_one (origin_path ∷ []) q here))
        | inr b ↦ (
            let here : In q (remaining net states halted v [] (states v).order) = rw b at i in
            rw b (in_one ((states v).order ++ empty_path ∷ []) q
            (within_in (remaining net states halted v [] (states v).order) ((states v).order ++ empty_path ∷ []) (order_within halted v [] (states v).order) q here)))
      ]
  within_rounds halted halt (suc n) v q h = kept halted (left_after net states n) halt (within_rounds halted halt n) v q h

  -- two halts of the same paths are one
  pub same_halt : (one two : ℕ → List PathNo) → IsHalted net states one → IsHalted net states two → AreAmong one two → AreAmong two one → (v : ℕ) → one v ≡ two v
  same_halt one two first second there back v = grind (arith, round_within, there, within_short, within_same)
