-- Lists that are put behind the mail at their places.
use Rattle.std.proofs.Common.{arith, ℕ, zero, suc, ◌+◌, ◌≡◌, ◌<◌, ◌≤◌, List, [], ◌∷◌, ◌++◌, length, map, min, replicate, set, get_or, vec_len, vec_capacity, refl, ap, sym, ◌∙◌, subst, inl, inr, append-nil}
use Rattle.std.proofs.lemmas.Bool.{cases_eq, cases_lt}
use Rattle.std.proofs.lemmas.List.{get_or-map, get_or-set_other, get_or-set_same, get_or_past, length-set, map-append, map-set}
use Rattle.std.proofs.lemmas.List.Sums.{fold-append}
use Rattle.std.specs.List.{fold}
use Rattle.std.specs.declared.vec.Vec.{Vec}
use Rattle.tw_exchange.specs.AnyBoard.{NoneDealt, message_times}
use Rattle.tw_exchange.specs.Rows.{HasRoomBehind, behind, items, soonest_of}
use Rattle.tw_exchange.specs.declared.mail.TheConstants.{NEVER}
use Rattle.tw_exchange.proofs.Least.{at_most, least_of_two}
use Rattle.tw_exchange.proofs.Rooms.{items_at, items_set, length_items}
use Rattle.tw_process.specs.Parts.{Parts}
use Rattle.tw_sim.specs.declared.machine.Signed.{Signed}

module _ {X : Type 0} where
  pub length_behind : (ms ps : List (List X)) → length (behind ms ps) ≡ length ms
  length_behind [] ps = refl
  length_behind (m ∷ ms) [] = refl
  length_behind (m ∷ ms) (p ∷ ps) = ap suc (length_behind ms ps)

  pub behind_at : (ms ps : List (List X)) (k : ℕ) → k < length ms → get_or (behind ms ps) k [] ≡ get_or ms k [] ++ get_or ps k []
  behind_at [] ps k h = absurd (omega arith)
  behind_at (m ∷ ms) [] k h = sym (append-nil (get_or (m ∷ ms) k []))
  behind_at (m ∷ ms) (p ∷ ps) zero h = refl
  behind_at (m ∷ ms) (p ∷ ps) (suc k) h = behind_at ms ps k (omega arith)

  -- what is put behind at one place need not be any more
  behind_moved : (ms ps : List (List X)) (w : ℕ) → w < length ms → w < length ps → behind (set ms w (get_or ms w [] ++ get_or ps w [])) (set ps w []) ≡ behind ms ps
  behind_moved [] ps w h k = absurd (omega arith)
  behind_moved (m ∷ ms) [] w h k = absurd (omega arith)
  behind_moved (m ∷ ms) (p ∷ ps) zero h k = ap (λ xs. xs ∷ behind ms ps) (append-nil (m ++ p))
  behind_moved (m ∷ ms) (p ∷ ps) (suc w) h k = ap (λ rest. (m ++ p) ∷ rest) (behind_moved ms ps w (omega arith) (omega arith))

  -- where nothing is left to put behind
  behind_none : (ms ps : List (List X)) → ((w : ℕ) → w < length ms → get_or ps w [] ≡ []) → behind ms ps ≡ ms
  behind_none [] ps h = refl
  behind_none (m ∷ ms) [] h = refl
  behind_none (m ∷ ms) (p ∷ ps) h =
      let here : m ++ p ≡ m = ap (λ xs. m ++ xs) (h 0 (omega arith)) ∙ append-nil m in
      let later : behind ms ps ≡ ms = behind_none ms ps (λ w below. h (suc w) (omega arith)) in
      λ i. here i ∷ later i

  -- lists that are all empty
  pub all_empty : (ls : List (List X)) → ((w : ℕ) → get_or ls w [] ≡ []) → ls ≡ replicate (length ls) []
  all_empty [] h = refl
  all_empty (l ∷ ls) h = λ i. h 0 i ∷ all_empty ls (λ w. h (suc w)) i

module _ {E : Type 0} (parts : Parts E) where
  -- the least time of two lists
  soonest_both : (xs ys : List (Signed E)) → soonest_of parts (xs ++ ys) ≡ min (soonest_of parts xs) (soonest_of parts ys)
  soonest_both xs ys =
      let s = soonest_of parts xs in
      let most : s ≤ NEVER = at_most NEVER (message_times parts xs) in
      let cap : s ≡ min NEVER s = omega arith in
      let swap : min (soonest_of parts ys) s ≡ min s (soonest_of parts ys) = omega arith in
      ap (fold min NEVER) (map-append (λ y. parts.time y.event) xs ys)
      ∙ (fold-append min NEVER (message_times parts xs) (message_times parts ys) ∙ (ap (λ n. fold min n (message_times parts ys)) cap ∙ (least_of_two NEVER s (message_times parts ys) ∙ swap)))

module _ {X Z : Type 0} where
  -- ---- room

  -- there is room at the places below this one
  pub record HasRoomUpTo (end : ℕ) (rows : List (Vec X Z)) (lists : List (List X)) : Type 0 where
    pub room : (w : ℕ) (row : Vec X Z) → w < end → w < length rows → 0 < vec_len (get_or rows w row)
        → vec_len (get_or rows w row) + length (get_or lists w []) ≤ vec_capacity (get_or rows w row)

  pub room_up_to : (rows : List (Vec X Z)) (lists : List (List X)) (i : ℕ) (v : Vec X Z) → HasRoomUpTo i rows lists
      → (0 < vec_len v → vec_len v + length (get_or lists i []) ≤ vec_capacity v) → HasRoomUpTo (i + 1) (set rows i v) lists
  room_up_to rows lists i v h here = record { room = at } where
    at : (w : ℕ) (row : Vec X Z) → w < i + 1 → w < length (set rows i v) → 0 < vec_len (get_or (set rows i v) w row)
        → vec_len (get_or (set rows i v) w row) + length (get_or lists w []) ≤ vec_capacity (get_or (set rows i v) w row)
    at w row end within =
        let long = length-set rows i v in
        elim (cases_eq w i) [
          | inl e ↦ (subst (λ k. 0 < vec_len (get_or (set rows i v) k row) → vec_len (get_or (set rows i v) k row) + length (get_or lists k []) ≤ vec_capacity (get_or (set rows i v) k row)) (sym e)
              (subst (λ (u : Vec X Z). 0 < vec_len u → vec_len u + length (get_or lists i []) ≤ vec_capacity u) (sym (get_or-set_same rows i v row (omega arith))) here))
          | inr ne ↦ (subst (λ (u : Vec X Z). 0 < vec_len u → vec_len u + length (get_or lists w []) ≤ vec_capacity u) (sym (get_or-set_other rows i w v row ne))
              (h.room w row (omega arith) (omega arith)))
        ]

  -- past the lists nothing is to come
  pub room_all : (end : ℕ) (rows : List (Vec X Z)) (lists : List (List X)) → HasRoomUpTo end rows lists → min (length rows) (length lists) ≤ end → HasRoomBehind rows lists
  room_all end rows lists h past = record { room = at } where
    at : (w : ℕ) (row : Vec X Z) → w < length rows → 0 < vec_len (get_or rows w row) → vec_len (get_or rows w row) + length (get_or lists w []) ≤ vec_capacity (get_or rows w row)
    at w row within some =
        elim (cases_lt w end) [
          | inl below ↦ h.room w row below within some
          | inr beyond ↦ (
              let none : length (get_or lists w []) ≡ 0 = ap length (get_or_past lists w [] (omega arith)) in
              let most = (get_or rows w row).ok.1 in
              omega arith)
        ]

  room_left : (rows : List (Vec X Z)) (lists : List (List X)) (w : ℕ) (v : Vec X Z) → HasRoomBehind rows lists → w < length lists
      → HasRoomBehind (set rows w v) (set lists w [])
  room_left rows lists w v h within = record { room = at } where
    at : (k : ℕ) (row : Vec X Z) → k < length (set rows w v) → 0 < vec_len (get_or (set rows w v) k row)
        → vec_len (get_or (set rows w v) k row) + length (get_or (set lists w []) k []) ≤ vec_capacity (get_or (set rows w v) k row)
    at k row below =
        let long = length-set rows w v in
        elim (cases_eq k w) [
          | inl e ↦ (λ some.
              let none : length (get_or (set lists w []) k []) ≡ 0 = ap (λ j. length (get_or (set lists w []) j [])) e ∙ ap length (get_or-set_same lists w [] [] within) in
              let most = (get_or (set rows w v) k row).ok.1 in
              omega arith)
          | inr ne ↦ (subst (λ (u : Vec X Z). 0 < vec_len u → vec_len u + length (get_or (set lists w []) k []) ≤ vec_capacity u) (sym (get_or-set_other rows w k v row ne))
              (subst (λ (l : List X). 0 < vec_len (get_or rows k row) → vec_len (get_or rows k row) + length l ≤ vec_capacity (get_or rows k row))
              (sym (get_or-set_other lists w k [] [] ne)) (h.room k row (omega arith))))
        ]

module _ {E : Type 0} (parts : Parts E) {Z : Type 0} where
  -- ---- lists put behind, place by place

  -- what was dealt at the places below w stands behind the old mail
  pub record IsJoining (w : ℕ) (mail lists old dealt : List (Vec (Signed E) Z)) (soonest times : List ℕ) : Type 0 where
    pub all : behind (items mail) (items lists) ≡ behind (items old) (items dealt)
    pub soonest_is : soonest ≡ map (soonest_of parts) (items mail)
    pub times_is : times ≡ map (soonest_of parts) (items lists)
    pub room : HasRoomBehind mail (items lists)
    pub empty : (k : ℕ) → k < w → get_or (items lists) k [] ≡ []
    pub past : (k : ℕ) → w ≤ k → get_or (items lists) k [] ≡ get_or (items dealt) k []

  pub joins_next : (w : ℕ) (mail lists old dealt : List (Vec (Signed E) Z)) (soonest times : List ℕ) (v u d e : Vec (Signed E) Z) (t : ℕ)
      → IsJoining w mail lists old dealt soonest times → w < length mail → w < length lists → v.items ≡ (get_or mail w d).items ++ (get_or lists w e).items → u.items ≡ []
      → t ≡ min (get_or soonest w 0) (get_or times w 0) → IsJoining (w + 1) (set mail w v) (set lists w u) old dealt (set soonest w t) (set times w NEVER)
  joins_next w mail lists old dealt soonest times v u d e t is in_mail in_lists put none least =
      let xs = get_or (items mail) w [] in
      let ys = get_or (items lists) w [] in
      let here : v.items ≡ xs ++ ys = put ∙ (λ i. sym (items_at mail w d in_mail) i ++ sym (items_at lists w e in_lists) i) in
      let mail_now : items (set mail w v) ≡ set (items mail) w (xs ++ ys) = items_set mail w v (xs ++ ys) here in
      let lists_now : items (set lists w u) ≡ set (items lists) w [] = items_set lists w u [] none in
      let many : length (items mail) ≡ length mail = length_items mail in
      let many_lists : length (items lists) ≡ length lists = length_items lists in
      let soon : get_or soonest w 0 ≡ soonest_of parts xs = ap (λ r. get_or r w 0) is.soonest_is ∙ get_or-map (soonest_of parts) (items mail) w [] 0 (omega arith) in
      let next : get_or times w 0 ≡ soonest_of parts ys = ap (λ r. get_or r w 0) is.times_is ∙ get_or-map (soonest_of parts) (items lists) w [] 0 (omega arith) in
      let time : t ≡ soonest_of parts (xs ++ ys) = least ∙ ((λ i. min (soon i) (next i)) ∙ sym (soonest_both parts xs ys)) in
      let inside : w < length (items lists) = omega arith in
      record {
        all = (λ i. behind (mail_now i) (lists_now i)) ∙ (behind_moved (items mail) (items lists) w (omega arith) (omega arith) ∙ is.all);
        soonest_is = (λ i. set (is.soonest_is i) w (time i)) ∙ (sym (map-set (soonest_of parts) (items mail) w (xs ++ ys)) ∙ ap (map (soonest_of parts)) (sym mail_now));
        times_is = ap (λ r. set r w NEVER) is.times_is ∙ (sym (map-set (soonest_of parts) (items lists) w []) ∙ ap (map (soonest_of parts)) (sym lists_now));
        room = subst (λ (ls : List (List (Signed E))). HasRoomBehind (set mail w v) ls) (sym lists_now) (room_left mail (items lists) w v is.room inside);
        empty = λ k below. ap (λ r. get_or r k []) lists_now ∙ (elim (cases_eq k w) [
          | inl same ↦ ap (λ j. get_or (set (items lists) w []) j []) same ∙ get_or-set_same (items lists) w [] [] inside
          | inr ne ↦ get_or-set_other (items lists) w k [] [] ne ∙ is.empty k (omega arith)
        ]);
        past = λ k after. ap (λ r. get_or r k []) lists_now ∙ (get_or-set_other (items lists) w k [] [] (λ same. absurd (omega arith)) ∙ is.past k (omega arith));
      }

  -- at the end nothing is left to put behind
  pub none_left : (w : ℕ) (mail lists old dealt : List (Vec (Signed E) Z)) (soonest times : List ℕ) → IsJoining w mail lists old dealt soonest times → min (length mail) (length lists) ≤ w
      → (k : ℕ) → k < length mail → get_or (items lists) k [] ≡ []
  none_left w mail lists old dealt soonest times is end k within =
      elim (cases_lt k w) [
        | inl below ↦ is.empty k below
        | inr beyond ↦ (let many = length_items lists in get_or_past (items lists) k [] (omega arith))
      ]

  pub all_joined : (w : ℕ) (mail lists old dealt : List (Vec (Signed E) Z)) (soonest times : List ℕ) → IsJoining w mail lists old dealt soonest times → min (length mail) (length lists) ≤ w
      → items mail ≡ behind (items old) (items dealt)
  all_joined w mail lists old dealt soonest times is end =
      let many = length_items mail in
      sym (behind_none (items mail) (items lists) (λ k below. none_left w mail lists old dealt soonest times is end k (omega arith))) ∙ is.all

  -- ---- lists emptied, place by place

  pub cleared : (lists : List (Vec (Signed E) Z)) (times : List ℕ) (w : ℕ) (u : Vec (Signed E) Z) → times ≡ map (soonest_of parts) (items lists) → u.items ≡ [] → set times w NEVER ≡ map (soonest_of parts) (items (set lists w u))
  cleared lists times w u is none =
      ap (λ r. set r w NEVER) is ∙ (sym (map-set (soonest_of parts) (items lists) w []) ∙ ap (map (soonest_of parts)) (sym (items_set lists w u [] none)))

  pub emptied : (lists : List (Vec (Signed E) Z)) (w : ℕ) (u : Vec (Signed E) Z) → u.items ≡ [] → w < length lists → ((k : ℕ) → k < w → get_or (items lists) k [] ≡ [])
      → (k : ℕ) → k < w + 1 → get_or (items (set lists w u)) k [] ≡ []
  emptied lists w u none within before k below =
      let many = length_items lists in
      ap (λ r. get_or r k []) (items_set lists w u [] none) ∙ (elim (cases_eq k w) [
        | inl same ↦ ap (λ j. get_or (set (items lists) w []) j []) same ∙ get_or-set_same (items lists) w [] [] (omega arith)
        | inr ne ↦ get_or-set_other (items lists) w k [] [] ne ∙ before k (omega arith)
      ])

  pub all_emptied : (lists : List (Vec (Signed E) Z)) (end : ℕ) → ((k : ℕ) → k < end → get_or (items lists) k [] ≡ []) → length lists ≤ end → NoneDealt (items lists)
  all_emptied lists end before past k =
      elim (cases_lt k end) [
        | inl below ↦ before k below
        | inr beyond ↦ (let many = length_items lists in get_or_past (items lists) k [] (omega arith))
      ]
