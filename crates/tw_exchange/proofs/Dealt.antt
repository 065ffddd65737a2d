-- What is dealt of messages to workers.
use Rattle.std.proofs.Common.{arith, ℕ, zero, suc, ◌≡◌, ◌<◌, ◌≤◌, ◌^◌, ◌==◌, ◌||◌, Bool, true, false, true≢false, cond, List, [], ◌∷◌, ◌++◌, Option, None, Some, length, map, min, nat_lt, replicate, get_or, refl, ap, sym, ◌∙◌, subst, inl, inr}
use Rattle.std.proofs.lemmas.Bool.{cases_Bool, cases_eq, cases_lt, le-ltb, lt-ltb, or_from}
use Rattle.std.proofs.lemmas.List.{ext_get_or, get_or-replicate, get_or_past, length-replicate}
use Rattle.std.specs.List.{AllByRecursion, filter, fold, list_any}
use Rattle.std.specs.Option.{option_map_or}
use Rattle.tw_exchange.specs.AnyBoard.{AreDealt, AnyBoard, any_homeless, followed, is_early, is_for, least_report, message_times, sent_to, worker_for, workers}
use Rattle.tw_exchange.specs.Rows.{any_early, behind, lesser_time, soonest_of}
use Rattle.tw_exchange.specs.declared.mail.TheConstants.{NEVER}
use Rattle.tw_exchange.proofs.Behind.{behind_at, length_behind}
use Rattle.tw_exchange.proofs.Followed.{followed_of, length_followed, sent_elsewhere, sent_few, sent_here}
use Rattle.tw_exchange.proofs.Homes.{all_home, neither}
use Rattle.tw_exchange.proofs.Least.{least_of_two}
use Rattle.tw_process.specs.Parts.{Parts}
use Rattle.tw_sim.specs.declared.machine.Signed.{Signed}

-- ---- each message is in the list of its worker

module _ {E : Type 0} (parts : Parts E) where
  -- for a worker past the last there is nothing
  none_past : (who : ℕ → ℕ) (n w : ℕ) (out : List (Signed E)) → AllByRecursion (λ m. who (parts.dst m.event) < n) out → n ≤ w → sent_to parts who w out ≡ []
  none_past who n w [] h past = refl
  none_past who n w (m ∷ ms) h past = sent_elsewhere parts who w m ms (λ same. (let here = h.0 in absurd (omega arith))) ∙ none_past who n w ms h.1 past

  -- what follows empty lists is dealt
  pub dealt_new : (owners : Option (List ℕ)) (n : ℕ) (out : List (Signed E)) (lists : List (List (Signed E))) → any_homeless parts owners n out ≡ false
      → lists ≡ followed parts (worker_for owners n) 0 out (replicate n []) → AreDealt parts owners n out lists
  dealt_new owners n out lists home is = record { home = home; each = at } where
    at : (w : ℕ) → get_or lists w [] ≡ sent_to parts (worker_for owners n) w out
    at w =
        let who = worker_for owners n in
        let none : List (Signed E) = [] in
        let long : length (replicate n none) ≡ n = length-replicate n none in
        let same = length_followed parts who 0 out (replicate n none) in
        ap (λ r. get_or r w []) is ∙ (elim (cases_lt w n) [
          | inl below ↦ (followed_of parts who out (replicate n none) w (omega arith) ∙ ap (λ xs. xs ++ sent_to parts who w out) (get_or-replicate n w none none below))
          | inr past ↦ (get_or_past (followed parts who 0 out (replicate n none)) w none (omega arith) ∙ sym (none_past who n w out (all_home parts owners n out home) past))
        ])

  -- with no messages nothing is
  pub dealt_none : (owners : Option (List ℕ)) (n : ℕ) (out : List (Signed E)) (lists : List (List (Signed E))) → out ≡ [] → ((w : ℕ) → get_or lists w [] ≡ []) → AreDealt parts owners n out lists
  dealt_none owners n out lists none empty = subst (λ ms. AreDealt parts owners n ms lists) (sym none) (record { home = refl; each = empty })

  -- put behind mail, they are the deposit
  pub behind_dealt : (owners : Option (List ℕ)) (n : ℕ) (out : List (Signed E)) (lists mail : List (List (Signed E))) → AreDealt parts owners n out lists
      → behind mail lists ≡ followed parts (worker_for owners n) 0 out mail
  behind_dealt owners n out lists mail is =
      ext_get_or [] (behind mail lists) (followed parts (worker_for owners n) 0 out mail) (length_behind mail lists ∙ sym (length_followed parts (worker_for owners n) 0 out mail)) at
    where
      at : (k : ℕ) → k < length (behind mail lists) → get_or (behind mail lists) k [] ≡ get_or (followed parts (worker_for owners n) 0 out mail) k []
      at k below =
          let long = length_behind mail lists in
          behind_at mail lists k (omega arith)
          ∙ (ap (λ xs. get_or mail k [] ++ xs) (is.each k) ∙ sym (followed_of parts (worker_for owners n) out mail k (omega arith)))

  -- nothing is left where what is dealt to the workers is gone
  pub none_dealt : (owners : Option (List ℕ)) (n : ℕ) (out : List (Signed E)) (lists left : List (List (Signed E))) → AreDealt parts owners n out lists
      → ((w : ℕ) → w < n → get_or left w [] ≡ []) → ((w : ℕ) → n ≤ w → get_or left w [] ≡ get_or lists w []) → (w : ℕ) → get_or left w [] ≡ []
  none_dealt owners n out lists left is gone stay w =
      elim (cases_lt w n) [
        | inl below ↦ gone w below
        | inr past ↦ stay w past ∙ (is.each w ∙ none_past (worker_for owners n) n w out (all_home parts owners n out is.home) past)
      ]

  -- where something is dealt, there are messages
  pub some_dealt : (owners : Option (List ℕ)) (n : ℕ) (out : List (Signed E)) (lists : List (List (Signed E))) → AreDealt parts owners n out lists → (w : ℕ) → 0 < length (get_or lists w [])
      → 0 < length out
  some_dealt owners n out lists is w some =
      let few = sent_few parts (worker_for owners n) w out in
      let same = ap length (is.each w) in
      omega arith

-- ---- what is early

module _ {E : Type 0} (parts : Parts E) (p : Signed E → Bool) where
  -- where none of all messages passes a test, none of a list does
  none_of_list : (q : Signed E → Bool) (out : List (Signed E)) → list_any p out ≡ false → list_any p (filter q out) ≡ false
  none_of_list q [] h = refl
  none_of_list q (m ∷ ms) h =
      let both = neither (p m) (list_any p ms) h in
      let later = none_of_list q ms both.1 in
      elim (q m) as (λ b. list_any p (cond b (m ∷ filter q ms) (filter q ms)) ≡ false) [ true ↦ or_from (p m) (list_any p (filter q ms)) both.0 later | false ↦ later ]

  none_of_lists : (lists : List (List (Signed E))) → ((w : ℕ) → list_any p (get_or lists w []) ≡ false) → list_any (λ list. list_any p list) lists ≡ false
  none_of_lists [] h = refl
  none_of_lists (l ∷ ls) h = or_from (list_any p l) (list_any (λ list. list_any p list) ls) (h 0) (none_of_lists ls (λ w. h (suc w)))

  -- and the other way round
  none_at : (lists : List (List (Signed E))) → list_any (λ list. list_any p list) lists ≡ false → (w : ℕ) → list_any p (get_or lists w []) ≡ false
  none_at [] h w = refl
  none_at (l ∷ ls) h zero = (neither (list_any p l) (list_any (λ list. list_any p list) ls) h).0
  none_at (l ∷ ls) h (suc w) = none_at ls (neither (list_any p l) (list_any (λ list. list_any p list) ls) h).1 w

  none_of_all : (who : ℕ → ℕ) (out : List (Signed E)) → ((w : ℕ) → list_any p (sent_to parts who w out) ≡ false) → list_any p out ≡ false
  none_of_all who [] h = refl
  none_of_all who (m ∷ ms) h =
      let o = who (parts.dst m.event) in
      let here = neither (p m) (list_any p (sent_to parts who o ms)) (ap (list_any p) (sym (sent_here parts who o m ms refl)) ∙ h o) in
      or_from (p m) (list_any p ms) here.0 (none_of_all who ms (λ w. elim (cases_eq o w) [
        | inl same ↦ (neither (p m) (list_any p (sent_to parts who w ms)) (ap (list_any p) (sym (sent_here parts who w m ms same)) ∙ h w)).1
        | inr ne ↦ ap (list_any p) (sym (sent_elsewhere parts who w m ms ne)) ∙ h w
      ]))

  any_dealt : (who : ℕ → ℕ) (out : List (Signed E)) (lists : List (List (Signed E))) → ((w : ℕ) → get_or lists w [] ≡ sent_to parts who w out)
      → list_any (λ list. list_any p list) lists ≡ list_any p out
  any_dealt who out lists each =
      elim (cases_Bool (list_any p out)) [
        | inl some ↦ (elim (cases_Bool (list_any (λ list. list_any p list) lists)) [
          | inl one ↦ one ∙ sym some
          | inr none ↦ absurd (true≢false (sym some ∙ none_of_all who out (λ w. ap (list_any p) (sym (each w)) ∙ none_at lists none w)))
        ])
        | inr none ↦ none_of_lists lists (λ w. ap (list_any p) (each w) ∙ none_of_list (is_for parts who w) out none) ∙ sym none
      ]

module _ {E : Type 0} (parts : Parts E) where
  -- what is dealt is early where the messages are
  pub early_dealt : (x : AnyBoard E) (out : List (Signed E)) (lists : List (List (Signed E))) (report : Option ℕ) → AreDealt parts x.owners (workers x) out lists
      → any_early parts report x.bound lists ≡ is_early parts out report x
  early_dealt x out lists report is =
      ap (λ b. option_map_or (λ time. nat_lt time x.bound) report false || b) (any_dealt parts (λ m. nat_lt (parts.time m.event) x.bound) (worker_for x.owners (workers x)) out lists is.each)

-- ---- what is early by least times

or_false : (a : Bool) → a ≡ (a || false)
or_false true = refl
or_false false = refl

or_assoc : (a b c : Bool) → ((a || b) || c) ≡ (a || (b || c))
or_assoc true b c = refl
or_assoc false b c = refl

min_early : (s t b : ℕ) → nat_lt (min s t) b ≡ (nat_lt s b || nat_lt t b)
min_early s t b =
    elim (cases_lt s b) [
      | inl soon ↦ lt-ltb (min s t) b (omega arith) ∙ sym (ap (λ c. c || nat_lt t b) (lt-ltb s b soon))
      | inr late ↦ (elim (cases_lt t b) [
        | inl soon ↦ lt-ltb (min s t) b (omega arith) ∙ sym (λ i. le-ltb s b late i || lt-ltb t b soon i)
        | inr later ↦ le-ltb (min s t) b (omega arith) ∙ sym (λ i. le-ltb s b late i || le-ltb t b later i)
      ])
    ]

module _ {E : Type 0} (parts : Parts E) where
  fold_early : (s b : ℕ) (ms : List (Signed E)) → nat_lt (fold min s (message_times parts ms)) b ≡ (nat_lt s b || list_any (λ m. nat_lt (parts.time m.event) b) ms)
  fold_early s b [] = or_false (nat_lt s b)
  fold_early s b (m ∷ ms) =
      let t = parts.time m.event in
      fold_early (min s t) b ms ∙ (ap (λ c. c || list_any (λ m. nat_lt (parts.time m.event) b) ms) (min_early s t b) ∙ or_assoc (nat_lt s b) (nat_lt t b) (list_any (λ m. nat_lt (parts.time m.event) b) ms))

  soonest_early : (b : ℕ) (ms : List (Signed E)) → b ≤ NEVER → nat_lt (soonest_of parts ms) b ≡ list_any (λ m. nat_lt (parts.time m.event) b) ms
  soonest_early b ms end = fold_early NEVER b ms ∙ ap (λ c. c || list_any (λ m. nat_lt (parts.time m.event) b) ms) (le-ltb NEVER b end)

  times_early : (b : ℕ) (lists : List (List (Signed E))) → b ≤ NEVER → list_any (λ time. nat_lt time b) (map (soonest_of parts) lists) ≡ list_any (λ list. list_any (λ m. nat_lt (parts.time m.event) b) list) lists
  times_early b [] end = refl
  times_early b (l ∷ ls) end = λ i. soonest_early b l end i || times_early b ls end i

  pub early_found : (report : Option ℕ) (bound : ℕ) (row : List ℕ) (lists : List (List (Signed E))) → row ≡ map (soonest_of parts) lists → bound ≤ NEVER
      → (option_map_or (λ time. nat_lt time bound) report false || list_any (λ time. nat_lt time bound) row) ≡ any_early parts report bound lists
  early_found report bound row lists is end =
      ap (λ b. option_map_or (λ time. nat_lt time bound) report false || b) (ap (list_any (λ time. nat_lt time bound)) is ∙ times_early bound lists end)

  -- ---- a report with the least time of messages

  pub report_found : (report : Option ℕ) (m : Signed E) (ms : List (Signed E)) → parts.time m.event ≤ NEVER → Some (lesser_time (soonest_of parts (m ∷ ms)) report) ≡ least_report parts report (m ∷ ms)
  report_found None m ms end =
      let cap : min NEVER (parts.time m.event) ≡ parts.time m.event = omega arith in
      ap (λ t. Some (fold min t (message_times parts ms))) cap
  report_found (Some a) m ms end =
      let t = parts.time m.event in
      let cap : min NEVER t ≡ t = omega arith in
      let swap : min t a ≡ min a t = omega arith in
      let two : fold min (min t a) (message_times parts ms) ≡ min (fold min t (message_times parts ms)) a = least_of_two t a (message_times parts ms) in
      let turn : min a (fold min t (message_times parts ms)) ≡ min (fold min t (message_times parts ms)) a = omega arith in
      ap (λ s. Some (min a (fold min s (message_times parts ms)))) cap ∙ (ap Some (turn ∙ sym two) ∙ ap (λ s. Some (fold min s (message_times parts ms))) swap)

  pub report_at : (report : Option ℕ) (ms : List (Signed E)) (d : Signed E) (least r : ℕ) → (length ms == 0) ≡ false → parts.time (get_or ms 0 d).event < 2 ^ 64 → least ≡ soonest_of parts ms
      → r ≡ lesser_time least report → Some r ≡ least_report parts report ms
  report_at report [] d least r some fits is told = absurd (true≢false some)
  report_at report (m ∷ ms) d least r some fits is told = ap Some (told ∙ ap (λ s. lesser_time s report) is) ∙ report_found report m ms (omega arith)
