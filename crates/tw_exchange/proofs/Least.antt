-- Least times: what passes over rows find is what the definitions say.
use Rattle.std.proofs.Common.{arith, ℕ, ◌≡◌, ◌≤◌, List, [], ◌∷◌, ◌++◌, Option, None, Some, IfSome, map, min, refl, ap, sym, ◌∙◌, get_or, zero, suc}
use Rattle.std.proofs.lemmas.List.{map-append}
use Rattle.std.proofs.lemmas.List.Sums.{fold-append}
use Rattle.std.specs.List.{AllByRecursion, flat_map, fold, reduce}
use Rattle.std.specs.Option.{MatchOption, option_to_list}
use Rattle.tw_exchange.specs.AnyBoard.{least_bound, least_report, message_times}
use Rattle.tw_exchange.specs.Rows.{lesser_time, soonest_of}
use Rattle.tw_exchange.specs.declared.mail.TheConstants.{NEVER}
use Rattle.tw_process.specs.Parts.{Parts}
use Rattle.tw_sim.specs.declared.machine.Signed.{Signed}

-- ---- passes

-- the least of some numbers and of two more
pub least_of_two : (a b : ℕ) (xs : List ℕ) → fold min (min a b) xs ≡ min (fold min a xs) b
least_of_two a b [] = refl
least_of_two a b (x ∷ xs) =
    let swap : min (min a b) x ≡ min (min a x) b = omega arith in
    ap (λ n. fold min n xs) swap ∙ least_of_two (min a x) b xs

-- two lists of numbers, in either order
either_order : (s : ℕ) (xs ys : List ℕ) → fold min (fold min s xs) ys ≡ fold min (fold min s ys) xs
either_order s [] ys = refl
either_order s (x ∷ xs) ys = either_order (min s x) xs ys ∙ ap (λ n. fold min n xs) (least_of_two s x ys)

-- a time, lowered report by report
pub reports_found : (time : ℕ) (reports : List (Option ℕ)) → fold lesser_time time reports ≡ fold min time (flat_map option_to_list reports)
reports_found time [] = refl
reports_found time (None ∷ rs) = reports_found time rs
reports_found time (Some a ∷ rs) =
    let swap : min a time ≡ min time a = omega arith in
    reports_found (min a time) rs ∙ ap (λ n. fold min n (flat_map option_to_list rs)) swap

-- the least of a time and of a row's, if it has any
pub row_found : (stop : ℕ) (xs : List ℕ) (least : ℕ) → MatchOption (reduce min xs) (least ≡ stop) (λ x. least ≡ min x stop) → least ≡ fold min stop xs
row_found stop [] least h = h
row_found stop (x ∷ xs) least h =
    let swap : min x stop ≡ min stop x = omega arith in
    h ∙ (sym (least_of_two x stop xs) ∙ ap (λ n. fold min n xs) swap)

pub at_most : (s : ℕ) (xs : List ℕ) → fold min s xs ≤ s
at_most s [] = omega arith
at_most s (x ∷ xs) = let h = at_most (min s x) xs in omega arith

module _ {E : Type 0} (parts : Parts E) where
  -- the least time of all mail is that of the soonest of each worker's
  mail_found : (s : ℕ) (mail : List (List (Signed E))) → s ≤ NEVER → fold min s (message_times parts (flat_map (λ m. m) mail)) ≡ fold min s (map (soonest_of parts) mail)
  mail_found s [] end = refl
  mail_found s (m ∷ ms) end =
      let cap : min NEVER s ≡ s = omega arith in
      let here : fold min s (message_times parts m) ≡ min s (soonest_of parts m) =
      (ap (λ n. fold min n (message_times parts m)) (sym cap) ∙ (least_of_two NEVER s (message_times parts m) ∙ (let swap : min (soonest_of parts m) s ≡ min s (soonest_of parts m) = omega arith in swap))) in
      let below : min s (soonest_of parts m) ≤ NEVER = omega arith in
      ap (fold min s) (map-append (λ x. parts.time x.event) m (flat_map (λ m. m) ms))
      ∙ (fold-append min s (message_times parts m) (message_times parts (flat_map (λ m. m) ms))
      ∙ (ap (λ n. fold min n (message_times parts (flat_map (λ m. m) ms))) here ∙ mail_found (min s (soonest_of parts m)) ms below))

  -- the bound, from the row of least times
  pub bound_found : (reports : List (Option ℕ)) (mail : List (List (Signed E))) (stop : ℕ) → stop ≤ NEVER
      → least_bound parts reports mail stop ≡ fold min (fold min stop (map (soonest_of parts) mail)) (flat_map option_to_list reports)
  bound_found reports mail stop end =
      let told = flat_map option_to_list reports in
      let waits = message_times parts (flat_map (λ m. m) mail) in
      fold-append min stop told waits ∙ (either_order stop told waits ∙ ap (λ n. fold min n told) (mail_found stop mail end))

-- ---- what is not before a time

all_left : {X : Type 0} (P : X → Type 0) (xs ys : List X) → AllByRecursion P (xs ++ ys) → AllByRecursion P xs
all_left P [] ys h = tt
all_left P (x ∷ xs) ys h = (h.0, all_left P xs ys h.1)

all_right : {X : Type 0} (P : X → Type 0) (xs ys : List X) → AllByRecursion P (xs ++ ys) → AllByRecursion P ys
all_right P [] ys h = h
all_right P (x ∷ xs) ys h = all_right P xs ys h.1

pub all_both : {X : Type 0} (P : X → Type 0) (xs ys : List X) → AllByRecursion P xs → AllByRecursion P ys → AllByRecursion P (xs ++ ys)
all_both P [] ys h k = k
all_both P (x ∷ xs) ys h k = (h.0, all_both P xs ys h.1 k)

-- P of each report, or none
reports_each : (P : ℕ → Type 0) (rs : List (Option ℕ)) → AllByRecursion P (flat_map option_to_list rs) → (w : ℕ) → IfSome (get_or rs w None) P
reports_each P [] h w = tt
reports_each P (None ∷ rs) h zero = tt
reports_each P (None ∷ rs) h (suc w) = reports_each P rs h w
reports_each P (Some a ∷ rs) h zero = h.0
reports_each P (Some a ∷ rs) h (suc w) = reports_each P rs h.1 w

reports_all : (P : ℕ → Type 0) (rs : List (Option ℕ)) → ((w : ℕ) → IfSome (get_or rs w None) P) → AllByRecursion P (flat_map option_to_list rs)
reports_all P [] h = tt
reports_all P (None ∷ rs) h = reports_all P rs (λ w. h (suc w))
reports_all P (Some a ∷ rs) h = (h zero, reports_all P rs (λ w. h (suc w)))

module _ {E : Type 0} (parts : Parts E) where
  all_times : (P : ℕ → Type 0) (ms : List (Signed E)) → AllByRecursion (λ m. P (parts.time m.event)) ms → AllByRecursion P (message_times parts ms)
  all_times P [] h = tt
  all_times P (m ∷ ms) h = (h.0, all_times P ms h.1)

  times_all : (P : ℕ → Type 0) (ms : List (Signed E)) → AllByRecursion P (message_times parts ms) → AllByRecursion (λ m. P (parts.time m.event)) ms
  times_all P [] h = tt
  times_all P (m ∷ ms) h = (h.0, times_all P ms h.1)

pub mail_each : {X : Type 0} (P : X → Type 0) (mail : List (List X)) → AllByRecursion P (flat_map (λ m. m) mail) → (w : ℕ) → AllByRecursion P (get_or mail w [])
mail_each P [] h w = tt
mail_each P (m ∷ ms) h zero = all_left P m (flat_map (λ m. m) ms) h
mail_each P (m ∷ ms) h (suc w) = mail_each P ms (all_right P m (flat_map (λ m. m) ms) h) w

pub mail_all : {X : Type 0} (P : X → Type 0) (mail : List (List X)) → ((w : ℕ) → AllByRecursion P (get_or mail w [])) → AllByRecursion P (flat_map (λ m. m) mail)
mail_all P [] h = tt
mail_all P (m ∷ ms) h = all_both P m (flat_map (λ m. m) ms) (h zero) (mail_all P ms (λ w. h (suc w)))

pub weaker : {X : Type 0} (P Q : X → Type 0) → ((x : X) → P x → Q x) → (xs : List X) → AllByRecursion P xs → AllByRecursion Q xs
weaker P Q f [] h = tt
weaker P Q f (x ∷ xs) h = (f x h.0, weaker P Q f xs h.1)

least_below : (s : ℕ) (xs : List ℕ) → AllByRecursion (λ x. fold min s xs ≤ x) xs
least_below s [] = tt
least_below s (x ∷ xs) = let h = at_most (min s x) xs in (omega arith, least_below (min s x) xs)

not_before : (b s : ℕ) (xs : List ℕ) → b ≤ s → AllByRecursion (λ x. b ≤ x) xs → b ≤ fold min s xs
not_before b s [] h k = h
not_before b s (x ∷ xs) h k = let first = k.0 in not_before b (min s x) xs (omega arith) k.1

module _ {E : Type 0} (parts : Parts E) where
  -- the bound is not beyond the stop, a report, or the time of any mail
  pub bound_stop : (reports : List (Option ℕ)) (mail : List (List (Signed E))) (stop : ℕ) → least_bound parts reports mail stop ≤ stop
  bound_stop reports mail stop = at_most stop (flat_map option_to_list reports ++ message_times parts (flat_map (λ m. m) mail))

  pub bound_reports : (reports : List (Option ℕ)) (mail : List (List (Signed E))) (stop w : ℕ) → IfSome (get_or reports w None) (λ time. least_bound parts reports mail stop ≤ time)
  bound_reports reports mail stop w =
      let told = flat_map option_to_list reports in
      let waits = message_times parts (flat_map (λ m. m) mail) in
      let P : ℕ → Type 0 = λ time. least_bound parts reports mail stop ≤ time in
      reports_each P reports (all_left P told waits (least_below stop (told ++ waits))) w

  pub bound_mail : (reports : List (Option ℕ)) (mail : List (List (Signed E))) (stop w : ℕ) → AllByRecursion (λ m. least_bound parts reports mail stop ≤ parts.time m.event) (get_or mail w [])
  bound_mail reports mail stop w =
      let told = flat_map option_to_list reports in
      let waits = message_times parts (flat_map (λ m. m) mail) in
      let P : ℕ → Type 0 = λ time. least_bound parts reports mail stop ≤ time in
      mail_each (λ m. P (parts.time m.event)) mail (times_all parts P (flat_map (λ m. m) mail) (all_right P told waits (least_below stop (told ++ waits)))) w

  -- and it is the last such time
  pub bound_rises : (b : ℕ) (reports : List (Option ℕ)) (mail : List (List (Signed E))) (stop : ℕ) → b ≤ stop → ((w : ℕ) → IfSome (get_or reports w None) (λ time. b ≤ time))
      → ((w : ℕ) → AllByRecursion (λ m. b ≤ parts.time m.event) (get_or mail w [])) → b ≤ least_bound parts reports mail stop
  bound_rises b reports mail stop h r m =
      let told = flat_map option_to_list reports in
      let waits = message_times parts (flat_map (λ m. m) mail) in
      let P : ℕ → Type 0 = λ time. b ≤ time in
      not_before b stop (told ++ waits) h (all_both P told waits (reports_all P reports r) (all_times parts P (flat_map (λ m. m) mail) (mail_all (λ m. P (parts.time m.event)) mail m)))

  -- a worker's report that is not before b
  pub report_rises : (b : ℕ) (report : Option ℕ) (messages : List (Signed E)) → IfSome report (λ time. b ≤ time) → AllByRecursion (λ m. b ≤ parts.time m.event) messages
      → IfSome (least_report parts report messages) (λ time. b ≤ time)
  report_rises b None [] h k = tt
  report_rises b None (m ∷ ms) h k = not_before b (parts.time m.event) (message_times parts ms) k.0 (all_times parts (λ time. b ≤ time) ms k.1)
  report_rises b (Some a) ms h k = not_before b a (message_times parts ms) h (all_times parts (λ time. b ≤ time) ms k)

  -- what is not after the least of times is after none of them
  lowered : (b s : ℕ) (ms : List (Signed E)) → b ≤ fold min s (message_times parts ms) → AllByRecursion (λ m. b ≤ parts.time m.event) ms
  lowered b s ms h = times_all parts (λ t. b ≤ t) ms (weaker (λ t. fold min s (message_times parts ms) ≤ t) (λ t. b ≤ t) (λ t k. omega arith) (message_times parts ms) (least_below s (message_times parts ms)))

  -- nothing is before the least report
  pub report_below : (b : ℕ) (report : Option ℕ) (messages : List (Signed E)) → IfSome (least_report parts report messages) (λ time. b ≤ time) → AllByRecursion (λ m. b ≤ parts.time m.event) messages
  report_below b None [] h = tt
  report_below b None (m ∷ ms) h = let k = at_most (parts.time m.event) (message_times parts ms) in (omega arith, lowered b (parts.time m.event) ms h)
  report_below b (Some a) ms h = lowered b a ms h

  -- nor is any mail before the bound
  pub bound_all : (reports : List (Option ℕ)) (mail : List (List (Signed E))) (stop : ℕ) → AllByRecursion (λ m. least_bound parts reports mail stop ≤ parts.time m.event) (flat_map (λ m. m) mail)
  bound_all reports mail stop =
      let told = flat_map option_to_list reports in
      let waits = message_times parts (flat_map (λ m. m) mail) in
      let P : ℕ → Type 0 = λ time. least_bound parts reports mail stop ≤ time in
      times_all parts P (flat_map (λ m. m) mail) (all_right P told waits (least_below stop (told ++ waits)))
