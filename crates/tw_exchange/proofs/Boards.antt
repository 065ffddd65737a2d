-- What holds of a board when it is opened and after a visit.
use Rattle.std.proofs.Common.{arith, ℕ, zero, suc, ◌≡◌, ◌<◌, ◌≤◌, Bool, true, false, cond, List, [], ◌∷◌, Option}
use Rattle.std.proofs.Common.{None, Some, IfSome, length, map, nat_lt, replicate, set, get_or, refl, ap, sym, ◌∙◌, subst, inl, inr}
use Rattle.std.proofs.lemmas.Bool.{cases_Bool, cases_eq, ltb-false, ltb-true}
use Rattle.std.proofs.lemmas.List.{get_or-set_other, get_or-set_same, get_or_past, length-replicate, length-set}
use Rattle.std.specs.List.{AllByRecursion, filter, list_any}
use Rattle.std.specs.Option.{option_map_or}
use Rattle.tw_exchange.specs.AnyBoard.{AnyBoard, IsBoard, deposited, handed, is_early, is_for, least_report, mail_of, new_board, sent_to, visited, who, worker_for, workers}
use Rattle.tw_exchange.specs.Rows.{soonest_of}
use Rattle.tw_exchange.specs.declared.mail.TheConstants.{NEVER}
use Rattle.tw_exchange.proofs.Followed.{followed_of, length_followed}
use Rattle.tw_exchange.proofs.Homes.{neither}
use Rattle.tw_exchange.proofs.Least.{all_both, bound_mail, bound_reports, bound_rises, bound_stop, report_below, report_rises}
use Rattle.tw_process.specs.Parts.{Parts}
use Rattle.tw_sim.specs.declared.machine.Signed.{Signed}

-- ---- a new board

no_mail : {X : Type 0} (n w : ℕ) → (let none : List X = [] in get_or (replicate n none) w none ≡ none)
no_mail zero w = refl
no_mail (suc n) zero = refl
no_mail (suc n) (suc w) = no_mail n w

first_reports : (n b w : ℕ) → IfSome (get_or (replicate n (Some b)) w None) (λ time. b ≤ time)
first_reports zero b w = tt
first_reports (suc n) b zero = omega arith
first_reports (suc n) b (suc w) = first_reports n b w

module _ {E : Type 0} (parts : Parts E) where
  pub opening_board : (owners : Option (List ℕ)) (n b stop : ℕ) → b ≤ stop → IsBoard parts (record (new_board n b stop) { owners = owners })
  opening_board owners n b stop h =
      let none : List (Signed E) = [] in
      let long = length-replicate n none in
      let told = length-replicate n (Some b) in
      record {
        mails = long ∙ sym told;
        home = λ w. subst (AllByRecursion (λ m. is_for parts (who {E = E} (record (new_board n b stop) { owners = owners })) w m ≡ true)) (sym (no_mail n w)) tt;
        late = λ w. subst (AllByRecursion (λ m. b ≤ parts.time m.event)) (sym (no_mail n w)) tt;
        reported = first_reports n b;
        stop = h;
      }

  pub opening_soonest : (n : ℕ) → replicate n NEVER ≡ map (soonest_of parts) (replicate n [])
  opening_soonest zero = refl
  opening_soonest (suc n) = ap (λ xs. NEVER ∷ xs) (opening_soonest n)

-- ---- a visit

passing : {X : Type 0} (p : X → Bool) (xs : List X) → AllByRecursion (λ x. p x ≡ true) (filter p xs)
passing p [] = tt
passing p (x ∷ xs) =
    elim (cases_Bool (p x)) [
      | inl pass ↦ subst (λ b. AllByRecursion (λ x. p x ≡ true) (cond b (x ∷ filter p xs) (filter p xs))) (sym pass) (pass, passing p xs)
      | inr fail ↦ subst (λ b. AllByRecursion (λ x. p x ≡ true) (cond b (x ∷ filter p xs) (filter p xs))) (sym fail) (passing p xs)
    ]

pub kept : {X : Type 0} (P : X → Type 0) (p : X → Bool) (xs : List X) → AllByRecursion P xs → AllByRecursion P (filter p xs)
kept P p [] h = tt
kept P p (x ∷ xs) h = elim (p x) as (λ b. AllByRecursion P (cond b (x ∷ filter p xs) (filter p xs))) [ true ↦ (h.0, kept P p xs h.1) | false ↦ kept P p xs h.1 ]

module _ {E : Type 0} (parts : Parts E) where
  -- what holds of all mail before, and of all that is deposited, holds of the mail that is left
  left_all : (P : Signed E → Type 0) (w : ℕ) (out : List (Signed E)) (x : AnyBoard E) → length x.mail ≡ workers x → (k : ℕ) → AllByRecursion P (mail_of k x)
      → AllByRecursion P (sent_to parts (who x) k out) → AllByRecursion P (get_or (set (deposited parts out x) w []) k [])
  left_all P w out x long k h new =
      let n = who x in
      let mail = deposited parts out x in
      let same = length_followed parts n 0 out x.mail in
      elim (cases_eq k w) [
        | inl is ↦ (elim (cases_Bool (nat_lt w (length mail))) [
          | inl below ↦ subst (AllByRecursion P) (sym (ap (λ j. get_or (set mail w []) j []) is ∙ get_or-set_same mail w [] [] (ltb-true w (length mail) below))) tt
          | inr past ↦ (let p = ltb-false w (length mail) past in subst (AllByRecursion P) (sym (get_or_past (set mail w []) k [] (let l = length-set mail w [] in omega arith))) tt)
        ])
        | inr ne ↦ subst (AllByRecursion P) (sym (get_or-set_other mail w k [] [] ne)) (elim (cases_Bool (nat_lt k (length x.mail))) [
          | inl below ↦ subst (AllByRecursion P) (sym (followed_of parts n out x.mail k (ltb-true k (length x.mail) below))) (all_both P (mail_of k x) (sent_to parts n k out) h new)
          | inr past ↦ (let p = ltb-false k (length x.mail) past in subst (AllByRecursion P) (sym (get_or_past mail k [] (omega arith))) tt)
        ])
      ]

  pub visited_board : (w : ℕ) (out : List (Signed E)) (report : Option ℕ) (x : AnyBoard E) → IsBoard parts x → IsBoard parts (visited parts w out report x)
  visited_board w out report x h =
      let mail = set (deposited parts out x) w [] in
      let told = least_report parts report (handed parts w out x) in
      let reports = set x.reports w told in
      let as_many : length reports ≡ workers x = length-set x.reports w told in
      let same = length_followed parts (who x) 0 out x.mail in
      record {
        mails = length-set (deposited parts out x) w [] ∙ (same ∙ (h.mails ∙ sym as_many));
        home = λ k. subst (λ n. AllByRecursion (λ m. is_for parts (worker_for x.owners n) k m ≡ true) (get_or mail k [])) (sym as_many)
            (left_all (λ m. is_for parts (who x) k m ≡ true) w out x h.mails k (h.home k) (passing (is_for parts (who x) k) out));
        late = bound_mail parts reports mail x.stop;
        reported = bound_reports parts reports mail x.stop;
        stop = bound_stop parts reports mail x.stop;
      }

  none_before : (b : ℕ) (out : List (Signed E)) → list_any (λ m. nat_lt (parts.time m.event) b) out ≡ false → AllByRecursion (λ m. b ≤ parts.time m.event) out
  none_before b [] h = tt
  none_before b (m ∷ ms) h =
      let both = neither (nat_lt (parts.time m.event) b) (list_any (λ m. nat_lt (parts.time m.event) b) ms) h in
      (ltb-false (parts.time m.event) b both.0, none_before b ms both.1)

report_late : (b : ℕ) (report : Option ℕ) → option_map_or (λ time. nat_lt time b) report false ≡ false → IfSome report (λ time. b ≤ time)
report_late b None h = tt
report_late b (Some a) h = ltb-false a b h

-- another report that is not before b
pub reports_rise : (b : ℕ) (rs : List (Option ℕ)) (w : ℕ) (r : Option ℕ) → IfSome r (λ time. b ≤ time) → ((k : ℕ) → IfSome (get_or rs k None) (λ time. b ≤ time))
    → (k : ℕ) → IfSome (get_or (set rs w r) k None) (λ time. b ≤ time)
reports_rise b [] w r h k j = k j
reports_rise b (x ∷ xs) zero r h k zero = h
reports_rise b (x ∷ xs) zero r h k (suc j) = k (suc j)
reports_rise b (x ∷ xs) (suc w) r h k zero = k zero
reports_rise b (x ∷ xs) (suc w) r h k (suc j) = reports_rise b xs w r h (λ i. k (suc i)) j

module _ {E : Type 0} (parts : Parts E) where
  -- the bound does not fall where nothing that is told is before it
  pub visited_rises : (w : ℕ) (out : List (Signed E)) (report : Option ℕ) (x : AnyBoard E) → IsBoard parts x → is_early parts out report x ≡ false → x.bound ≤ (visited parts w out report x).bound
  visited_rises w out report x h late =
      let b = x.bound in
      let n = who x in
      let both = neither (option_map_or (λ time. nat_lt time b) report false) (list_any (λ m. nat_lt (parts.time m.event) b) out) late in
      let P : Signed E → Type 0 = λ m. b ≤ parts.time m.event in
      let all = none_before parts b out both.1 in
      let new = λ (k : ℕ). kept P (is_for parts n k) out all in
      let mine = report_rises parts b report (handed parts w out x) (report_late b report both.0) (all_both P (mail_of w x) (sent_to parts n w out) (h.late w) (new w)) in
      bound_rises parts b (set x.reports w (least_report parts report (handed parts w out x))) (set (deposited parts out x) w []) x.stop h.stop
      (reports_rise b x.reports w (least_report parts report (handed parts w out x)) mine h.reported)
      (λ k. left_all parts P w out x h.mails k (h.late k) (new k))

-- ---- what is handed out

pub handed_home : {E : Type 0} {parts : Parts E} (x : AnyBoard E) (w : ℕ) (out : List (Signed E)) → IsBoard parts x → AllByRecursion (λ m. is_for parts (who x) w m ≡ true) (handed parts w out x)
handed_home {parts} x w out h = all_both (λ m. is_for parts (who x) w m ≡ true) (mail_of w x) (sent_to parts (who x) w out) (h.home w) (passing (is_for parts (who x) w) out)

module _ {E : Type 0} (parts : Parts E) where
  pub handed_late : (x : AnyBoard E) (w : ℕ) (out : List (Signed E)) (report : Option ℕ) → w < workers x → AllByRecursion (λ m. (visited parts w out report x).bound ≤ parts.time m.event) (handed parts w out x)
  handed_late x w out report below =
      let y = visited parts w out report x in
      let told = least_report parts report (handed parts w out x) in
      report_below parts y.bound report (handed parts w out x)
      (subst (λ r. IfSome r (λ time. y.bound ≤ time)) (get_or-set_same x.reports w told None below) (bound_reports parts y.reports y.mail x.stop w))
