-- The least of reports and of times: what is not before it, and what it is not before.
use Rattle.std.proofs.Common.{◌≡◌, ℕ, zero, suc, ◌<◌, ◌≤◌, List, [], ◌∷◌, ◌++◌, Option, None, Some, IfSome, flat_map, fold, map, get_or, min, sym, refl, subst, ◌⊎◌, inl, inr, arith}
use Rattle.std.proofs.lemmas.Bool.{cases_Bool}
use Rattle.std.specs.List.{AllByRecursion, reduce}
use Rattle.std.specs.Option.{IsSomeAnd, option_to_list}
use Rattle.tw_rule.specs.Board.{Board, least_bound, least_report, report_of, times_among, times_of}
use Rattle.tw_sim.proofs.Counts.{in_cons, in_head}
use Rattle.tw_sim.specs.declared.machine.Signed.{Signed}
use Rattle.tw_sim.specs.Simulation.{Simulation, IsLawful, times}

-- ---- lists of numbers

module _ {X : Type 0} (P : X → Type 0) where
  all_left : (xs ys : List X) → AllByRecursion P (xs ++ ys) → AllByRecursion P xs
  all_left [] ys h = tt
  all_left (x ∷ xs) ys h = (h.0, all_left xs ys h.1)

  all_right : (xs ys : List X) → AllByRecursion P (xs ++ ys) → AllByRecursion P ys
  all_right [] ys h = h
  all_right (x ∷ xs) ys h = all_right xs ys h.1

  all_append : (xs ys : List X) → AllByRecursion P xs → AllByRecursion P ys → AllByRecursion P (xs ++ ys)
  all_append [] ys h k = k
  all_append (x ∷ xs) ys h k = (h.0, all_append xs ys h.1 k)

-- what is not beyond the least of some numbers is beyond none of them
fold_from : (b s : ℕ) (xs : List ℕ) → b ≤ fold min s xs → (b ≤ s) × AllByRecursion (λ n. b ≤ n) xs
fold_from b s [] h = (h, tt)
fold_from b s (x ∷ xs) h = (let more = fold_from b (min s x) xs h in let first = more.0 in (omega arith, (omega arith, more.1)))

-- and what is beyond none of them is not beyond their least
from_fold : (b s : ℕ) (xs : List ℕ) → b ≤ s → AllByRecursion (λ n. b ≤ n) xs → b ≤ fold min s xs
from_fold b s [] h k = h
from_fold b s (x ∷ xs) h k = (let first = k.0 in from_fold b (min s x) xs (omega arith) k.1)

-- ---- reports

module _ (P : ℕ → Type 0) where
  reports_each : (rs : List (Option ℕ)) → AllByRecursion P (flat_map option_to_list rs) → (w : ℕ) → IfSome (get_or rs w None) P
  reports_each [] h w = tt
  reports_each (None ∷ rs) h zero = tt
  reports_each (None ∷ rs) h (suc w) = reports_each rs h w
  reports_each (Some a ∷ rs) h zero = h.0
  reports_each (Some a ∷ rs) h (suc w) = reports_each rs h.1 w

  reports_all : (rs : List (Option ℕ)) → ((w : ℕ) → IfSome (get_or rs w None) P) → AllByRecursion P (flat_map option_to_list rs)
  reports_all [] h = tt
  reports_all (None ∷ rs) h = reports_all rs (λ w. h (suc w))
  reports_all (Some a ∷ rs) h = (h zero, reports_all rs (λ w. h (suc w)))

-- ---- times

module _ {S E : Type 0} (m : Simulation S E) (law : IsLawful m) where
  -- one of some messages, or of the others
  among_cons : (e : E) (x : Signed E) (xs : List (Signed E)) → 0 < times_among m e (x ∷ xs) → (e ≡ x.event) ⊎ (0 < times_among m e xs)
  among_cons e x xs h = grind arith

  among_head : (x : Signed E) (xs : List (Signed E)) → 0 < times_among m x.event (x ∷ xs)
  among_head x xs = grind arith

  module _ (P : ℕ → Type 0) where
    times_each : (xs : List (Signed E)) → AllByRecursion P (times_of m xs) → (e : E) → 0 < times_among m e xs → P (m.time e)
    times_each [] h e k = absurd (omega arith)
    times_each (x ∷ xs) h e k =
        elim (among_cons e x xs k) [ inl is ↦ subst (λ z. P (m.time z)) (sym is) h.0 | inr l ↦ times_each xs h.1 e l ]

    times_all : (xs : List (Signed E)) → ((e : E) → 0 < times_among m e xs → P (m.time e)) → AllByRecursion P (times_of m xs)
    times_all [] h = tt
    times_all (x ∷ xs) h = (h x.event (among_head x xs), times_all xs (λ e k. h e (elim (cases_Bool x.plus) [ inl b ↦ rw b (omega arith) | inr b ↦ rw b (omega arith) ])))

  -- what is not beyond the bound is beyond no report, no mail and not the stop
  pub bound_from : (b : ℕ) (y : Board E) → b ≤ least_bound m y
      → (b ≤ y.stop) × (((w : ℕ) → IfSome (report_of w y) (λ time. b ≤ time)) × ((e : E) → 0 < times_among m e y.mail → b ≤ m.time e))
  bound_from b y h =
      let told = flat_map option_to_list y.reports in
      let all = fold_from b y.stop (told ++ times_of m y.mail) h in
      let P : ℕ → Type 0 = λ n. b ≤ n in
      (all.0, (reports_each P y.reports (all_left P told (times_of m y.mail) all.1), times_each P y.mail (all_right P told (times_of m y.mail) all.1)))

  -- and what is beyond none of these is not beyond the bound
  pub from_bound : (b : ℕ) (y : Board E) → b ≤ y.stop → ((w : ℕ) → IfSome (report_of w y) (λ time. b ≤ time)) → ((e : E) → 0 < times_among m e y.mail → b ≤ m.time e)
      → b ≤ least_bound m y
  from_bound b y stop reported late =
      let told = flat_map option_to_list y.reports in
      let P : ℕ → Type 0 = λ n. b ≤ n in
      from_fold b y.stop (told ++ times_of m y.mail) stop (all_append P told (times_of m y.mail) (reports_all P y.reports reported) (times_all P y.mail late))

  -- a report with messages tells of all that it told, and of these
  pub still_told : (report : Option ℕ) (mail : List (Signed E)) (n : ℕ) → IsSomeAnd report (λ time. time ≤ n) → IsSomeAnd (least_report m report mail) (λ time. time ≤ n)
  still_told None mail n h = absurd h
  still_told (Some a) mail n h = (let all = fold_from (fold min a (times_of m mail)) a (times_of m mail) (omega arith) in let first = all.0 in omega arith)

  pub mail_told : (report : Option ℕ) (mail : List (Signed E)) (e : E) → 0 < times_among m e mail → IsSomeAnd (least_report m report mail) (λ time. time ≤ m.time e)
  mail_told None [] e h = absurd (omega arith)
  mail_told None (x ∷ xs) e h =
      let least = fold min (m.time x.event) (times_of m xs) in
      let all = fold_from least (m.time x.event) (times_of m xs) (omega arith) in
      times_each (λ n. least ≤ n) (x ∷ xs) all e h
  mail_told (Some a) mail e h =
      let least = fold min a (times_of m mail) in
      let all = fold_from least a (times_of m mail) (omega arith) in
      times_each (λ n. least ≤ n) mail all.1 e h

  -- it is not before what none of these is before
  pub told_from : (b : ℕ) (report : Option ℕ) (mail : List (Signed E)) → IfSome report (λ time. b ≤ time) → ((e : E) → 0 < times_among m e mail → b ≤ m.time e)
      → IfSome (least_report m report mail) (λ time. b ≤ time)
  told_from b None [] h late = tt
  told_from b None (x ∷ xs) h late = (let all = times_all (λ n. b ≤ n) (x ∷ xs) late in from_fold b (m.time x.event) (times_of m xs) all.0 all.1)
  told_from b (Some a) mail h late = from_fold b a (times_of m mail) h (times_all (λ n. b ≤ n) mail late)

  -- ---- the least time of events

  events_each : (P : ℕ → Type 0) (xs : List E) → AllByRecursion P (map (λ e. m.time e) xs) → (e : E) → 0 < times m e xs → P (m.time e)
  events_each P [] h e k = absurd (omega arith)
  events_each P (x ∷ xs) h e k = elim (in_cons m law e x xs k) [ inl is ↦ subst (λ z. P (m.time z)) (sym is) h.0 | inr l ↦ events_each P xs h.1 e l ]

  events_all : (P : ℕ → Type 0) (xs : List E) → ((e : E) → 0 < times m e xs → P (m.time e)) → AllByRecursion P (map (λ e. m.time e) xs)
  events_all P [] h = tt
  events_all P (x ∷ xs) h = (h x (in_head m law x xs), events_all P xs (λ e k. h e (omega arith)))

  pub events_told : (xs : List E) (e : E) → 0 < times m e xs → IsSomeAnd (reduce min (map (λ e. m.time e) xs)) (λ time. time ≤ m.time e)
  events_told [] e h = absurd (omega arith)
  events_told (x ∷ xs) e h =
      let least = fold min (m.time x) (map (λ e. m.time e) xs) in
      let all = fold_from least (m.time x) (map (λ e. m.time e) xs) (omega arith) in
      events_each (λ n. least ≤ n) (x ∷ xs) all e h

  pub events_from : (b : ℕ) (xs : List E) → ((e : E) → 0 < times m e xs → b ≤ m.time e) → IfSome (reduce min (map (λ e. m.time e) xs)) (λ time. b ≤ time)
  events_from b [] late = tt
  events_from b (x ∷ xs) late = (let all = events_all (λ n. b ≤ n) (x ∷ xs) late in from_fold b (m.time x) (map (λ e. m.time e) xs) all.0 all.1)

-- no message changes no report
pub none_told : {S E : Type 0} (m : Simulation S E) (report : Option ℕ) → least_report m report [] ≡ report
none_told m None = refl
none_told m (Some a) = refl
