-- A visit of an exchange is a visit as the rule has it.
use Rattle.std.proofs.Common.{◌≡◌, ℕ, zero, suc, ◌+◌, ◌<◌, ◌≤◌, ◌||◌, true, false, true≢false, cond, List, [], ◌∷◌, Option, Some, None, refl, ap, sym, ◌∙◌, inl, inr, arith, nat_lt}
use Rattle.std.proofs.lemmas.Bool.{cases_Bool, eqb-true, ltb-false}
use Rattle.std.proofs.lemmas.List.Sums.{sum_by-cons}
use Rattle.std.specs.List.{AllByRecursion, list_any, sum_by}
use Rattle.std.specs.Prelude.{IfSome}
use Rattle.tw_core.specs.Machine.{antimessages, messages}
use Rattle.tw_event.specs.declared.event.Event.{Event}
use Rattle.tw_exchange.proofs.Boards.{handed_home}
use Rattle.tw_exchange.proofs.Weights.{nothing_lost}
use Rattle.tw_exchange.specs.Board.{Board, IsBoard, all_mail, handed, is_early, is_for, is_homeless, visited, who, workers}
use Rattle.tw_model.proofs.Lawful.{lawful}
use Rattle.tw_model.specs.Case.{Case, IsCase, simulation}
use Rattle.tw_rule.specs.Board.{IsVisit, times_among}
use Rattle.tw_sim.specs.declared.machine.Signed.{Signed}
use Rattle.tw_sim.specs.Simulation.{one}
use Rattle.tw_table.specs.Shares.{board_of}

module _ (case : Case) (is : IsCase case) (e : Event) where
  -- messages counted by weight
  messages_sum : (xs : List (Signed Event)) → messages (simulation case) e xs ≡ sum_by (λ s. cond s.plus (one (simulation case) e s.event) 0) xs
  messages_sum [] = refl
  messages_sum (x ∷ xs) = ap (λ n. cond x.plus (one (simulation case) e x.event) 0 + n) (messages_sum xs) ∙ sym (sum_by-cons (λ s. cond s.plus (one (simulation case) e s.event) 0) x xs)

  antimessages_sum : (xs : List (Signed Event)) → antimessages (simulation case) e xs ≡ sum_by (λ s. cond s.plus 0 (one (simulation case) e s.event)) xs
  antimessages_sum [] = refl
  antimessages_sum (x ∷ xs) = ap (λ n. cond x.plus 0 (one (simulation case) e x.event) + n) (antimessages_sum xs) ∙ sym (sum_by-cons (λ s. cond s.plus 0 (one (simulation case) e s.event)) x xs)

  -- what is among messages, and is not the first, is among the others
  pub among_rest : (x : Signed Event) (xs : List (Signed Event)) → (simulation case).same e x.event ≡ false → 0 < times_among (simulation case) e (x ∷ xs)
      → 0 < times_among (simulation case) e xs
  among_rest x xs other some =
      let none : one (simulation case) e x.event ≡ 0 = ap (λ b. cond b (suc zero) zero) other in
      elim (cases_Bool x.plus) [
        | inl plus ↦ (
            let a : cond x.plus (one (simulation case) e x.event) 0 ≡ 0 = ap (λ b. cond b (one (simulation case) e x.event) 0) plus ∙ none in
            let b : cond x.plus 0 (one (simulation case) e x.event) ≡ 0 = ap (λ b. cond b 0 (one (simulation case) e x.event)) plus in
            omega arith)
        | inr minus ↦ (
            let a : cond x.plus (one (simulation case) e x.event) 0 ≡ 0 = ap (λ b. cond b (one (simulation case) e x.event) 0) minus in
            let b : cond x.plus 0 (one (simulation case) e x.event) ≡ 0 = ap (λ b. cond b 0 (one (simulation case) e x.event)) minus ∙ none in
            omega arith)
      ]

  -- an event among messages that are all for one worker is for it
  is_home : (who : ℕ → ℕ) (w : ℕ) (xs : List (Signed Event)) → AllByRecursion (λ s. is_for who w s ≡ true) xs → 0 < times_among (simulation case) e xs → who e.dst ≡ w
  is_home who w [] h some = absurd (omega arith)
  is_home who w (x ∷ xs) h some =
      let m = simulation case in
      elim (cases_Bool (m.same e x.event)) [
        | inl same ↦ ap (λ (y : Event). who y.dst) ((lawful case is).same_is e x.event same) ∙ eqb-true (who x.event.dst) w h.0
        | inr other ↦ is_home who w xs h.1 (among_rest x xs other some)
      ]

-- what is not early is reported no earlier than the bound
reported_late : (report : Option ℕ) (out : List (Signed Event)) (x : Board) → is_early out report x ≡ false → IfSome report (λ time. x.bound ≤ time)
reported_late None out x h = tt
reported_late (Some time) out x h =
    elim (cases_Bool (nat_lt time x.bound)) [
      | inl early ↦ absurd (true≢false (sym (ap (λ b. b || list_any (λ s. nat_lt s.event.time x.bound) out) early) ∙ h))
      | inr late ↦ ltb-false time x.bound late
    ]

pub is_visit : (case : Case) (x : Board) (w : ℕ) (out : List (Signed Event)) (report : Option ℕ) → IsCase case → IsBoard x → w < workers x → is_early out report x ≡ false → is_homeless out x ≡ false
    → IsVisit (simulation case) (who x) w out report (handed w out x) (board_of x) (board_of (visited w out report x))
is_visit case x w out report is board within late home =
    let y = visited w out report x in
    record {
      messages = λ e.
          let weight : Signed Event → ℕ = λ s. cond s.plus (one (simulation case) e s.event) 0 in
          let all = nothing_lost weight x w out report board within home in
          let a = messages_sum case is e (all_mail y) in
          let b = messages_sum case is e (handed w out x) in
          let c = messages_sum case is e (all_mail x) in
          let d = messages_sum case is e out in
          omega arith;
      antimessages = λ e.
          let weight : Signed Event → ℕ = λ s. cond s.plus 0 (one (simulation case) e s.event) in
          let all = nothing_lost weight x w out report board within home in
          let a = antimessages_sum case is e (all_mail y) in
          let b = antimessages_sum case is e (handed w out x) in
          let c = antimessages_sum case is e (all_mail x) in
          let d = antimessages_sum case is e out in
          omega arith;
      home = λ e some. is_home case is e (who x) w (handed w out x) (handed_home x w out board) some;
      late = reported_late report out x late;
      reports = refl;
      bound = refl;
      stop = refl;
    }
