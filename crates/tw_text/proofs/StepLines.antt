-- The lowest fault of a line of a step text, test by test, and what a line without a fault adds.
use Rattle.std.proofs.Common.{◌≡◌, ℕ, ◌^◌, ◌==◌, nat_lt, Bool, true, false, not, ◌||◌, cond, List, [], ◌∷◌, length, codes, bytes_eq}
use Rattle.std.proofs.Common.{if◌then◌else◌, Option, Some, None, Result, Ok, Err, refl, ap, sym, ◌∙◌, inl, inr}
use Rattle.std.proofs.lemmas.Bool.{cases_Bool}
use Rattle.std.specs.List.{list_all}
use Rattle.std.specs.Str.Parse.{digits_value}
use Rattle.tw_model.specs.declared.rule.Rule.TheVariants.{TooMany}
use Rattle.tw_lines.specs.declared.text_fault.LineFault.{LineFault}
use Rattle.tw_lines.specs.declared.text_fault.LineFault.TheVariants as x
use Rattle.tw_lines.specs.Reading.{◌>>=◌}
use Rattle.tw_lines.specs.Words.{is_number, is_plain, number_of, words}
use Rattle.tw_lines.proofs.Steps.{bound}
use Rattle.tw_text.specs.declared.step_text.StepDraft.{StepDraft}
use Rattle.tw_text.specs.declared.step_text.StepLine.{StepLine}
use Rattle.tw_text.specs.FaultTable.{has_no_number, if_said, is_no_statement, unless_fault, with_said}
use Rattle.tw_text.specs.StepText.{after_line, after_said, after_words, is_ended, is_past_most, router_of, said_by, said_with, step_fault, with_step_line}
use Rattle.tw_text.proofs.Early.{IsToldEarly, early_if, early_on}

-- the table, by what the line says
abbrev form : StepDraft → Bool → Bool → Result StepLine LineFault → Option LineFault
form d ended plain said =
    cond (not plain) (Some x.Byte) (cond (is_no_statement said) (Some x.Word) (cond (has_no_number said) (Some x.Number)
    (cond (not ended || is_ended d) (Some x.End) (cond (if_said said (is_past_most d)) (Some (x.Rule TooMany)) None))))

step_fault-form : (d : StepDraft) (l : List ℕ) (ended : Bool) → step_fault d l ended ≡ form d ended (list_all is_plain l) (said_by (words l))
unfolding step_fault
step_fault-form d l ended = refl

no_plain : (d : StepDraft) (l : List ℕ) (ended : Bool) → list_all is_plain l ≡ false → step_fault d l ended ≡ Some x.Byte
no_plain d l ended h = step_fault-form d l ended ∙ rw h refl

a_plain : (d : StepDraft) (l : List ℕ) (ended : Bool) → list_all is_plain l ≡ true → step_fault d l ended ≡ form d ended true (said_by (words l))
a_plain d l ended h = step_fault-form d l ended ∙ rw h refl

pub not_plain : (d : StepDraft) (l : List ℕ) (ended : Bool) → list_all is_plain l ≡ false → after_line d l ended ≡ Err x.Byte
unfolding after_line
not_plain d l ended h = ap (λ fault. unless_fault fault (with_said with_step_line d (said_by (words l)))) (no_plain d l ended h)

early_number : (w : List ℕ) → IsToldEarly (number_of w)
early_number w = early_if (is_number w) (Ok (digits_value 10 w)) (Err x.Number) tt tt

early_router : (w : List ℕ) → IsToldEarly (router_of w)
early_router w = early_on (number_of w) _ (early_number w) (λ r. early_if (nat_lt r (2 ^ 32)) (Ok r) (Err x.Number) tt tt)

early_with : (w v : List ℕ) → IsToldEarly (said_with w v)
early_with w v =
    let router = early_router v in
    early_if (length v == 0) _ _ tt
    (early_if (bytes_eq w (codes "handle")) _ _ (early_on (router_of v) _ router (λ r. tt))
    (early_if (bytes_eq w (codes "undo")) _ _ (early_on (router_of v) _ router (λ r. tt))
    (early_if (bytes_eq w (codes "deliver")) _ _ (early_on (number_of v) _ (early_number v) (λ k. tt))
    (early_if (bytes_eq w (codes "commit")) _ _ (early_on (router_of v) _ router (λ r. tt))
    (early_if (bytes_eq w (codes "release")) _ _ (early_on (router_of v) _ router (λ r. tt)) tt)))))

early : (ws : List (List ℕ)) → IsToldEarly (said_by ws)
unfolding said_by
early [] = tt
early (w ∷ []) = early_if (bytes_eq w (codes "bound")) _ _ tt (early_if (bytes_eq w (codes "end")) _ _ tt tt)
early (w ∷ v ∷ []) = early_with w v
early (w ∷ v ∷ u ∷ ws) = tt

-- ---- a plain line

told : (end past : Bool) (next : StepDraft)
    → unless_fault (cond end (Some x.End) (cond past (Some (x.Rule TooMany)) None)) next ≡ (if end then Err x.End else if past then Err (x.Rule TooMany) else Ok next)
told true past next = refl
told false true next = refl
told false false next = refl

form-plain : (d : StepDraft) (ended : Bool) (said : Result StepLine LineFault) → IsToldEarly said
    → unless_fault (form d ended true said) (with_said with_step_line d said) ≡ (said >>= λ said. after_said d said ended)
form-plain d ended (Ok s) h = told (not ended || is_ended d) (is_past_most d s) (with_step_line d s)
form-plain d ended (Err x.Word) h = refl
form-plain d ended (Err x.Number) h = refl
form-plain d ended (Err fault) h = absurd h

pub plain_line : (d : StepDraft) (l : List ℕ) (ended : Bool) → list_all is_plain l ≡ true → after_line d l ended ≡ after_words d (words l) ended
unfolding after_line
plain_line d l ended h =
    ap (λ fault. unless_fault fault (with_said with_step_line d (said_by (words l)))) (a_plain d l ended h) ∙ form-plain d ended (said_by (words l)) (early (words l))

-- ---- a line without a fault

-- what it says may stand here, and is added
pub record IsTaken (d after : StepDraft) (l : List ℕ) (said : StepLine) : Type 0 where
  pub says : said_by (words l) ≡ Ok said
  pub unended : is_ended d ≡ false
  pub few : is_past_most d said ≡ false
  pub same : with_step_line d said ≡ after

pub record Takes (d after : StepDraft) (l : List ℕ) : Type 0 where
  pub plain : list_all is_plain l ≡ true
  pub said : StepLine
  pub taken : IsTaken d after l said

was_told : (end past : Bool) (next after : StepDraft) → (if end then Err x.End else if past then Err (x.Rule TooMany) else Ok next) ≡ Ok after → (end ≡ false) × (past ≡ false) × (next ≡ after)
was_told true past next after h = absurd (cc)
was_told false true next after h = absurd (cc)
was_told false false next after h = (refl, refl, let r : Result StepDraft LineFault = Ok next in let g : r ≡ Ok after = h in cc)

pub takes : (d after : StepDraft) (l : List ℕ) → after_line d l true ≡ Ok after → Takes d after l
takes d after l h =
    elim (cases_Bool (list_all is_plain l)) [
      | inl t ↦ (let b = bound (said_by (words l)) (λ said. after_said d said true) after (sym (plain_line d l true t) ∙ h) in
          let w = was_told (is_ended d) (is_past_most d b.value) (with_step_line d b.value) after b.next in
          record { plain = t; said = b.value; taken = record { says = b.was; unended = w.0; few = w.1; same = w.2 } })
      | inr f ↦ absurd (let e = sym (not_plain d l true f) ∙ h in cc)
    ]

pub line_taken : (d : StepDraft) (l : List ℕ) (said : StepLine) → list_all is_plain l ≡ true → said_by (words l) ≡ Ok said → is_ended d ≡ false → is_past_most d said ≡ false
    → after_line d l true ≡ Ok (with_step_line d said)
line_taken d l said plain says unended few =
    plain_line d l true plain ∙ ap (λ r. r >>= λ said. after_said d said true) says ∙ rw (unended, few) refl
