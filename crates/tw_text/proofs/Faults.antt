-- The lowest fault of a line, test by test.
use Rattle.std.proofs.Common.{◌≡◌, ℕ, Bool, true, false, not, ◌&&◌, ◌||◌, cond, List, [], ◌∷◌, map, Option, Some, None, Result, Ok, Err, if◌then◌else◌, refl, ap, sym, ◌∙◌, inl, inr}
use Rattle.std.proofs.lemmas.Bool.{cases_Bool}
use Rattle.std.specs.List.{find, list_all}
use Rattle.std.specs.Option.{is_some}
use Rattle.std.specs.Str.Parse.{digits_value}
use Rattle.tw_model.specs.Rules.{rules_in_order}
use Rattle.tw_model.specs.declared.rule.Rule.{Rule}
use Rattle.tw_lines.specs.declared.text_fault.LineFault.{LineFault}
use Rattle.tw_lines.specs.declared.text_fault.LineFault.TheVariants as x
use Rattle.tw_lines.specs.Words.{is_number, is_plain, words}
use Rattle.tw_text.specs.declared.draft.Draft.{Draft}
use Rattle.tw_text.specs.declared.draft.Draft.TheVariants.{Start, Header}
use Rattle.tw_text.specs.declared.keyword.Keyword.{Keyword}
use Rattle.tw_text.specs.declared.keyword.Keyword.TheVariants as keyword
use Rattle.tw_text.specs.Drafts.{of_rule, step_said}
use Rattle.tw_text.specs.FaultTable.{breaks, draft_after, fault_of, from_second, has_no_number, holds, if_said, is_done, is_misplaced, is_no_statement, is_start, said_after, version_in}
use Rattle.tw_text.specs.FaultTable.{unless_fault, with_header, with_line, with_said, with_statement}
use Rattle.tw_text.specs.Statements.{Statement, scene_line, takes_words, keyword_before, keyword_of, numbers_of, scene_with, statement_with, statement_of}
use Rattle.tw_text.specs.Versions.{version_of}
use Rattle.tw_text.proofs.Early.{IsToldEarly, early_if, early_on}

-- the lowest rule, among the faults
find_rules : (test : LineFault → Bool) (broken : Rule → Bool) → ((r : Rule) → test (x.Rule r) ≡ broken r) → (rs : List Rule)
    → find test (map (λ r. x.Rule r) rs) ≡ of_rule (find broken rs)
find_rules test broken same [] = refl
find_rules test broken same (r ∷ rs) =
    elim (cases_Bool (broken r)) [
      | inl t ↦ rw (same r, t) refl
      | inr f ↦ rw (same r, f) (find_rules test broken same rs)
    ]

-- the first of six tests that holds, or what comes after
abbrev first_of_six : Bool → Bool → Bool → Bool → Bool → Bool → Option LineFault → Option LineFault
first_of_six byte header word number order end rest =
    cond byte (Some x.Byte) (cond header (Some x.Header) (cond word (Some x.Word) (cond number (Some x.Number) (cond order (Some x.Order) (cond end (Some x.End) rest)))))

-- the rows above those of the rules, of a line that says this
abbrev rows : Draft → Bool → Bool → Bool → Result Statement LineFault → Option LineFault → Option LineFault
rows d ended plain header said =
    first_of_six (not plain) (is_start d && not header) (from_second d (is_no_statement said)) (from_second d (has_no_number said))
    (from_second d (if_said said (is_misplaced d))) (not ended || is_done d)

-- the rules that the line breaks
abbrev breaks_if_said : Draft → Result Statement LineFault → Rule → Bool
breaks_if_said d said r = from_second d (if_said said (λ s. breaks d s r))

-- the table, by what the line says
abbrev form : Draft → Bool → Bool → Bool → Result Statement LineFault → Option LineFault
form d ended plain header said = rows d ended plain header said (of_rule (find (breaks_if_said d said) rules_in_order))

fault_of-form : (d : Draft) (line : List ℕ) (ended : Bool)
    → fault_of d line ended ≡ form d ended (list_all is_plain line) (is_some (version_of line)) (said_after d line)
unfolding fault_of
fault_of-form d line ended =
    let said = said_after d line in
    ap (rows d ended (list_all is_plain line) (is_some (version_of line)) said) (find_rules (holds d line ended) (breaks_if_said d said) (λ r. refl) rules_in_order)

pub plain_fault : (d : Draft) (line : List ℕ) (ended : Bool) → list_all is_plain line ≡ false → fault_of d line ended ≡ Some x.Byte
plain_fault d line ended h = fault_of-form d line ended ∙ rw h refl

pub plain_step : (d : Draft) (line : List ℕ) (ended : Bool) → list_all is_plain line ≡ false → draft_after d line ended ≡ Err x.Byte
plain_step d line ended h = ap (λ fault. unless_fault fault (with_line d line)) (plain_fault d line ended h)

-- a line that was read is plain
pub plain-from_step : (d after : Draft) (line : List ℕ) (ended : Bool) → draft_after d line ended ≡ Ok after → list_all is_plain line ≡ true
plain-from_step d after line ended h =
    elim (cases_Bool (list_all is_plain line)) [
      | inl t ↦ t
      | inr f ↦ absurd (let e = sym (plain_step d line ended f) ∙ h in cc)
    ]

-- ---- line 1

-- what line 1 gives, by the version of which it is the header
abbrev pub started : Option ℕ → Bool → Result Draft LineFault
started None ended = Err x.Header
started (Some version) ended = if ended then Ok (Header version) else Err x.End

form-start : (found : Option ℕ) (ended : Bool) (said : Result Statement LineFault) → unless_fault (form Start ended true (is_some found) said) (with_header found) ≡ started found ended
form-start None ended said = refl
form-start (Some version) true said = refl
form-start (Some version) false said = refl

-- the step of line 1, by what was told of the header
pub start_step : (line : List ℕ) (found : Option ℕ) (ended : Bool) → list_all is_plain line ≡ true → found ≡ version_of line → draft_after Start line ended ≡ started found ended
unfolding with_line
start_step line found ended plain is =
    ap (λ fault. unless_fault fault (with_header (version_of line))) (fault_of-form Start line ended ∙ rw plain refl)
    ∙ form-start (version_of line) ended (said_after Start line) ∙ ap (λ found. started found ended) (sym is)

-- ---- the lines behind it

scene_early : (k : Keyword) (ns : List ℕ) → IsToldEarly (scene_with k ns)
scene_early keyword.Fail (t ∷ a ∷ b ∷ []) = tt
scene_early keyword.Restore (t ∷ a ∷ b ∷ []) = tt
scene_early keyword.Swap (t ∷ v ∷ i ∷ j ∷ []) = tt
scene_early keyword.Forbid (t ∷ v ∷ k ∷ []) = tt
scene_early keyword.Allow (t ∷ v ∷ k ∷ []) = tt
scene_early k ns = tt

said_early : (k : Keyword) (ns : List ℕ) → IsToldEarly (statement_with k ns)
said_early keyword.Nodes (n ∷ []) = tt
said_early keyword.Link (a ∷ b ∷ delay ∷ []) = tt
said_early keyword.TwoWayLink (a ∷ b ∷ delay ∷ back ∷ []) = tt
said_early keyword.Path (v ∷ path) = tt
said_early keyword.End [] = tt
said_early k ns = early_on (scene_with k ns) (λ s. Ok (scene_line s)) (scene_early k ns) (λ s. tt)

early_before : (found : Option Keyword) (ws : List (List ℕ)) → IsToldEarly (keyword_before found ws)
early_before None ws = tt
early_before (Some k) ws = early_if (takes_words k ws) (Ok k) (Err x.Word) tt tt

pub early : (version : ℕ) (ws : List (List ℕ)) → IsToldEarly (statement_of version ws)
unfolding statement_of
early version [] = tt
early version (word ∷ ws) =
    early_on (keyword_before (keyword_of version word) ws) _ (early_before (keyword_of version word) ws) (λ k.
    early_on (numbers_of ws) _ (early_if (list_all is_number ws) (Ok (map (digits_value 10) ws)) (Err x.Number) tt tt) (λ ns. said_early k ns))

form-later : (d : Draft) (ended header : Bool) (said : Result Statement LineFault) → IsToldEarly said → is_start d ≡ false
    → unless_fault (form d ended true header said) (with_said with_statement d said) ≡ step_said d said ended
form-later d ended header (Ok s) early h = rw h refl
form-later d ended header (Err x.Word) early h = rw h refl
form-later d ended header (Err x.Number) early h = rw h refl
form-later d ended header (Err fault) early h = absurd early

with_line-later : (d : Draft) (line : List ℕ) → is_start d ≡ false → with_line d line ≡ with_said with_statement d (said_after d line)
unfolding with_line
with_line-later Start line h = absurd (cc)
with_line-later d line h = refl

pub later_step : (d : Draft) (line : List ℕ) (ended : Bool) → is_start d ≡ false → list_all is_plain line ≡ true
    → draft_after d line ended ≡ step_said d (said_after d line) ended
later_step d line ended later plain =
    rw (fault_of-form d line ended, with_line-later d line later, plain)
    (form-later d ended (is_some (version_of line)) (said_after d line) (early (version_in d) (words line)) later)
