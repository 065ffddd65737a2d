-- The line of a statement.
use Rattle.std.proofs.Common.{◌≡◌, ℕ, true, false, None, Ok, refl, ap, ◌∙◌, map, decimal}
use Rattle.std.specs.List.{find, list_all}
use Rattle.tw_model.specs.Rules.{rules_in_order}
use Rattle.tw_lines.specs.Words.{is_plain, words}
use Rattle.tw_lines.proofs.Splits.{join-plain, words-join}
use Rattle.tw_text.specs.declared.draft.Draft.{Draft}
use Rattle.tw_text.specs.Drafts.{step_said}
use Rattle.tw_text.specs.FaultTable.{breaks, draft_after, is_done, is_misplaced, is_start, version_in, with_statement}
use Rattle.tw_text.specs.Statements.{Statement, statement_of, word_of}
use Rattle.tw_text.specs.Text.{keyword_in, line_of, numbers_in, words_of}
use Rattle.tw_text.proofs.Faults.{later_step}
use Rattle.tw_text.proofs.Said.{IsSayable, statement_of-words, words-are}

words-line : (version : ℕ) (s : Statement) → IsSayable version s → words (line_of version s) ≡ words_of version s
words-line version s h = words-join (word_of (keyword_in version s)) (map decimal (numbers_in version s)) (words-are version s h)

plain-line : (version : ℕ) (s : Statement) → IsSayable version s → list_all is_plain (line_of version s) ≡ true
plain-line version s h = join-plain (word_of (keyword_in version s)) (map decimal (numbers_in version s)) (words-are version s h)

-- a statement that may stand here and breaks no rule
pub record Fits (d : Draft) (s : Statement) : Type 0 where
  pub later : is_start d ≡ false
  pub placed : is_misplaced d s ≡ false
  pub unended : is_done d ≡ false
  pub kept : find (breaks d s) rules_in_order ≡ None

pub line-step : (d : Draft) (s : Statement) → IsSayable (version_in d) s → Fits d s → draft_after d (line_of (version_in d) s) true ≡ Ok (with_statement d s)
line-step d s h f =
    let version = version_in d in
    later_step d (line_of version s) true f.later (plain-line version s h)
    ∙ ap (λ said. step_said d said true) (ap (statement_of version) (words-line version s h) ∙ statement_of-words version s h) ∙ rw (f.placed, f.unended, f.kept) refl
