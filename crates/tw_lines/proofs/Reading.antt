-- The part of a text that is left to read.
use Rattle.std.proofs.Common.{◌≡◌, ℕ, suc, ◌+◌, ◌<◌, ◌==◌, nat_lt, true, false, List, [], ◌∷◌, length, take, drop, Some, None, Result, Ok, Err, refl, ap, sym, ◌∙◌, inl, inr, arith, add-one}
use Rattle.std.proofs.lemmas.Bool.{cases_Bool}
use Rattle.std.proofs.lemmas.Bool.Decides.{nat_tests}
use Rattle.std.proofs.lemmas.List.Elements.{All-from_get_or}
use Rattle.std.proofs.lemmas.List.Splits.{length-slice_split, slice_split_first, slice_split_none}
use Rattle.std.proofs.lemmas.List.Sums.{fails_before_first}
use Rattle.std.specs.List.{position, position_or_len}
use Rattle.tw_model.specs.declared.memory.OrMemory.{OrMemory}
use Rattle.tw_model.specs.declared.memory.OrMemory.TheVariants.{Fault, Memory}
use Rattle.tw_model.specs.Memory.{IsUnlessMemory, map_fault}
use Rattle.tw_lines.specs.declared.text_fault.LineFault.{LineFault}
use Rattle.tw_lines.specs.declared.text_fault.TextFault.{TextFault}
use Rattle.tw_lines.specs.LineReader.{TextReader}
use Rattle.tw_lines.specs.Reading.{at_line, fault_at, finishes, reads, ◌>>=◌}
use Rattle.tw_lines.specs.Words.{parts_of}

-- the first part ends at the first line end
parts-Some : (text : List ℕ) (i : ℕ) → position (λ b. b == 10) text ≡ Some i → parts_of text ≡ take i text ∷ parts_of (drop (i + 1) text)
parts-Some text i h =
    let n = position_or_len (λ b. b == 10) text in
    elim (cases_Bool (nat_lt n (length text))) [
      | inl t ↦ let g : Some n ≡ Some i = rw t at h in let e : n ≡ i = cc in slice_split_first (λ b. b == 10) text 0 (grind (arith, nat_tests)) ∙ ap (λ n. take n text ∷ parts_of (drop (n + 1) text)) e
      | inr f ↦ absurd (let g : None ≡ Some i = rw f at h in cc)
    ]

-- where there is no line end, the text is the one part
parts-None : (text : List ℕ) → position (λ b. b == 10) text ≡ None → parts_of text ≡ text ∷ []
parts-None text h =
    let n = position_or_len (λ b. b == 10) text in
    elim (cases_Bool (nat_lt n (length text))) [
      | inl t ↦ absurd (let g : Some n ≡ None = rw t at h in cc)
      | inr f ↦ slice_split_none (λ b. b == 10) text (All-from_get_or (λ b. (b == 10) ≡ false) text 0 (λ i m. fails_before_first (λ b. b == 10) text i 0 (grind (arith, nat_tests))))
    ]

pub reads-more : {D A : Type 0} (r : TextReader D A) (d : D) (k : ℕ) (line : List ℕ) (parts : List (List ℕ)) → 0 < length parts
    → reads r d k (line ∷ parts) ≡ (at_line k (r.step d line true) >>= λ after. reads r after (suc k) parts)
unfolding reads
reads-more r d k line [] h = absurd (omega arith)
reads-more r d k line (next ∷ parts) h = refl

reads-line : {D A : Type 0} (r : TextReader D A) (d : D) (k : ℕ) (text : List ℕ) (i : ℕ) → position (λ b. b == 10) text ≡ Some i
    → reads r d k (parts_of text) ≡ (at_line k (r.step d (take i text) true) >>= λ after. reads r after (suc k) (parts_of (drop (i + 1) text)))
reads-line r d k text i h =
    let n = length-slice_split (λ b. b == 10) (drop (i + 1) text) in
    ap (reads r d k) (parts-Some text i h) ∙ reads-more r d k (take i text) (parts_of (drop (i + 1) text)) (omega arith)

-- one line without a fault
pub read_on : {D A : Type 0} (r : TextReader D A) (d next : D) (k : ℕ) (text : List ℕ) (i : ℕ) (due : Result A TextFault) → position (λ b. b == 10) text ≡ Some i
    → r.step d (take i text) true ≡ Ok next → reads r d k (parts_of text) ≡ due → reads r next (k + 1) (parts_of (drop (i + 1) text)) ≡ due
read_on r d next k text i due h e was = sym (reads-line r d k text i h ∙ rw (e, add-one k) refl) ∙ was

-- a line with a fault
pub stopped : {D A : Type 0} (r : TextReader D A) (d : D) (k : ℕ) (text : List ℕ) (i : ℕ) (fault : OrMemory LineFault) → position (λ b. b == 10) text ≡ Some i
    → IsUnlessMemory (Err fault) (r.step d (take i text) true) → IsUnlessMemory {T = A} (Err (map_fault (fault_at k) fault)) (reads r d k (parts_of text))
stopped r d k text i Memory h e = tt
stopped r d k text i (Fault f) h e = reads-line r d k text i h ∙ rw e refl

-- no line end is left
pub read_all : {D A : Type 0} (r : TextReader D A) (d : D) (k : ℕ) (text : List ℕ) → position (λ b. b == 10) text ≡ None → reads r d k (parts_of text) ≡ finishes r d k text
unfolding reads
read_all r d k text h = ap (reads r d k) (parts-None text h)
