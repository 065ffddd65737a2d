-- Texts that are read without a fault: lines that follow one another, and nothing behind the last line end.
use Rattle.std.proofs.Common.{◌≡◌, ℕ, suc, ◌<◌, ◌==◌, true, false, List, [], ◌∷◌, ◌++◌, length, Option, Some, None, Result, Ok, Err, refl, ap, sym, ◌∙◌, append_assoc, inl, inr, arith}
use Rattle.std.proofs.lemmas.Bool.{cases_Bool}
use Rattle.std.proofs.lemmas.Bool.Decides.{nat_tests}
use Rattle.std.proofs.lemmas.List.{append-nil, length-append}
use Rattle.std.specs.List.{AllByRecursion, flat_map, list_all}
use Rattle.tw_lines.specs.declared.text_fault.LineFault.{LineFault}
use Rattle.tw_lines.specs.declared.text_fault.LineFault.TheVariants.{End}
use Rattle.tw_lines.specs.declared.text_fault.TextFault.{TextFault}
use Rattle.tw_lines.specs.LineReader.{TextReader}
use Rattle.tw_lines.specs.Reading.{at_line, fault_at, finishes, read_from, reads, whole_at}
use Rattle.tw_lines.specs.Words.{ended_line, is_plain, parts_of}
use Rattle.tw_lines.proofs.Reading.{reads-more}
use Rattle.tw_lines.proofs.Splits.{lines-text, parts-lines}
use Rattle.tw_lines.proofs.Steps.{bound}

-- reading these lines, one after another, leads from d to last
abbrev pub Follows : {D A : Type 0} → TextReader D A → D → List (List ℕ) → D → Type 0
Follows r d [] last = d ≡ last
Follows r d (line ∷ lines) last = ((after : _) × (r.step d line true ≡ Ok after) × Follows r after lines last)

-- these parts are lines that lead from d to what gives a, and nothing behind them
pub record AreWholeLines {D A : Type 0} (r : TextReader D A) (d : D) (parts : List (List ℕ)) (a : A) : Type 0 where
  pub lines : List (List ℕ)
  pub last : D
  pub same : parts ≡ lines ++ [] ∷ []
  pub follows : Follows r d lines last
  pub whole : r.whole last ≡ Some a

line_ok : {A : Type 0} (k : ℕ) (given : Result A LineFault) (a : A) → at_line k given ≡ Ok a → given ≡ Ok a
line_ok k (Ok b) a h = let r : Result _ TextFault = Ok b in let g : r ≡ Ok a = h in let same : b ≡ a = cc in ap (λ a. Ok a) same
line_ok k (Err fault) a h = absurd (cc)

whole_was : {A : Type 0} (k : ℕ) (whole : Option A) (a : A) → whole_at k whole ≡ Ok a → whole ≡ Some a
whole_was k (Some b) a h = let r : Result _ TextFault = Ok b in let g : r ≡ Ok a = h in let same : b ≡ a = cc in ap (λ a. Some a) same
whole_was k None a h = absurd (cc)

no_length : (rest : List ℕ) → (length rest == 0) ≡ true → rest ≡ []
no_length [] h = refl
no_length (b ∷ rest) h = absurd (let e : (length (b ∷ rest) == 0) ≡ false = grind (arith, nat_tests) in let g = sym e ∙ h in cc)

finished : {D A : Type 0} (r : TextReader D A) (d : D) (k : ℕ) (rest : List ℕ) (a : A) → finishes r d k rest ≡ Ok a → (rest ≡ []) × (r.whole d ≡ Some a)
finished r d k rest a h =
    elim (cases_Bool (length rest == 0)) [
      | inl t ↦ (no_length rest t, whole_was k (r.whole d) a (rw t at h))
      | inr f ↦ absurd (let b = bound (at_line k (r.step d rest false)) (λ _. let e : Result _ TextFault = Err (fault_at k End) in e) a (rw f at h) in let e = b.next in cc)
    ]

-- a line that something follows was read
record IsRead {D A : Type 0} (r : TextReader D A) (d : D) (k : ℕ) (line : List ℕ) (parts : List (List ℕ)) (a : A) : Type 0 where
  after : D
  stepped : r.step d line true ≡ Ok after
  rest : reads r after (suc k) parts ≡ Ok a

reads-first : {D A : Type 0} (r : TextReader D A) (d : D) (a : A) (k : ℕ) (l : List ℕ) (parts : List (List ℕ)) → 0 < length parts → reads r d k (l ∷ parts) ≡ Ok a → IsRead r d k l parts a
reads-first r d a k l parts some h =
    let b = bound (at_line k (r.step d l true)) (λ after. reads r after (suc k) parts) a (sym (reads-more r d k l parts some) ∙ h) in
    record { after = b.value; stepped = line_ok k (r.step d l true) b.value b.was; rest = b.next }

reads-last : {D A : Type 0} (r : TextReader D A) (d : D) (a : A) (k : ℕ) (rest : List ℕ) → reads r d k (rest ∷ []) ≡ Ok a → (rest ≡ []) × (r.whole d ≡ Some a)
unfolding reads
reads-last r d a k rest h = finished r d k rest a h

reads-none : {D A : Type 0} (r : TextReader D A) (d : D) (a : A) (k : ℕ) → reads r d k [] ≡ Ok a → ⊥
unfolding reads
reads-none r d a k h = let e : Result _ TextFault = Err (fault_at k End) in let g : e ≡ Ok a = h in cc

parts_whole : {D A : Type 0} (r : TextReader D A) (d : D) (a : A) (k : ℕ) (parts : List (List ℕ)) → reads r d k parts ≡ Ok a → AreWholeLines r d parts a
parts_whole r d a k [] h = absurd (reads-none r d a k h)
parts_whole r d a k (rest ∷ []) h =
    let w = reads-last r d a k rest h in record { lines = []; last = d; same = ap (λ rest. rest ∷ []) w.0; follows = refl; whole = w.1 }
parts_whole r d a k (l ∷ next ∷ parts) h =
    let w = reads-first r d a k l (next ∷ parts) (omega arith) h in
    let v = parts_whole r w.after a (suc k) (next ∷ parts) w.rest in
    record { lines = l ∷ v.lines; last = v.last; same = ap (λ ls. l ∷ ls) v.same; follows = (w.after, w.stepped, v.follows); whole = v.whole }

-- a text that is read is lines that lead to what it gives
pub record IsLines {D A : Type 0} (r : TextReader D A) (d : D) (text : List ℕ) (a : A) : Type 0 where
  pub lines : List (List ℕ)
  pub last : D
  pub same : text ≡ flat_map ended_line lines
  pub follows : Follows r d lines last
  pub whole : r.whole last ≡ Some a

pub text_read : {D A : Type 0} (r : TextReader D A) (d : D) (text : List ℕ) (a : A) → read_from r d text ≡ Ok a → IsLines r d text a
text_read r d text a h =
    let w = parts_whole r d a 1 (parts_of text) h in
    record { lines = w.lines; last = w.last; same = lines-text text w.lines w.same; follows = w.follows; whole = w.whole }

follows_read : {D A : Type 0} (r : TextReader D A) (d last : D) (a : A) (lines : List (List ℕ)) → Follows r d lines last → r.whole last ≡ Some a → (k : ℕ) → reads r d k (lines ++ [] ∷ []) ≡ Ok a
unfolding reads
follows_read r d last a [] h whole k = ap (λ d. whole_at k (r.whole d)) h ∙ ap (whole_at k) whole
follows_read r d last a (line ∷ lines) h whole k =
    let n = length-append lines ([] ∷ []) in
    reads-more r d k line (lines ++ [] ∷ []) (omega arith) ∙ rw (h.1) (follows_read r h.0 last a lines h.2 whole (suc k))

-- lines without a fault are plain
abbrev pub IsPlainReader : {D A : Type 0} → TextReader D A → Type 0
IsPlainReader r = (d : _) (after : _) (line : List ℕ) → r.step d line true ≡ Ok after → list_all is_plain line ≡ true

follows_plain : {D A : Type 0} (r : TextReader D A) (d last : D) (lines : List (List ℕ)) → IsPlainReader r → Follows r d lines last → AllByRecursion (λ l. list_all is_plain l ≡ true) lines
follows_plain r d last [] plain h = tt
follows_plain r d last (line ∷ lines) plain h = (plain d h.0 line h.1, follows_plain r h.0 last lines plain h.2)

-- lines that lead to what gives a are read as a
pub text_reads : {D A : Type 0} (r : TextReader D A) (d last : D) (a : A) (lines : List (List ℕ)) → IsPlainReader r → Follows r d lines last → r.whole last ≡ Some a
    → read_from r d (flat_map ended_line lines) ≡ Ok a
text_reads r d last a lines plain h whole =
    ap (reads r d 1) (parts-lines lines (follows_plain r d last lines plain h)) ∙ follows_read r d last a lines h whole 1

-- one run of lines after another
pub follows_on : {D A : Type 0} (r : TextReader D A) (d middle last : D) (lines more : List (List ℕ)) → Follows r d lines middle → Follows r middle more last → Follows r d (lines ++ more) last
follows_on r d middle last [] more h g = rw h g
follows_on r d middle last (line ∷ lines) more h g = (h.0, h.1, follows_on r h.0 middle last lines more h.2 g)

-- what a draft holds of the lines before it, and how it keeps that with each line
pub record PreservesDraft {D A : Type 0} (r : TextReader D A) (IsDraft : D → Type 0) (lines_in : D → List (List ℕ)) (d after : D) (line : List ℕ) : Type 0 where
  pub draft : IsDraft after
  pub lines : lines_in after ≡ lines_in d ++ line ∷ []

abbrev pub PreservesDrafts : {D A : Type 0} → TextReader D A → (D → Type 0) → (D → List (List ℕ)) → Type 0
PreservesDrafts r IsDraft lines_in = (d : _) (after : _) (line : List ℕ) → IsDraft d → r.step d line true ≡ Ok after → PreservesDraft r IsDraft lines_in d after line

pub follows_kept : {D A : Type 0} (r : TextReader D A) (IsDraft : D → Type 0) (lines_in : D → List (List ℕ)) → PreservesDrafts r IsDraft lines_in
    → (d last : D) (lines : List (List ℕ)) → IsDraft d → Follows r d lines last → IsDraft last × (lines_in last ≡ lines_in d ++ lines)
follows_kept r IsDraft lines_in keeping d last [] is h = rw (← h) (is, sym (append-nil (lines_in d)))
follows_kept r IsDraft lines_in keeping d last (line ∷ lines) is h =
    let k = keeping d h.0 line is h.1 in
    let rest = follows_kept r IsDraft lines_in keeping h.0 last lines k.draft h.2 in
    (rest.0, rest.1 ∙ ap (λ t. t ++ lines) k.lines ∙ append_assoc (lines_in d) (line ∷ []) lines)
