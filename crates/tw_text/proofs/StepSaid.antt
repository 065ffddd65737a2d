-- The line of a step, and the step of a line.
use Rattle.std.proofs.Common.{◌≡◌, ℕ, ◌<◌, ◌^◌, ◌==◌, nat_lt, Bool, true, false, List, [], ◌∷◌, ◌++◌, length, codes, decimal, bytes_eq}
use Rattle.std.proofs.Common.{if◌then◌else◌, Result, Ok, Err, refl, ap, ap₂, sym, ◌∙◌, subst, arith}
use Rattle.std.proofs.lemmas.Bool.Decides.{nat_tests}
use Rattle.std.specs.Cmp.Lexicographic.{bytes_decides}
use Rattle.std.specs.List.{AllByRecursion, join_with_byte, list_all}
use Rattle.std.specs.Str.Parse.{digits_value}
use Rattle.tw_sim.specs.declared.machine.Step.{Step}
use Rattle.tw_sim.specs.declared.machine.Step.TheVariants.{Handle, Undo, Deliver, Bound, Commit, Release}
use Rattle.tw_lines.specs.declared.text_fault.LineFault.{LineFault}
use Rattle.tw_lines.specs.declared.text_fault.LineFault.TheVariants as x
use Rattle.tw_lines.specs.Reading.{◌>>=◌}
use Rattle.tw_lines.specs.Words.{is_number, is_plain, number_of, words}
use Rattle.tw_lines.proofs.Numerals.{decimal-form, decimal-some, number_is, number_short, value-decimal}
use Rattle.tw_lines.proofs.Splits.{IsWord, join-plain, join-words, words-join}
use Rattle.tw_lines.proofs.Steps.{bound, passed}
use Rattle.tw_text.specs.declared.step_text.StepLine.{StepLine}
use Rattle.tw_text.specs.declared.step_text.StepLine.TheVariants as line
use Rattle.tw_model.specs.declared.limits.TheConstants.{MOST_DIGITS}
use Rattle.tw_text.specs.StepText.{HasLine, line_of_step, router_of, said_alone, said_by, said_with, step_with}
use Rattle.tw_text.proofs.Said.{numbers-words}

-- the line that says it
abbrev pub line_text : StepLine → List ℕ
line_text (line.Step s) = line_of_step s
line_text line.End = codes "end"

abbrev pub CanSay : StepLine → Type 0
CanSay (line.Step s) = HasLine s
CanSay line.End = Unit {0}

-- ---- from a line to what it says and back

number_was : (w : List ℕ) (n : ℕ) → number_of w ≡ Ok n → (w ≡ decimal n) × (n < 10 ^ MOST_DIGITS)
number_was w n h =
    let p = passed (is_number w) (digits_value 10 w) n x.Number h in
    (number_is w p.0 ∙ ap decimal p.1, subst (λ n. n < 10 ^ MOST_DIGITS) p.1 (number_short w p.0))

router_was : (w : List ℕ) (r : ℕ) → router_of w ≡ Ok r → (w ≡ decimal r) × (r < 2 ^ 32)
router_was w r h =
    let b = bound (number_of w) (λ r. if nat_lt r (2 ^ 32) then Ok r else Err x.Number) r h in
    let p = passed (nat_lt b.value (2 ^ 32)) b.value r x.Number b.next in
    let t = p.0 in
    let small : b.value < 2 ^ 32 = grind (arith, nat_tests) in
    ((number_was w b.value b.was).0 ∙ ap decimal p.1, subst (λ r. r < 2 ^ 32) p.1 small)

-- words that say this
record Says (ws : List (List ℕ)) (said : StepLine) : Type 0 where
  line : join_with_byte 32 ws ≡ line_text said
  can : CanSay said

says_same : (ws : List (List ℕ)) (a said : StepLine) → (let r : Result StepLine LineFault = Ok a in r ≡ Ok said) → Says ws a → Says ws said
says_same ws a said h g = let same : a ≡ said = cc in subst (Says ws) same g

chosen : {A E P : Type 0} (b : Bool) (p q : Result A E) (a : A) → (if b then p else q) ≡ Ok a → (b ≡ true → p ≡ Ok a → P) → (b ≡ false → q ≡ Ok a → P) → P
chosen true p q a h f g = f refl h
chosen false p q a h f g = g refl h

fails : {A E P : Type 0} (e : E) (a : A) → (let r : Result A E = Err e in r ≡ Ok a) → P
fails e a h = absurd (cc)

alone_was : (w : List ℕ) (said : StepLine) → said_alone w ≡ Ok said → Says (w ∷ []) said
alone_was w said h =
    chosen (bytes_eq w (codes "bound")) _ _ said h
    (λ t e. says_same (w ∷ []) (line.Step Bound) said e (record { line = (bytes_decides w (codes "bound")).0 t; can = tt }))
    (λ f g. chosen (bytes_eq w (codes "end")) _ _ said g
    (λ t e. says_same (w ∷ []) line.End said e (record { line = (bytes_decides w (codes "end")).0 t; can = tt }))
    (λ f e. fails x.Word said e))

-- a word and a number
numbered : (w v word : List ℕ) (n : ℕ) (s : Step) → bytes_eq w word ≡ true → v ≡ decimal n → word ++ 32 ∷ decimal n ≡ line_of_step s → HasLine s → Says (w ∷ v ∷ []) (line.Step s)
numbered w v word n s t e same has = record { line = ap₂ (λ w v. w ++ 32 ∷ v) ((bytes_decides w word).0 t) e ∙ same; can = has }

router_step : (w v word : List ℕ) (make : ℕ → Step) (said : StepLine) → ((r : ℕ) → word ++ 32 ∷ decimal r ≡ line_of_step (make r)) → ((r : ℕ) → r < 2 ^ 32 → HasLine (make r))
    → bytes_eq w word ≡ true → step_with router_of make v ≡ Ok said → Says (w ∷ v ∷ []) said
router_step w v word make said same has t h =
    let b = bound (router_of v) (λ n. let r : Result StepLine LineFault = Ok (line.Step (make n)) in r) said h in
    let was = router_was v b.value b.was in
    says_same (w ∷ v ∷ []) (line.Step (make b.value)) said b.next (numbered w v word b.value (make b.value) t was.0 (same b.value) (has b.value was.1))

place_step : (w v : List ℕ) (said : StepLine) → bytes_eq w (codes "deliver") ≡ true → step_with number_of (λ k. Deliver k) v ≡ Ok said → Says (w ∷ v ∷ []) said
place_step w v said t h =
    let b = bound (number_of v) (λ n. let r : Result StepLine LineFault = Ok (line.Step (Deliver n)) in r) said h in
    let was = number_was v b.value b.was in
    says_same (w ∷ v ∷ []) (line.Step (Deliver b.value)) said b.next (numbered w v (codes "deliver") b.value (Deliver b.value) t was.0 refl was.1)

with_was : (w v : List ℕ) (said : StepLine) → said_with w v ≡ Ok said → Says (w ∷ v ∷ []) said
with_was w v said h =
    chosen _ _ _ said h (λ t e. fails x.Word said e) (λ f h.
    chosen (bytes_eq w (codes "handle")) _ _ said h (router_step w v (codes "handle") (λ r. Handle r) said (λ r. refl) (λ r small. small)) (λ f h.
    chosen (bytes_eq w (codes "undo")) _ _ said h (router_step w v (codes "undo") (λ r. Undo r) said (λ r. refl) (λ r small. small)) (λ f h.
    chosen (bytes_eq w (codes "deliver")) _ _ said h (place_step w v said) (λ f h.
    chosen (bytes_eq w (codes "commit")) _ _ said h (router_step w v (codes "commit") (λ r. Commit r) said (λ r. refl) (λ r small. small)) (λ f h.
    chosen (bytes_eq w (codes "release")) _ _ said h (router_step w v (codes "release") (λ r. Release r) said (λ r. refl) (λ r small. small)) (λ f e.
    fails x.Word said e))))))

said_was : (ws : List (List ℕ)) (said : StepLine) → said_by ws ≡ Ok said → Says ws said
unfolding said_by
said_was [] said h = fails x.Word said h
said_was (w ∷ []) said h = alone_was w said h
said_was (w ∷ v ∷ []) said h = with_was w v said h
said_was (w ∷ v ∷ u ∷ ws) said h = fails x.Word said h

-- a line that says something is its text
pub record IsTextOf (l : List ℕ) (said : StepLine) : Type 0 where
  pub line : l ≡ line_text said
  pub can : CanSay said

pub line_was : (l : List ℕ) (said : StepLine) → said_by (words l) ≡ Ok said → IsTextOf l said
line_was l said h = let s = said_was (words l) said h in record { line = sym (join-words l) ∙ s.line; can = s.can }

-- ---- from what is said to its line and back

number_of-decimal : (n : ℕ) → n < 10 ^ MOST_DIGITS → number_of (decimal n) ≡ Ok n
number_of-decimal n h = rw (decimal-form n h, value-decimal n h) refl

short : (r : ℕ) → r < 2 ^ 32 → r < 10 ^ MOST_DIGITS
short r h = omega arith

router_of-decimal : (r : ℕ) → r < 2 ^ 32 → router_of (decimal r) ≡ Ok r
router_of-decimal r h =
    let t : nat_lt r (2 ^ 32) ≡ true = grind (arith, nat_tests) in
    ap (λ n. n >>= λ r. if nat_lt r (2 ^ 32) then Ok r else Err x.Number) (number_of-decimal r (short r h)) ∙ rw t refl

-- a word with a number behind it
pair_words : (w : List ℕ) (n : ℕ) → IsWord w → n < 10 ^ MOST_DIGITS → AllByRecursion IsWord (w ∷ decimal n ∷ [])
pair_words w n h small = (h, numbers-words (n ∷ []) (small, tt))

-- a line that is plain, and says this
pub record IsSaidBy (l : List ℕ) (said : StepLine) : Type 0 where
  pub plain : list_all is_plain l ≡ true
  pub says : said_by (words l) ≡ Ok said

alone : (w : List ℕ) (said : StepLine) → IsWord w → said_alone w ≡ Ok said → IsSaidBy w said
unfolding said_by
alone w said h is = record { plain = join-plain w [] (h, tt); says = ap said_by (words-join w [] (h, tt)) ∙ is }

pair : (w : List ℕ) (n : ℕ) (said : StepLine) → IsWord w → n < 10 ^ MOST_DIGITS → said_with w (decimal n) ≡ Ok said → IsSaidBy (w ++ 32 ∷ decimal n) said
unfolding said_by
pair w n said h small is =
    let ws = pair_words w n h small in
    record { plain = join-plain w (decimal n ∷ []) ws; says = ap said_by (words-join w (decimal n ∷ []) ws) ∙ is }

numbered_said : (empty : Bool) (read : Result ℕ LineFault) (make : ℕ → Step) (n : ℕ) → empty ≡ false → read ≡ Ok n
    → (if empty then Err x.Word else (read >>= λ n. let r : Result StepLine LineFault = Ok (line.Step (make n)) in r)) ≡ Ok (line.Step (make n))
numbered_said empty read make n p q = rw (p, q) refl

pub step_said : (s : Step) → HasLine s → IsSaidBy (line_of_step s) (line.Step s)
step_said (Handle r) h = pair (codes "handle") r (line.Step (Handle r)) (record { some = refl; signs = refl }) (short r h)
    (numbered_said (length (decimal r) == 0) (router_of (decimal r)) (λ r. Handle r) r (decimal-some r (short r h)) (router_of-decimal r h))
step_said (Undo r) h = pair (codes "undo") r (line.Step (Undo r)) (record { some = refl; signs = refl }) (short r h)
    (numbered_said (length (decimal r) == 0) (router_of (decimal r)) (λ r. Undo r) r (decimal-some r (short r h)) (router_of-decimal r h))
step_said (Deliver k) h = pair (codes "deliver") k (line.Step (Deliver k)) (record { some = refl; signs = refl }) h
    (numbered_said (length (decimal k) == 0) (number_of (decimal k)) (λ k. Deliver k) k (decimal-some k h) (number_of-decimal k h))
step_said Bound h = alone (codes "bound") (line.Step Bound) (record { some = refl; signs = refl }) refl
step_said (Commit r) h = pair (codes "commit") r (line.Step (Commit r)) (record { some = refl; signs = refl }) (short r h)
    (numbered_said (length (decimal r) == 0) (router_of (decimal r)) (λ r. Commit r) r (decimal-some r (short r h)) (router_of-decimal r h))
step_said (Release r) h = pair (codes "release") r (line.Step (Release r)) (record { some = refl; signs = refl }) (short r h)
    (numbered_said (length (decimal r) == 0) (router_of (decimal r)) (λ r. Release r) r (decimal-some r (short r h)) (router_of-decimal r h))

pub end_said : IsSaidBy (codes "end") line.End
end_said = alone (codes "end") line.End (record { some = refl; signs = refl }) refl
