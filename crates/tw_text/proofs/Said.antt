-- The words of a statement, and the statement of words.
use Rattle.std.proofs.Common.{◌≡◌, ℕ, ◌<◌, ◌^◌, ◌==◌, Bool, true, false, not, ◌&&◌, ◌||◌, List, [], ◌∷◌, length, map, decimal, bytes_eq, if◌then◌else◌, Option, Some, None, Result, Ok, Err, refl, ap, ap₂, subst, sym, ◌∙◌, inl, inr, arith}
use Rattle.std.proofs.lemmas.Bool.{and_parts, not-true}
use Rattle.std.proofs.lemmas.Bool.Decides.{nat_tests}
use Rattle.std.proofs.Math.Bool.{or-true}
use Rattle.std.proofs.lemmas.List.{length-map}
use Rattle.std.specs.Cmp.Lexicographic.{bytes_decides}
use Rattle.std.specs.List.{AllByRecursion, find, list_all}
use Rattle.std.specs.Str.Parse.{digits_value}
use Rattle.tw_model.specs.declared.case.Scene.{Scene}
use Rattle.tw_model.specs.declared.case.Scene.TheVariants.{Allow, Fail, Forbid, Restore, Swap}
use Rattle.tw_model.specs.declared.net.Link.{Link}
use Rattle.tw_model.specs.Rules.{is_first_link, is_first_scene}
use Rattle.tw_sim.proofs.Members.{In, in_find}
use Rattle.tw_lines.specs.declared.text_fault.LineFault.{LineFault}
use Rattle.tw_lines.specs.declared.text_fault.LineFault.TheVariants as x
use Rattle.tw_lines.specs.Reading.{◌>>=◌}
use Rattle.tw_lines.specs.Words.{is_number}
use Rattle.tw_lines.proofs.Numerals.{decimal-digits, decimal-form, decimal-some, number_is, value-decimal}
use Rattle.tw_lines.proofs.Splits.{IsWord, digits_are_signs, none_empty}
use Rattle.tw_lines.proofs.Steps.{bound, passed}
use Rattle.tw_text.specs.declared.keyword.Keyword.{Keyword}
use Rattle.tw_text.specs.declared.keyword.Keyword.TheVariants as keyword
use Rattle.tw_text.specs.Statements.{Statement, nodes_line, link_line, path_line, scene_line}
use Rattle.tw_text.specs.Statements.{end_line, takes_words, keyword_before, keyword_of, numbers_of, scene_with, statement_with, statement_of, takes, word_of}
use Rattle.tw_text.specs.Text.{keyword_in, numbers_in, scene_keyword, scene_numbers, words_of}
use Rattle.tw_model.specs.declared.limits.TheConstants.{MOST_DIGITS}
use Rattle.tw_text.specs.Versions.{first_keywords, keywords, second_keywords}

-- ---- from a statement to its words and back

-- at most ten digits long
abbrev pub IsShort : ℕ → Type 0
IsShort n = n < 10 ^ MOST_DIGITS

-- whether the version can say it
abbrev pub says : ℕ → Statement → Bool
says version (link_line l) = not (version == 1) || is_first_link l
says version (scene_line s) = not (version == 1) || is_first_scene s
says version s = true

-- the version can say it, its numbers are short, and as many as its keyword takes
pub record IsSayable (version : ℕ) (s : Statement) : Type 0 where
  pub said : says version s ≡ true
  pub short : AllByRecursion IsShort (numbers_in version s)
  pub count : takes (keyword_in version s) (length (numbers_in version s)) ≡ true

keyword-word : (k : Keyword) → IsWord (word_of k)
keyword-word keyword.Nodes = record { some = refl; signs = refl }
keyword-word keyword.Link = record { some = refl; signs = refl }
keyword-word keyword.TwoWayLink = record { some = refl; signs = refl }
keyword-word keyword.Path = record { some = refl; signs = refl }
keyword-word keyword.Fail = record { some = refl; signs = refl }
keyword-word keyword.Restore = record { some = refl; signs = refl }
keyword-word keyword.Swap = record { some = refl; signs = refl }
keyword-word keyword.Forbid = record { some = refl; signs = refl }
keyword-word keyword.Allow = record { some = refl; signs = refl }
keyword-word keyword.End = record { some = refl; signs = refl }

pub numbers-words : (ns : List ℕ) → AllByRecursion IsShort ns → AllByRecursion IsWord (map decimal ns)
numbers-words [] h = tt
numbers-words (n ∷ ns) h = (record { some = decimal-some n h.0; signs = digits_are_signs (decimal n) (decimal-digits n h.0) }, numbers-words ns h.1)

pub words-are : (version : ℕ) (s : Statement) → IsSayable version s → AllByRecursion IsWord (words_of version s)
words-are version s h = (keyword-word (keyword_in version s), numbers-words (numbers_in version s) h.short)

-- whether the keyword is one of version 1, or else of version 2
abbrev stands : Bool → Keyword → Bool
stands first keyword.Link = first
stands first keyword.TwoWayLink = not first
stands first keyword.Forbid = not first
stands first keyword.Allow = not first
stands first k = true

keyword-found : (first : Bool) (k : Keyword) → stands first k ≡ true → find (λ j. bytes_eq (word_of k) (word_of j)) (if first then first_keywords else second_keywords) ≡ Some k
keyword-found true keyword.Nodes h = refl
keyword-found true keyword.Link h = refl
keyword-found true keyword.TwoWayLink h = absurd (cc)
keyword-found true keyword.Path h = refl
keyword-found true keyword.Fail h = refl
keyword-found true keyword.Restore h = refl
keyword-found true keyword.Swap h = refl
keyword-found true keyword.Forbid h = absurd (cc)
keyword-found true keyword.Allow h = absurd (cc)
keyword-found true keyword.End h = refl
keyword-found false keyword.Nodes h = refl
keyword-found false keyword.Link h = absurd (cc)
keyword-found false keyword.TwoWayLink h = refl
keyword-found false keyword.Path h = refl
keyword-found false keyword.Fail h = refl
keyword-found false keyword.Restore h = refl
keyword-found false keyword.Swap h = refl
keyword-found false keyword.Forbid h = refl
keyword-found false keyword.Allow h = refl
keyword-found false keyword.End h = refl

link-stands : (first : Bool) → stands first (if first then keyword.Link else keyword.TwoWayLink) ≡ true
link-stands true = refl
link-stands false = refl

scene-stands : (first : Bool) (s : Scene) → (not first || is_first_scene s) ≡ true → stands first (scene_keyword s) ≡ true
scene-stands first (Fail t a b) h = refl
scene-stands first (Restore t a b) h = refl
scene-stands first (Swap t v i j) h = refl
scene-stands false (Forbid t v k) h = refl
scene-stands true (Forbid t v k) h = absurd (cc)
scene-stands false (Allow t v k) h = refl
scene-stands true (Allow t v k) h = absurd (cc)

keyword-stands : (version : ℕ) (s : Statement) → says version s ≡ true → stands (version == 1) (keyword_in version s) ≡ true
keyword-stands version (nodes_line n) h = refl
keyword-stands version (link_line l) h = link-stands (version == 1)
keyword-stands version (path_line p) h = refl
keyword-stands version (scene_line s) h = scene-stands (version == 1) s h
keyword-stands version end_line h = refl

keyword_of-word : (version : ℕ) (s : Statement) → says version s ≡ true → keyword_of version (word_of (keyword_in version s)) ≡ Some (keyword_in version s)
keyword_of-word version s h = keyword-found (version == 1) (keyword_in version s) (keyword-stands version s h)

all-numbers : (ns : List ℕ) → AllByRecursion IsShort ns → list_all is_number (map decimal ns) ≡ true
all-numbers [] h = refl
all-numbers (n ∷ ns) h = ap₂ (λ a b. a && b) (decimal-form n h.0) (all-numbers ns h.1)

values-decimals : (ns : List ℕ) → AllByRecursion IsShort ns → map (digits_value 10) (map decimal ns) ≡ ns
values-decimals [] h = refl
values-decimals (n ∷ ns) h = ap₂ (λ m ms. m ∷ ms) (value-decimal n h.0) (values-decimals ns h.1)

numbers_of-decimals : (ns : List ℕ) → AllByRecursion IsShort ns → numbers_of (map decimal ns) ≡ Ok ns
numbers_of-decimals ns h = rw (all-numbers ns h, values-decimals ns h) refl

takes_words-decimals : (k : Keyword) (ns : List ℕ) → AllByRecursion IsShort ns → takes k (length ns) ≡ true → takes_words k (map decimal ns) ≡ true
takes_words-decimals k ns h count = rw (length-map ns decimal, count, none_empty (map decimal ns) (numbers-words ns h)) refl

-- a keyword of a scenario line
scene-with : (s : Scene) → statement_with (scene_keyword s) (scene_numbers s) ≡ Ok (scene_line s)
scene-with (Fail t a b) = refl
scene-with (Restore t a b) = refl
scene-with (Swap t v i j) = refl
scene-with (Forbid t v k) = refl
scene-with (Allow t v k) = refl

link-in : (first : Bool) (l : Link) → (not first || is_first_link l) ≡ true
    → statement_with (if first then keyword.Link else keyword.TwoWayLink) (if first then l.first ∷ l.second ∷ l.delay ∷ [] else l.first ∷ l.second ∷ l.delay ∷ l.back ∷ []) ≡ Ok (link_line l)
link-in false l h = refl
link-in true l h =
    let same : l.delay ≡ l.back = grind (arith, nat_tests) in
    ap (λ back. Ok (link_line (record { first = l.first; second = l.second; delay = l.delay; back = back }))) same

said-in : (version : ℕ) (s : Statement) → says version s ≡ true → statement_with (keyword_in version s) (numbers_in version s) ≡ Ok s
said-in version (nodes_line n) h = refl
said-in version (link_line l) h = link-in (version == 1) l h
said-in version (path_line p) h = refl
said-in version (scene_line s) h = scene-with s
said-in version end_line h = refl

chain : (k : Keyword) (fit : Bool) (read : Result (List ℕ) LineFault) (ns : List ℕ) (s : Statement) → fit ≡ true → read ≡ Ok ns → statement_with k ns ≡ Ok s
    → ((if fit then Ok k else Err x.Word) >>= λ k. read >>= λ ns. statement_with k ns) ≡ Ok s
chain k fit read ns s p q r = rw (p, q) r

-- a statement is read from its words
pub statement_of-words : (version : ℕ) (s : Statement) → IsSayable version s → statement_of version (words_of version s) ≡ Ok s
unfolding statement_of
statement_of-words version s h =
    let k = keyword_in version s in let ns = numbers_in version s in let ws = map decimal ns in
    ap (λ found. keyword_before found ws >>= λ k. numbers_of ws >>= λ ns. statement_with k ns) (keyword_of-word version s h.said)
    ∙ chain k (takes_words k ws) (numbers_of ws) ns s (takes_words-decimals k ns h.short h.count) (numbers_of-decimals ns h.short) (said-in version s h.said)

-- ---- from words to their statement and back

keyword_was : (found : Option Keyword) (ws : List (List ℕ)) (k : Keyword) → keyword_before found ws ≡ Ok k → found ≡ Some k
keyword_was None ws k h = absurd (cc)
keyword_was (Some j) ws k h = ap (λ k. Some k) (passed (takes_words j ws) j k x.Word h).1

stand_all : (p : Keyword → Bool) (ks : List Keyword) → list_all p ks ≡ true → (k : Keyword) → In k ks → p k ≡ true
stand_all p [] h k is = absurd is
stand_all p (j ∷ ks) h k (inl e) = rw e (and_parts (p j) (list_all p ks) h).0
stand_all p (j ∷ ks) h k (inr is) = stand_all p ks (and_parts (p j) (list_all p ks) h).1 k is

keyword-is : (first : Bool) (k : Keyword) → In k (if first then first_keywords else second_keywords) → stands first k ≡ true
keyword-is true k h = stand_all (stands true) first_keywords refl k h
keyword-is false k h = stand_all (stands false) second_keywords refl k h

-- a word that is a keyword is its word, and the keyword one of the version
record IsKeyword (version : ℕ) (word : List ℕ) (k : Keyword) : Type 0 where
  word_is : word ≡ word_of k
  stands_in : stands (version == 1) k ≡ true

word_of-keyword : (version : ℕ) (word : List ℕ) (k : Keyword) → keyword_of version word ≡ Some k → IsKeyword version word k
word_of-keyword version word k h =
    let found = in_find (λ k. bytes_eq word (word_of k)) k (keywords version) h in
    record { word_is = (bytes_decides word (word_of k)).0 found.0; stands_in = keyword-is (version == 1) k found.1 }

decimals-values : (ws : List (List ℕ)) → list_all is_number ws ≡ true → ws ≡ map decimal (map (digits_value 10) ws)
decimals-values [] h = refl
decimals-values (w ∷ ws) h = let p = and_parts (is_number w) (list_all is_number ws) h in ap₂ (λ w ws. w ∷ ws) (number_is w p.0) (decimals-values ws p.1)

numbers_was : (ws : List (List ℕ)) (ns : List ℕ) → numbers_of ws ≡ Ok ns → ws ≡ map decimal ns
numbers_was ws ns h =
    let p = passed (list_all is_number ws) (map (digits_value 10) ws) ns x.Number h in decimals-values ws p.0 ∙ ap (map decimal) p.1

-- what stands in a statement
record Holds (version : ℕ) (s : Statement) (k : Keyword) (ns : List ℕ) : Type 0 where
  keyword : keyword_in version s ≡ k
  numbers : numbers_in version s ≡ ns

holds : (version : ℕ) (k : Keyword) (ns : List ℕ) (s t : Statement) → Holds version s k ns → (let r : Result Statement LineFault = Ok s in r ≡ Ok t) → Holds version t k ns
holds version k ns s t h e =
    let same : s ≡ t = cc in record { keyword = sym (ap (keyword_in version) same) ∙ h.keyword; numbers = sym (ap (numbers_in version) same) ∙ h.numbers }

-- what stands in a scenario line
record HoldsScene (s : Scene) (k : Keyword) (ns : List ℕ) : Type 0 where
  keyword : scene_keyword s ≡ k
  numbers : scene_numbers s ≡ ns

holds_scene : (k : Keyword) (ns : List ℕ) (s t : Scene) → HoldsScene s k ns → (let r : Result Scene LineFault = Ok s in r ≡ Ok t) → HoldsScene t k ns
holds_scene k ns s t h e = let same : s ≡ t = cc in record { keyword = sym (ap scene_keyword same) ∙ h.keyword; numbers = sym (ap scene_numbers same) ∙ h.numbers }

scene_was : (k : Keyword) (ns : List ℕ) (s : Scene) → scene_with k ns ≡ Ok s → HoldsScene s k ns
scene_was keyword.Fail (t ∷ a ∷ b ∷ []) s h = holds_scene _ _ (Fail t a b) s (record { keyword = refl; numbers = refl }) h
scene_was keyword.Restore (t ∷ a ∷ b ∷ []) s h = holds_scene _ _ (Restore t a b) s (record { keyword = refl; numbers = refl }) h
scene_was keyword.Swap (t ∷ v ∷ i ∷ j ∷ []) s h = holds_scene _ _ (Swap t v i j) s (record { keyword = refl; numbers = refl }) h
scene_was keyword.Forbid (t ∷ v ∷ k ∷ []) s h = holds_scene _ _ (Forbid t v k) s (record { keyword = refl; numbers = refl }) h
scene_was keyword.Allow (t ∷ v ∷ k ∷ []) s h = holds_scene _ _ (Allow t v k) s (record { keyword = refl; numbers = refl }) h
scene_was k ns s h = absurd (cc)

from_scene : (version : ℕ) (k : Keyword) (ns : List ℕ) (s : Statement) → (scene_with k ns >>= λ t. let r : Result Statement LineFault = Ok (scene_line t) in r) ≡ Ok s → Holds version s k ns
from_scene version k ns s h =
    let b = bound (scene_with k ns) (λ t. let r : Result Statement LineFault = Ok (scene_line t) in r) s h in
    let was = scene_was k ns b.value b.was in
    holds version k ns (scene_line b.value) s (record { keyword = was.keyword; numbers = was.numbers }) b.next

-- a link with one delay for both directions is one of version 1, and no other
link_was : (version : ℕ) (l : Link) → (version == 1) ≡ true → Holds version (link_line l) keyword.Link (l.first ∷ l.second ∷ l.delay ∷ [])
link_was version l h = record { keyword = rw h refl; numbers = rw h refl }

two_way_link_was : (version : ℕ) (l : Link) → not (version == 1) ≡ true → Holds version (link_line l) keyword.TwoWayLink (l.first ∷ l.second ∷ l.delay ∷ l.back ∷ [])
two_way_link_was version l h = record { keyword = rw (not-true (version == 1) h) refl; numbers = rw (not-true (version == 1) h) refl }

said_was : (version : ℕ) (k : Keyword) (ns : List ℕ) (s : Statement) → stands (version == 1) k ≡ true → statement_with k ns ≡ Ok s → Holds version s k ns
said_was version keyword.Nodes (n ∷ []) s f h = holds version _ _ (nodes_line n) s (record { keyword = refl; numbers = refl }) h
said_was version keyword.Link (a ∷ b ∷ delay ∷ []) s f h =
    let l : Link = record { first = a; second = b; delay = delay; back = delay } in holds version _ _ (link_line l) s (link_was version l f) h
said_was version keyword.TwoWayLink (a ∷ b ∷ delay ∷ back ∷ []) s f h =
    let l : Link = record { first = a; second = b; delay = delay; back = back } in holds version _ _ (link_line l) s (two_way_link_was version l f) h
said_was version keyword.Path (v ∷ path) s f h = holds version _ _ (path_line (record { owner = v; nodes = path })) s (record { keyword = refl; numbers = refl }) h
said_was version keyword.End [] s f h = holds version _ _ end_line s (record { keyword = refl; numbers = refl }) h
said_was version k ns s f h = from_scene version k ns s h

-- words that say a statement are its words
pub statement_of-is : (version : ℕ) (ws : List (List ℕ)) (s : Statement) → statement_of version ws ≡ Ok s → ws ≡ words_of version s
unfolding statement_of
statement_of-is version [] s h = absurd (let r : Result Statement LineFault = Err x.Word in let g : r ≡ Ok s = h in cc)
statement_of-is version (word ∷ ws) s h =
    let k = bound (keyword_before (keyword_of version word) ws) (λ k. numbers_of ws >>= λ ns. statement_with k ns) s h in
    let ns = bound (numbers_of ws) (λ ns. statement_with k.value ns) s k.next in
    let is = word_of-keyword version word k.value (keyword_was (keyword_of version word) ws k.value k.was) in
    let parts = said_was version k.value ns.value s is.stands_in ns.next in
    ap₂ (λ w ws. w ∷ ws) (is.word_is ∙ ap word_of (sym parts.keyword)) (numbers_was ws ns.value ns.was ∙ ap (map decimal) (sym parts.numbers))

-- ---- a version says what its words say

scene_says : (first : Bool) (s : Scene) → stands first (scene_keyword s) ≡ true → (not first || is_first_scene s) ≡ true
scene_says false s h = refl
scene_says true (Fail t a b) h = refl
scene_says true (Restore t a b) h = refl
scene_says true (Swap t v i j) h = refl
scene_says true (Forbid t v k) h = absurd (cc)
scene_says true (Allow t v k) h = absurd (cc)

same_says : (version : ℕ) (s t : Statement) → says version s ≡ true → (let r : Result Statement LineFault = Ok s in r ≡ Ok t) → says version t ≡ true
same_says version s t h e = let same : s ≡ t = cc in subst (λ s. says version s ≡ true) same h

scene_said_says : (version : ℕ) (k : Keyword) (ns : List ℕ) (s : Statement) → stands (version == 1) k ≡ true
    → (scene_with k ns >>= λ t. let r : Result Statement LineFault = Ok (scene_line t) in r) ≡ Ok s → says version s ≡ true
scene_said_says version k ns s f h =
    let b = bound (scene_with k ns) (λ t. let r : Result Statement LineFault = Ok (scene_line t) in r) s h in
    let was = scene_was k ns b.value b.was in
    same_says version (scene_line b.value) s (scene_says (version == 1) b.value (rw was.keyword f)) b.next

with_says : (version : ℕ) (k : Keyword) (ns : List ℕ) (s : Statement) → stands (version == 1) k ≡ true → statement_with k ns ≡ Ok s → says version s ≡ true
with_says version keyword.Nodes (n ∷ []) s f h = same_says version (nodes_line n) s refl h
with_says version keyword.Link (a ∷ b ∷ delay ∷ []) s f h =
    let l : Link = record { first = a; second = b; delay = delay; back = delay } in
    let one : is_first_link l ≡ true = grind (arith, nat_tests) in
    same_says version (link_line l) s (rw one (or-true (not (version == 1)))) h
with_says version keyword.TwoWayLink (a ∷ b ∷ delay ∷ back ∷ []) s f h =
    let l : Link = record { first = a; second = b; delay = delay; back = back } in same_says version (link_line l) s (rw f refl) h
with_says version keyword.Path (v ∷ path) s f h = same_says version (path_line (record { owner = v; nodes = path })) s refl h
with_says version keyword.End [] s f h = same_says version end_line s refl h
with_says version k ns s f h = scene_said_says version k ns s f h

pub statement_of-says : (version : ℕ) (ws : List (List ℕ)) (s : Statement) → statement_of version ws ≡ Ok s → says version s ≡ true
unfolding statement_of
statement_of-says version [] s h = absurd (let r : Result Statement LineFault = Err x.Word in let g : r ≡ Ok s = h in cc)
statement_of-says version (word ∷ ws) s h =
    let k = bound (keyword_before (keyword_of version word) ws) (λ k. numbers_of ws >>= λ ns. statement_with k ns) s h in
    let ns = bound (numbers_of ws) (λ ns. statement_with k.value ns) s k.next in
    with_says version k.value ns.value s (word_of-keyword version word k.value (keyword_was (keyword_of version word) ws k.value k.was)).stands_in ns.next
