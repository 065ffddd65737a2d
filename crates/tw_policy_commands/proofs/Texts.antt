-- The words of lines, one list or one word more.
use Rattle.std.proofs.Common.{◌≡◌, ℕ, ◌+◌, ◌<◌, Bool, true, false, List, [], ◌∷◌, ◌++◌, get_or, Global, length, map, take, refl, ap, ap₂, sym, ◌∙◌, arith, if◌then◌else◌}
use Rattle.std.specs.declared.vec.Vec.{Vec}
use Rattle.std.specs.List.{flat_map, range_with_len}
use Rattle.std.proofs.lemmas.List.{map-append, take_more}
use Rattle.std.proofs.lemmas.List.FromFn.{map-range_with_len_more}
use Rattle.tw_event.specs.declared.event.PathNo.{PathNo}
use Rattle.tw_model.specs.Net.{Net, path}
use Rattle.tw_report.specs.declared.words.Word.{Word}
use Rattle.tw_report.specs.Words.{line, path_text, word_text}
use Rattle.tw_elimination.specs.Bound.{is_solved, rests_before}
use Rattle.tw_elimination.specs.Placing.{has_one_list}
use Rattle.tw_elimination.specs.Rounds.{Eliminated, left_in, rounds_of}
use Rattle.tw_elimination.specs.declared.wheel.Pivot.{Pivot as Told}
use Rattle.tw_elimination.specs.Wheel.{pivot_of, wheel_of}
use Rattle.tw_model.specs.Case.{Case}
use Rattle.tw_policy_commands.specs.Safe.{answer_text, left_words, safe_lines, safe_text, texts, unsafe_lines, verdict_lines, wheel_words}

-- one list of words more
pub texts_more : (f : ℕ → List (List ℕ)) (k : ℕ) (old new : List (Vec Word Global)) (x : Vec Word Global) → new ≡ old ++ x ∷ [] → texts old ≡ map f (range_with_len 0 k)
    → map word_text x.items ≡ f k → texts new ≡ map f (range_with_len 0 (k + 1))
texts_more f k old new x pushed before is =
    ap texts pushed ∙ (map-append (λ (v : Vec Word Global). map word_text v.items) old (x ∷ [])
    ∙ (ap₂ (λ l y. l ++ y ∷ []) before is ∙ sym (map-range_with_len_more f 0 k k (omega arith))))

-- the text of a list of words
abbrev pub text_of : Vec Word Global → List ℕ
text_of words = line (map word_text words.items)

pub texts_lines : (lines : List (Vec Word Global)) → flat_map text_of lines ≡ flat_map line (texts lines)
texts_lines [] = refl
texts_lines (x ∷ lines) = ap (λ bs. text_of x ++ bs) (texts_lines lines)

-- what elimination has left is the answer for its case
pub answer_is : (case : Case) (e : Eliminated) (rows : List (List (List ℕ))) → e ≡ record { case = case; rounds = rounds_of case }
    → rows ≡ map (λ v. left_words e.case.net v (left_in e.case e.rounds v)) (range_with_len 0 e.case.net.nodes)
    → answer_text e.rounds rows (verdict_lines e.case e.rounds) ≡ safe_text case (rounds_of case)
answer_is case e rows is are =
    ap (λ xs. answer_text e.rounds xs (verdict_lines e.case e.rounds)) are ∙ ap (λ (x : Eliminated). safe_text x.case x.rounds) is

-- one list of words more, of an item of a list
pub texts_next : {X : Type 0} (f : X → List (List ℕ)) (xs : List X) (i : ℕ) (d : X) (old new : List (Vec Word Global)) (x : Vec Word Global) → i < length xs → new ≡ old ++ x ∷ []
    → texts old ≡ map f (take i xs) → map word_text x.items ≡ f (get_or xs i d) → texts new ≡ map f (take (i + 1) xs)
texts_next f xs i d old new x low pushed before is =
    ap texts pushed ∙ (map-append (λ (v : Vec Word Global). map word_text v.items) old (x ∷ [])
    ∙ (ap₂ (λ l y. l ++ y ∷ []) before is ∙ sym (ap (map f) (take_more xs i d low) ∙ map-append f (take i xs) (get_or xs i d ∷ []))))

-- the words of pivots as they are told
pub told_words : (net : Net) (pivots : List Told) → map (λ p. wheel_words net (pivot_of p)) pivots ≡ map (wheel_words net) (map pivot_of pivots)
told_words net [] = refl
told_words net (p ∷ pivots) = ap (λ xs. wheel_words net (pivot_of p) ∷ xs) (told_words net pivots)

-- the verdict, where each router has one path left
pub verdict_safe : (case : Case) (n time : ℕ) (robust : Bool) → time ≡ rests_before case n → robust ≡ has_one_list case.net → is_solved case n ≡ true
    → safe_lines time robust ≡ verdict_lines case n
verdict_safe case n time robust is one solved =
    ap₂ safe_lines is one
    ∙ sym (ap (λ b. if b then safe_lines (rests_before case n) (has_one_list case.net) else unsafe_lines (map (wheel_words case.net) (wheel_of case n))) solved)

-- and where some router has a choice
pub verdict_wheel : (case : Case) (n : ℕ) (wheel : List (List (List ℕ))) → wheel ≡ map (wheel_words case.net) (wheel_of case n) → is_solved case n ≡ false
    → unsafe_lines wheel ≡ verdict_lines case n
verdict_wheel case n wheel is solved =
    ap unsafe_lines is
    ∙ sym (ap (λ b. if b then safe_lines (rests_before case n) (has_one_list case.net) else unsafe_lines (map (wheel_words case.net) (wheel_of case n))) solved)
