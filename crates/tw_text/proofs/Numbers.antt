-- Numbers that are read one by one.
use Rattle.std.proofs.Common.{◌≡◌, ℕ, ◌+◌, ◌<◌, true, false, List, [], ◌∷◌, ◌++◌, length, get_or, take, map, Ok, Err, refl, ap, sym, ◌∙◌}
use Rattle.std.proofs.lemmas.List.{map-append, take_more}
use Rattle.std.proofs.lemmas.List.Folds.{list_all-append, list_all-map, list_all_at}
use Rattle.std.specs.Borrow.{Bor}
use Rattle.std.specs.List.{list_all}
use Rattle.std.specs.Str.Parse.{digits_value}
use Rattle.tw_lines.specs.declared.text_fault.LineFault.{LineFault}
use Rattle.tw_lines.specs.declared.text_fault.LineFault.TheVariants.{Number}
use Rattle.tw_lines.specs.Words.{is_number, number_of}
use Rattle.tw_lines.proofs.Steps.{failed, passed}
use Rattle.tw_text.specs.Statements.{numbers_of}

-- these are the numbers of the first i words
pub record AreRead (ws : List (Bor (List ℕ))) (i : ℕ) (ns : List ℕ) : Type 0 where
  pub same : ns ≡ map (digits_value 10) (map (λ w. w.now) (take i ws))
  pub right : list_all is_number (map (λ w. w.now) (take i ws)) ≡ true

was_number : (w : List ℕ) (n : ℕ) → Ok n ≡ number_of w → (is_number w ≡ true) × (n ≡ digits_value 10 w)
was_number w n h = let p = passed (is_number w) (digits_value 10 w) n Number (sym h) in (p.0, sym p.1)

was_none : (w : List ℕ) (fault : LineFault) → Err fault ≡ number_of w → (is_number w ≡ false) × (fault ≡ Number)
was_none w fault h = let p = failed (is_number w) (digits_value 10 w) Number fault (sym h) in (p.0, sym p.1)

pub read_more : (ws : List (Bor (List ℕ))) (i : ℕ) (w : Bor (List ℕ)) (n : ℕ) (ns more : List ℕ) → i < length ws → Ok n ≡ number_of (get_or ws i w).now
    → AreRead ws i ns → more ≡ ns ++ n ∷ [] → AreRead ws (i + 1) more
read_more ws i w n ns more h is read e =
    let m = was_number (get_or ws i w).now n is in
    let taken = take_more ws i w h in
    let now : map (λ w. w.now) (take (i + 1) ws) ≡ map (λ w. w.now) (take i ws) ++ (get_or ws i w).now ∷ [] = ap (map (λ w. w.now)) taken ∙ map-append (λ w. w.now) (take i ws) (get_or ws i w ∷ []) in
    record {
      same = e ∙ (ap (λ ns. ns ++ n ∷ []) read.same ∙ (ap (λ n. map (digits_value 10) (map (λ w. w.now) (take i ws)) ++ n ∷ []) m.1
          ∙ sym (ap (map (digits_value 10)) now ∙ map-append (digits_value 10) (map (λ w. w.now) (take i ws)) ((get_or ws i w).now ∷ []))));
      right = ap (list_all is_number) now ∙ (list_all-append is_number (map (λ w. w.now) (take i ws)) ((get_or ws i w).now ∷ []) ∙ rw (read.right, m.0) refl);
    }

pub read_none : (ws : List (Bor (List ℕ))) (i : ℕ) (w : Bor (List ℕ)) (fault : LineFault) → i < length ws → Err fault ≡ number_of (get_or ws i w).now
    → numbers_of (map (λ w. w.now) ws) ≡ Err fault
read_none ws i w fault h is =
    let n = was_none (get_or ws i w).now fault is in
    let no : list_all is_number (map (λ w. w.now) ws) ≡ false = list_all-map is_number (λ w. w.now) ws ∙ list_all_at (λ w. is_number w.now) ws i w h n.0 in
    rw no (ap (λ fault. Err fault) (sym n.1))
