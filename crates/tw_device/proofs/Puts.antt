-- Texts that are put one after the other are put as one text.
use Rattle.std.proofs.Common.{◌≡◌, ℕ, ◌+◌, ◌<◌, ◌≤◌, Bool, true, List, [], ◌++◌, length, get_or, drop, Option, Result, Ok, Err, refl, sym, ap, subst, ◌∙◌, append_assoc, append-nil}
use Rattle.std.proofs.lemmas.List.{drop_all, drop_more}
use Rattle.std.specs.List.{flat_map}
use Rattle.std.specs.Io.KnownBytes.{Appends}
use Rattle.std.specs.Result.{IsErr}
use Rattle.std.proofs.KnownBytes.{Appends-nil, Appends-trans}
use Rattle.tw_device.specs.Sink.{Begins, Puts}

-- a prefix of the second text, after the whole first one, is a prefix of both
pub begins_then : (a b c : Option (List ℕ)) (xs ys : List ℕ) → Appends a b xs → Begins b c ys → Begins a c (xs ++ ys)
begins_then a b c xs ys first part = record {
  front = xs ++ part.front;
  rest = part.rest;
  whole = ap (λ zs. xs ++ zs) part.whole ∙ sym (append_assoc xs part.front part.rest);
  grown = Appends-trans a b c xs part.front first part.grown;
}

-- a prefix of the first text is one of both
pub begins_less : (a b : Option (List ℕ)) (xs ys : List ℕ) → Begins a b xs → Begins a b (xs ++ ys)
begins_less a b xs ys part = record {
  front = part.front;
  rest = part.rest ++ ys;
  whole = ap (λ zs. zs ++ ys) part.whole ∙ append_assoc part.front part.rest ys;
  grown = part.grown;
}

-- the second text is put after the first was
pub puts_then : {T E : Type 0} (result : Result T E) (a b c : Option (List ℕ)) (failed : Bool) (xs ys : List ℕ) → Appends a b xs → Puts result b c failed ys
    → Puts result a c failed (xs ++ ys)
puts_then (Ok x) a b c failed xs ys first puts = (Appends-trans a b c xs ys first puts.0, puts.1)
puts_then (Err e) a b c failed xs ys first puts = (begins_then a b c xs ys first puts.0, puts.1)

pub puts_joined : {T E : Type 0} (result : Result T E) (a b c : Option (List ℕ)) (failed : Bool) (xs ys whole : List ℕ) → Appends a b xs → Puts result b c failed ys → whole ≡ xs ++ ys
    → Puts result a c failed whole
puts_joined result a b c failed xs ys whole first puts sum = rw sum (puts_then result a b c failed xs ys first puts)

-- the first text was not put whole
pub puts_failed : {T E : Type 0} (result : Result T E) (a b : Option (List ℕ)) (failed : Bool) (xs ys : List ℕ) → IsErr result → Begins a b xs × (failed ≡ true)
    → Puts result a b failed (xs ++ ys)
puts_failed (Ok x) a b failed xs ys err puts = absurd (cc)
puts_failed (Err e) a b failed xs ys err puts = (begins_less a b xs ys puts.0, puts.1)

-- so much of a whole text is put that what is left completes it
pub record IsPartway (whole left : List ℕ) (old new : Option (List ℕ)) : Type 0 where
  pub front : List ℕ
  pub sum : front ++ left ≡ whole
  pub grown : Appends old new front

pub partway_start : (whole : List ℕ) (a : Option (List ℕ)) → IsPartway whole whole a a
partway_start whole a = record { front = []; sum = refl; grown = Appends-nil a }

pub partway_more : (whole left xs more : List ℕ) (a b c : Option (List ℕ)) → left ≡ xs ++ more → IsPartway whole left a b → Appends b c xs → IsPartway whole more a c
partway_more whole left xs more a b c split h new = record {
  front = h.front ++ xs;
  sum = append_assoc h.front xs more ∙ ap (λ ys. h.front ++ ys) (sym split) ∙ h.sum;
  grown = Appends-trans a b c h.front xs h.grown new;
}

pub partway_end : (whole left : List ℕ) (a b : Option (List ℕ)) → left ≡ [] → IsPartway whole left a b → Appends a b whole
partway_end whole left a b none h = subst (λ ys. Appends a b ys) (sym (append-nil h.front) ∙ ap (λ ys. h.front ++ ys) (sym none) ∙ h.sum) h.grown

pub partway_failed : (whole left xs more : List ℕ) (a b c : Option (List ℕ)) → left ≡ xs ++ more → IsPartway whole left a b → Begins b c xs → Begins a c whole
partway_failed whole left xs more a b c split h part =
    subst (λ ys. Begins a c ys) (append_assoc h.front xs more ∙ ap (λ ys. h.front ++ ys) (sym split) ∙ h.sum)
    (begins_less a c (h.front ++ xs) more (begins_then a b c h.front xs h.grown part))

pub puts_partway : {T E : Type 0} (result : Result T E) (whole left more xs : List ℕ) (a b c : Option (List ℕ)) (failed : Bool) → left ≡ xs ++ more → IsPartway whole left a b → IsErr result
    → Begins b c xs × (failed ≡ true) → Puts result a c failed whole
puts_partway (Ok x) whole left more xs a b c failed split h err part = absurd (cc)
puts_partway (Err e) whole left more xs a b c failed split h err part = (partway_failed whole left xs more a b c split h part.0, part.1)

-- ---- of each element of a list a text, one after the other

module _ {A : Type 0} (text : A → List ℕ) (items : List A) (i : ℕ) (d : A) (a b : Option (List ℕ)) where
  pub each_more : (c : Option (List ℕ)) → i < length items → IsPartway (flat_map text items) (flat_map text (drop i items)) a b → Appends b c (text (get_or items i d))
      → IsPartway (flat_map text items) (flat_map text (drop (i + 1) items)) a c
  each_more c some h new =
      partway_more (flat_map text items) (flat_map text (drop i items)) (text (get_or items i d)) (flat_map text (drop (i + 1) items)) a b c
      (ap (flat_map text) (drop_more items i d some)) h new

  pub each_failed : {T E : Type 0} (result : Result T E) (c : Option (List ℕ)) (failed : Bool) → i < length items → IsPartway (flat_map text items) (flat_map text (drop i items)) a b → IsErr result
      → Begins b c (text (get_or items i d)) × (failed ≡ true) → Puts result a c failed (flat_map text items)
  each_failed result c failed some h err part =
      puts_partway result (flat_map text items) (flat_map text (drop i items)) (flat_map text (drop (i + 1) items)) (text (get_or items i d)) a b c failed
      (ap (flat_map text) (drop_more items i d some)) h err part

  pub each_put : length items ≤ i → IsPartway (flat_map text items) (flat_map text (drop i items)) a b → Appends a b (flat_map text items)
  each_put all h = partway_end (flat_map text items) (flat_map text (drop i items)) a b (ap (flat_map text) (drop_all i items all)) h
