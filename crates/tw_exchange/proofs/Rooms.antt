-- Rows of mail, written one place at a time.
use Rattle.std.proofs.Common.{ℕ, ◌+◌, ◌≡◌, ◌<◌, List, [], ◌∷◌, ◌++◌, length, replicate, set, get_or, ap, sym, ◌∙◌}
use Rattle.std.proofs.lemmas.List.{get_or-map, length-map, map-append, map-set, replicate_more, set-get_or}
use Rattle.std.specs.declared.vec.Vec.{Vec}
use Rattle.tw_exchange.specs.Rows.{items}

module _ {X Z : Type 0} where
  pub length_items : (rows : List (Vec X Z)) → length (items rows) ≡ length rows
  length_items rows = length-map rows (λ row. row.items)

  -- the items of a place
  pub items_at : (rows : List (Vec X Z)) (i : ℕ) (d : Vec X Z) → i < length rows → get_or (items rows) i [] ≡ (get_or rows i d).items
  items_at rows i d h = get_or-map (λ row. row.items) rows i d [] h

  -- a write of other items
  pub items_set : (rows : List (Vec X Z)) (i : ℕ) (v : Vec X Z) (xs : List X) → v.items ≡ xs → items (set rows i v) ≡ set (items rows) i xs
  items_set rows i v xs e = map-set (λ row. row.items) rows i v ∙ ap (λ ys. set (items rows) i ys) e

  -- a write of the same items
  pub items_same : (rows : List (Vec X Z)) (i : ℕ) (v d : Vec X Z) → v.items ≡ (get_or rows i d).items → items (set rows i v) ≡ items rows
  items_same rows i v d e =
      items_set rows i v (get_or rows i d).items e ∙ (sym (map-set (λ row. row.items) rows i (get_or rows i d)) ∙ ap items (set-get_or rows i d))

  -- one more place, with nothing in it
  pub empty_more : (rows more : List (Vec X Z)) (v : Vec X Z) (n : ℕ) → more ≡ rows ++ v ∷ [] → v.items ≡ [] → items rows ≡ replicate n [] → items more ≡ replicate (n + 1) []
  empty_more rows more v n is none empty =
      ap items is ∙ (map-append (λ row. row.items) rows (v ∷ []) ∙ ((λ i. empty i ++ none i ∷ []) ∙ replicate_more n []))
