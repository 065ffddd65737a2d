-- Rows, one for each router: what a write to one leaves.
use Rattle.std.proofs.Common.{arith, Result, Ok, Err, OnErr, ◌≡◌, ℕ, zero, suc, ◌-◌, ◌<◌, List, [], ◌∷◌, ◌++◌, length, get_or, replicate, set}
use Rattle.std.proofs.Common.{ap, refl, sym, ◌∙◌, subst, inl, inr}
use Rattle.std.proofs.lemmas.Bool.{cases_eq}
use Rattle.std.proofs.lemmas.List.{get_or-map, get_or-set_other, get_or-set_same, length-map, length-replicate, length-set, map-set, set-get_or, with_items_is}
use Rattle.std.specs.declared.vec.Vec.{Vec}
use Rattle.std.specs.Vec.{with_items}
use Rattle.tw_instance.specs.Tables.{IsTable, hop_back, hop_there, items, push_at, row, with_hop, with_link}
use Rattle.tw_model.specs.declared.net.Hop.{Hop}
use Rattle.tw_model.specs.declared.net.Link.{Link}

pub on_err : {T E : Type 0} (r : Result T E) (P : Type 0) → P → OnErr r P
on_err (Ok x) P p = tt
on_err (Err e) P p = p

-- the rows of an empty table are empty
empty_row : {X : Type 0} (n v : ℕ) → (let none : List X = [] in get_or (replicate n none) v none ≡ none)
empty_row zero v = refl
empty_row (suc n) zero = refl
empty_row (suc n) (suc v) = empty_row n v

-- rows with another row v
row_set : {X : Type 0} (rows : List (List X)) (F G : ℕ → List X) (v : ℕ) (xs : List X) → v < length rows → ((w : ℕ) → get_or rows w [] ≡ F w) → xs ≡ G v
    → ((w : ℕ) → (w ≡ v → ⊥) → F w ≡ G w) → (w : ℕ) → get_or (set rows v xs) w [] ≡ G w
row_set rows F G v xs below table here others w =
    elim (cases_eq w v) [
      | inl e ↦ (ap (λ u. get_or (set rows v xs) u []) e ∙ (get_or-set_same rows v xs [] below ∙ (here ∙ ap G (sym e))))
      | inr ne ↦ (get_or-set_other rows v w xs [] ne ∙ (table w ∙ others w ne))
    ]

module _ {X Z : Type 0} where
  -- a write of other items is a write to the table
  pub items-set : (rows : List (Vec X Z)) (i : ℕ) (v : Vec X Z) (xs : List X) → v.items ≡ xs → items (set rows i v) ≡ set (items rows) i xs
  items-set rows i v xs e = map-set (λ r. r.items) rows i v ∙ ap (λ ys. set (items rows) i ys) e

  -- the items of a row
  pub row_at : (rows : List (Vec X Z)) (i : ℕ) (d : Vec X Z) → i < length rows → row rows i ≡ (get_or rows i d).items
  row_at rows i d h = get_or-map (λ r. r.items) rows i d [] h

  -- a row with the same items
  pub items_same : (rows : List (Vec X Z)) (i : ℕ) (v d : Vec X Z) → v.items ≡ (get_or rows i d).items → items (set rows i v) ≡ items rows
  items_same rows i v d e =
      items-set rows i v (get_or rows i d).items e ∙ (sym (map-set (λ r. r.items) rows i (get_or rows i d)) ∙ ap items (set-get_or rows i d))

  -- an item behind those of a row, with room made in it first
  pub items-push : (rows : List (Vec X Z)) (i : ℕ) (v w a b : Vec X Z) (x : X) → i < length rows → v.items ≡ (get_or rows i a).items
      → w.items ≡ (get_or (set rows i v) i b).items ++ x ∷ [] → items (set (set rows i v) i w) ≡ push_at (items rows) i x
  items-push rows i v w a b x below room pushed =
      let ready = set rows i v in
      let long : i < length ready = omega (arith, length-set rows i v) in
      let same : items ready ≡ items rows = items_same rows i v a room in
      let here : (get_or ready i b).items ≡ row rows i = sym (row_at ready i b long) ∙ ap (λ t. get_or t i []) same in
      items-set ready i w (row rows i ++ x ∷ []) (pushed ∙ ap (λ ys. ys ++ x ∷ []) here) ∙ ap (λ t. set t i (row rows i ++ x ∷ [])) same

  pub length-items : (rows : List (Vec X Z)) → length (items rows) ≡ length rows
  length-items rows = length-map rows (λ r. r.items)

  -- ---- tables

  -- a table with the same items is as much a table
  pub table_same : (rows more : List (Vec X Z)) (nodes : ℕ) (F : ℕ → List X) → items more ≡ items rows → IsTable rows nodes F → IsTable more nodes F
  table_same rows more nodes F same h = record {
    long = sym (length-items more) ∙ (ap length same ∙ (length-items rows ∙ h.long));
    rows = λ v. ap (λ t. get_or t v []) same ∙ h.rows v;
  }

  -- a table of the same rows
  pub table_as : (rows : List (Vec X Z)) (nodes : ℕ) {F G : ℕ → List X} → IsTable rows nodes F → ((v : ℕ) → F v ≡ G v) → IsTable rows nodes G
  table_as rows nodes h same = record { long = h.long; rows = λ v. h.rows v ∙ same v }

  -- a table that was written through a borrow of its vector
  pub table_in : {Y : Type 0} (old : Vec (Vec X Z) Y) (rows : List (Vec X Z)) (nodes : ℕ) (F G : ℕ → List X) → IsTable old.items nodes F → IsTable rows nodes G
      → IsTable (with_items old rows).items nodes G
  table_in old rows nodes F G h k =
      subst (λ t. IsTable t nodes G) (sym (with_items_is old rows (k.long ∙ (sym h.long ∙ sym old.ok.0)))) k

  -- a table of empty rows
  pub table_empty : (rows : List (Vec X Z)) (nodes : ℕ) (F : ℕ → List X) → items rows ≡ replicate nodes [] → ((v : ℕ) → F v ≡ []) → IsTable rows nodes F
  table_empty rows nodes F e none = record {
    long = sym (length-items rows) ∙ (ap length e ∙ length-replicate nodes (let none : List X = [] in none));
    rows = λ v. ap (λ t. get_or t v []) e ∙ (empty_row nodes v ∙ sym (none v));
  }

  -- a table with one item, at the origin
  pub table_opening : (rows : List (Vec X Z)) (nodes : ℕ) (F : ℕ → List X) (x : X) → 0 < nodes → items rows ≡ (x ∷ []) ∷ replicate (nodes - 1) []
      → F 0 ≡ x ∷ [] → ((v : ℕ) → F (suc v) ≡ []) → IsTable rows nodes F
  table_opening rows nodes F x some e origin none = record {
    long = (let n = length-items rows in let k = ap length e in let r = length-replicate (nodes - 1) (let none : List X = [] in none) in omega arith);
    rows = at;
  } where
    at : (v : ℕ) → row rows v ≡ F v
    at zero = ap (λ t. get_or t 0 []) e ∙ sym origin
    at (suc v) = ap (λ t. get_or t (suc v) []) e ∙ (empty_row (nodes - 1) v ∙ sym (none v))

  -- a table with one more item, in row v
  pub table_push : (rows more : List (Vec X Z)) (nodes : ℕ) (F G : ℕ → List X) (v : ℕ) (x : X) → v < nodes → IsTable rows nodes F → items more ≡ push_at (items rows) v x
      → F v ++ x ∷ [] ≡ G v → ((w : ℕ) → (w ≡ v → ⊥) → F w ≡ G w) → IsTable more nodes G
  table_push rows more nodes F G v x below h e here others =
      let longer = row rows v ++ x ∷ [] in
      let within : v < length (items rows) = (let n = length-items rows in let k = h.long in omega arith) in
      record {
        long = sym (length-items more) ∙ (ap length e ∙ (length-set (items rows) v longer ∙ (length-items rows ∙ h.long)));
        rows = λ w. ap (λ t. get_or t w []) e ∙ row_set (items rows) F G v longer within h.rows (ap (λ ys. ys ++ x ∷ []) (h.rows v) ∙ here) others w;
      }

-- ---- one more link

-- rows of neighbours, with one more link between those of f and s
pub record IsLinkedTable (F G : ℕ → List Hop) (l : Link) : Type 0 where
  pub first : with_hop (hop_there l) (F l.first) ≡ G l.first
  pub second : with_hop (hop_back l) (F l.second) ≡ G l.second
  pub others : (v : ℕ) → (v ≡ l.first → ⊥) → (v ≡ l.second → ⊥) → F v ≡ G v

module _ {Z : Type 0} where
  -- two rows after each other, with room made in both first
  pub items-join : (rows : List (Vec Hop Z)) (l : Link) (v w x y a b c d : Vec Hop Z) → l.first < length rows → l.second < length rows → (l.first ≡ l.second → ⊥)
      → v.items ≡ (get_or rows l.first a).items → w.items ≡ (get_or (set rows l.first v) l.second b).items
      → x.items ≡ with_hop (hop_there l) (get_or (set (set rows l.first v) l.second w) l.first c).items
      → y.items ≡ with_hop (hop_back l) (get_or (set (set (set rows l.first v) l.second w) l.first x) l.second d).items
      → items (set (set (set (set rows l.first v) l.second w) l.first x) l.second y) ≡ with_link (items rows) l
  items-join rows l v w x y a b c d below below' apart ev ew ex ey =
      let f = l.first in
      let s = l.second in
      let h = hop_there l in
      let k = hop_back l in
      let ready = set (set rows f v) s w in
      let first = set ready f x in
      let long : f < length ready = omega (arith, length-set rows f v, length-set (set rows f v) s w) in
      let long' : s < length first = omega (arith, length-set rows f v, length-set (set rows f v) s w, length-set ready f x) in
      let same : items ready ≡ items rows = items_same (set rows f v) s w b ew ∙ items_same rows f v a ev in
      let row_f : (get_or ready f c).items ≡ row rows f = sym (row_at ready f c long) ∙ ap (λ (t : List (List Hop)). get_or t f []) same in
      let put : items first ≡ set (items rows) f (with_hop h (row rows f)) =
      items-set ready f x (with_hop h (row rows f)) (ex ∙ ap (with_hop h) row_f) ∙ ap (λ (t : List (List Hop)). set t f (with_hop h (row rows f))) same in
      let row_s : (get_or first s d).items ≡ row rows s =
      sym (row_at first s d long')
      ∙ (ap (λ (t : List (List Hop)). get_or t s []) put ∙ get_or-set_other (items rows) f s (with_hop h (row rows f)) [] (λ e. apart (sym e))) in
      items-set first s y (with_hop k (row rows s)) (ey ∙ ap (with_hop k) row_s) ∙ ap (λ (t : List (List Hop)). set t s (with_hop k (row rows s))) put

  pub table_link : (rows more : List (Vec Hop Z)) (nodes : ℕ) (F G : ℕ → List Hop) (l : Link) → l.first < nodes → l.second < nodes → IsTable rows nodes F
      → items more ≡ with_link (items rows) l → IsLinkedTable F G l → IsTable more nodes G
  table_link rows more nodes F G l below below' h e linked =
      let first = with_hop (hop_there l) (row rows l.first) in
      let second = with_hop (hop_back l) (row rows l.second) in
      let one = set (items rows) l.first first in
      let long = length-items rows in
      let wide = length-set (items rows) l.first first in
      let k = h.long in
      let within : l.first < length (items rows) = omega arith in
      let within' : l.second < length one = omega arith in
      let others : (v : ℕ) → (v ≡ l.second → ⊥) → get_or one v [] ≡ G v = λ v ns. elim (cases_eq v l.first) [
        | inl is ↦ (ap (λ u. get_or one u []) is
            ∙ (get_or-set_same (items rows) l.first first [] within ∙ (ap (with_hop (hop_there l)) (h.rows l.first) ∙ (linked.first ∙ ap G (sym is)))))
        | inr nf ↦ (get_or-set_other (items rows) l.first v first [] nf ∙ (h.rows v ∙ linked.others v nf ns))
      ] in
      record {
        long = sym (length-items more) ∙ (ap length e ∙ (length-set one l.second second ∙ (wide ∙ (long ∙ h.long))));
        rows = λ v. ap (λ (t : List (List Hop)). get_or t v []) e
            ∙ row_set one (λ u. get_or one u []) G l.second second within' (λ u. refl) (ap (with_hop (hop_back l)) (h.rows l.second) ∙ linked.second) others v;
      }
