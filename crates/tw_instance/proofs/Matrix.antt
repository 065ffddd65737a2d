-- The adjacency matrix of an instance that is made or grows.
use Rattle.std.proofs.Common.{◌≡◌, ℕ, zero, suc, ◌<◌, ◌==◌, ◌&&◌, ◌||◌, max, min, Bool, true, false, List, [], ◌∷◌, ◌++◌, length, get_or, replicate, set, refl, ap, sym, ◌∙◌, subst, inl, inr, arith}
use Rattle.std.specs.declared.vec.Vec.{Vec}
use Rattle.std.specs.Vec.{with_items}
use Rattle.std.proofs.lemmas.Bool.{cases_eq, cases_lt, eq-eqb, ne_eqb}
use Rattle.std.proofs.lemmas.List.{get_or-set_other, get_or-set_same, length-replicate, length-set, with_items_is}
use Rattle.std.proofs.lemmas.List.Folds.{list_any-append}
use Rattle.tw_model.specs.declared.net.Link.{Link}
use Rattle.tw_model.specs.Net.{Net, joins}
use Rattle.tw_model.specs.Rules.{is_linked}
use Rattle.tw_model.proofs.Nets.{linked_back}
use Rattle.tw_instance.specs.Adjacency.{IsAdjacency, IsSquare, cell, with_cell, with_joined}
use Rattle.tw_instance.specs.Tables.{items, row}
use Rattle.tw_instance.proofs.Rows.{items-set, length-items, row_at}

-- ---- before any link

unset : (m w : ℕ) → get_or (replicate m false) w false ≡ false
unset zero w = refl
unset (suc m) zero = refl
unset (suc m) (suc w) = unset m w

no_cell : (n m v w : ℕ) → cell (replicate n (replicate m false)) v w ≡ false
no_cell zero m v w = refl
no_cell (suc n) m zero w = unset m w
no_cell (suc n) m (suc v) w = no_cell n m v w

row_width : (n m v : ℕ) → v < n → length (get_or (replicate n (replicate m false)) v []) ≡ m
row_width zero m v h = absurd (omega arith)
row_width (suc n) m zero h = length-replicate m false
row_width (suc n) m (suc v) h = row_width n m v (omega arith)

pub none_joined : {Z : Type 0} (net : Net) (matrix : List (Vec Bool Z)) → net.links ≡ [] → items matrix ≡ replicate net.nodes (replicate net.nodes false) → IsAdjacency net matrix
none_joined net matrix none e = record {
  square = record {
    long = sym (length-items matrix) ∙ (ap length e ∙ length-replicate net.nodes (replicate net.nodes false));
    wide = λ v h. ap (λ (rows : List (List Bool)). length (get_or rows v [])) e ∙ row_width net.nodes net.nodes v h;
  };
  cells = λ v w. ap (λ rows. cell rows v w) e ∙ (no_cell net.nodes net.nodes v w ∙ ap (λ links. is_linked links v w) (sym none));
}

-- ---- with a cell set

or_true : (x : Bool) → (x || true) ≡ true
or_true true = refl
or_true false = refl

or_false : (x : Bool) → (x || false) ≡ x
or_false true = refl
or_false false = refl

-- each row has as many cells as before
width_kept : (rows : List (List Bool)) (v w a : ℕ) → v < length rows → length (get_or (with_cell rows v w) a []) ≡ length (get_or rows a [])
width_kept rows v w a h =
    elim (cases_eq a v) [
      | inl e ↦ (ap (λ u. length (get_or (with_cell rows v w) u [])) e
          ∙ (ap length (get_or-set_same rows v (set (get_or rows v []) w true) [] h) ∙ (length-set (get_or rows v []) w true ∙ ap (λ u. length (get_or rows u [])) (sym e))))
      | inr ne ↦ ap length (get_or-set_other rows v a (set (get_or rows v []) w true) [] ne)
    ]

-- in the row of the cell
row_cell : (cells : List Bool) (w b : ℕ) → w < length cells → get_or (set cells w true) b false ≡ (get_or cells b false || (w == b))
row_cell cells w b h =
    elim (cases_eq b w) [
      | inl e ↦ (let same = eq-eqb w b (sym e) in rw same (ap (λ u. get_or (set cells w true) u false) e ∙ (get_or-set_same cells w true false h ∙ sym (or_true (get_or cells b false)))))
      | inr ne ↦ (let other = ne_eqb w b (λ e. ne (sym e)) in rw other (get_or-set_other cells w b true false ne ∙ sym (or_false (get_or cells b false))))
    ]

-- the cell is set, and each other as before
with_cell_is : (rows : List (List Bool)) (v w a b : ℕ) → v < length rows → w < length (get_or rows v []) → cell (with_cell rows v w) a b ≡ (cell rows a b || ((v == a) && (w == b)))
with_cell_is rows v w a b h k =
    let longer = set (get_or rows v []) w true in
    elim (cases_eq a v) [
      | inl e ↦ (let same = eq-eqb v a (sym e) in
          rw same (ap (λ u. get_or (get_or (set rows v longer) u []) b false) e
          ∙ (ap (λ xs. get_or xs b false) (get_or-set_same rows v longer [] h) ∙ (row_cell (get_or rows v []) w b k ∙ ap (λ u. get_or (get_or rows u []) b false || (w == b)) (sym e)))))
      | inr ne ↦ (let other = ne_eqb v a (λ e. ne (sym e)) in
          rw other (ap (λ xs. get_or xs b false) (get_or-set_other rows v a longer [] ne) ∙ sym (or_false (cell rows a b))))
    ]

-- ---- two neighbours more

module _ {Z : Type 0} (rows : List (Vec Bool Z)) (f s : ℕ) (v : Vec Bool Z) where
  first_cell : (a : Vec Bool Z) → f < length rows → v.items ≡ set (get_or rows f a).items s true → items (set rows f v) ≡ with_cell (items rows) f s
  first_cell a below e = items-set rows f v (set (row rows f) s true) (e ∙ ap (λ (xs : List Bool). set xs s true) (sym (row_at rows f a below)))

  second_row : (a b : Vec Bool Z) → f < length rows → s < length rows → v.items ≡ set (get_or rows f a).items s true
      → (get_or (set rows f v) s b).items ≡ get_or (with_cell (items rows) f s) s []
  second_row a b below below' e =
      let long : s < length (set rows f v) = omega (arith, length-set rows f v) in
      sym (row_at (set rows f v) s b long) ∙ ap (λ (t : List (List Bool)). get_or t s []) (first_cell a below e)

  -- each row has room for the cell of the other
  pub second_wide : (a b : Vec Bool Z) → f < length rows → s < length rows → IsSquare rows (length rows) → v.items ≡ set (get_or rows f a).items s true
      → length (get_or (set rows f v) s b).items ≡ length rows
  second_wide a b below below' square e =
      let within : f < length (items rows) = omega (arith, length-items rows) in
      ap length (second_row a b below below' e) ∙ (width_kept (items rows) f s s within ∙ square.wide s below')

  pub joined_items : (w a b : Vec Bool Z) → f < length rows → s < length rows → v.items ≡ set (get_or rows f a).items s true
      → w.items ≡ set (get_or (set rows f v) s b).items f true → items (set (set rows f v) s w) ≡ with_joined (items rows) f s
  joined_items w a b below below' ev ew =
      let one = with_cell (items rows) f s in
      items-set (set rows f v) s w (set (get_or one s []) f true) (ew ∙ ap (λ (xs : List Bool). set xs f true) (second_row a b below below' ev))
      ∙ ap (λ (t : List (List Bool)). set t s (set (get_or one s []) f true)) (first_cell a below ev)

pub row_wide : {Z : Type 0} (rows : List (Vec Bool Z)) (f : ℕ) (a : Vec Bool Z) → f < length rows → IsSquare rows (length rows) → length (get_or rows f a).items ≡ length rows
row_wide rows f a below square = ap length (sym (row_at rows f a below)) ∙ square.wide f below

-- ---- one more link

one_of : (x p y z : Bool) → ((x || p) || (y && z)) ≡ (x || ((p || (z && y)) || false))
one_of true p y z = refl
one_of false true y z = refl
one_of false false true true = refl
one_of false false true false = refl
one_of false false false true = refl
one_of false false false false = refl

-- the matrix may be a square of its own length
pub own_square : {Z : Type 0} (net : Net) (matrix : List (Vec Bool Z)) → IsAdjacency net matrix → IsSquare matrix (length matrix)
own_square net matrix h = subst (IsSquare matrix) (sym h.square.long) h.square

-- written back to where it was
pub matrix_in : {Y Z : Type 0} (net more : Net) (old : Vec (Vec Bool Z) Y) (rows : List (Vec Bool Z)) → more.nodes ≡ net.nodes → IsAdjacency net old.items → IsAdjacency more rows
    → IsAdjacency more (with_items old rows).items
matrix_in net more old rows same h k = subst (IsAdjacency more) (sym (with_items_is old rows (k.square.long ∙ (same ∙ (sym h.square.long ∙ sym old.ok.0))))) k

module _ {Z : Type 0} (net : Net) (l : Link) (matrix more : List (Vec Bool Z)) where
  pub joined_matrix : (links : List Link) → l.first < net.nodes → l.second < net.nodes → links ≡ net.links ++ l ∷ [] → IsAdjacency net matrix
      → items more ≡ with_joined (items matrix) l.first l.second → IsAdjacency (record net { links = links }) more
  joined_matrix links below below' is old e =
      let f = l.first in
      let s = l.second in
      let rows = items matrix in
      let one = with_cell rows f s in
      let long = length-items matrix in
      let same = old.square.long in
      let f_in : f < length rows = omega arith in
      let long_one = length-set rows f (set (get_or rows f []) s true) in
      let s_in : s < length one = omega arith in
      let wide_f = old.square.wide f below in
      let wide_s = width_kept rows f s s f_in ∙ old.square.wide s below' in
      let s_cell : s < length (get_or rows f []) = omega arith in
      let f_cell : f < length (get_or one s []) = omega arith in
      record {
        square = record {
          long = sym (length-items more) ∙ (ap length e ∙ (length-set one s (set (get_or one s []) f true) ∙ (long_one ∙ (long ∙ same))));
          wide = λ v h. ap (λ (t : List (List Bool)). length (get_or t v [])) e ∙ (width_kept one s f v s_in ∙ (width_kept rows f s v f_in ∙ old.square.wide v h));
        };
        cells = λ v w. ap (λ t. cell t v w) e
            ∙ (with_cell_is one s f v w s_in f_cell
            ∙ (ap (λ x. x || ((s == v) && (f == w))) (with_cell_is rows f s v w f_in s_cell ∙ ap (λ x. x || ((f == v) && (s == w))) (old.cells v w))
            ∙ (one_of (is_linked net.links v w) ((f == v) && (s == w)) (s == v) (f == w)
            ∙ (sym (list_any-append (joins v w) net.links (l ∷ [])) ∙ ap (λ ls. is_linked ls v w) (sym is)))));
      }

-- two routers are neighbours whichever of the two is named first
pub linked_either : (links : List Link) (v w a b : ℕ) → a ≡ max v w → b ≡ min v w → is_linked links a b ≡ is_linked links v w
linked_either links v w a b greater less = elim (cases_lt v w) [
  | inl low ↦ (
      let up : a ≡ w = omega arith in
      let down : b ≡ v = omega arith in
      ap (λ x. is_linked links x b) up ∙ (ap (λ x. is_linked links w x) down ∙ linked_back links w v))
  | inr high ↦ (
      let same : a ≡ v = omega arith in
      let other : b ≡ w = omega arith in
      ap (λ x. is_linked links x b) same ∙ ap (λ x. is_linked links v x) other)
]
