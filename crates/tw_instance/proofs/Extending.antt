-- The table of the paths that extend another: made of rows, and searched.
use Rattle.std.proofs.Common.{◌≡◌, ℕ, suc, zero, inl, inr, ◌+◌, ◌-◌, ◌<◌, ◌==◌, true, List, [], ◌∷◌, length, map, get_or, drop, arith, Some, None, refl, ap, sym, ◌∙◌, subst}
use Rattle.std.specs.List.{All, Contains, position, position_or_len}
use Rattle.std.proofs.lemmas.Bool.{both_ways, cases_Bool, cases_eq, eq-eqb, eqb-true}
use Rattle.std.proofs.lemmas.List.{get_or-drop, get_or-map, get_or-take, length-drop, length-map, length-take-le}
use Rattle.std.proofs.lemmas.List.Elements.{All-cons, All-map, All-nil}
use Rattle.std.proofs.lemmas.List.Quantifiers.{position-Some}
use Rattle.tw_event.specs.declared.event.PathNo.{PathNo}
use Rattle.tw_model.specs.Net.{Net, IsPath, path, paths}
use Rattle.tw_sim.proofs.Members.{In}
use Rattle.tw_instance.specs.Chains.{AreRests, AreRows, Extends, first_node, places_of, row_of}
use Rattle.tw_instance.specs.Sparse.{cut}
use Rattle.tw_instance.specs.Firsts.{AreFirsts}
use Rattle.tw_instance.specs.Extensions.{ArePlacesOf, HasExtensions, nodes_in, places_in}
use Rattle.tw_instance.specs.declared.extensions.Extensions.{Extensions}
use Rattle.tw_instance.proofs.Chained.{places_below}
use Rattle.tw_instance.proofs.Finding.{is_path}
use Rattle.tw_instance.proofs.Hashes.{no_place}
use Rattle.tw_instance.proofs.Lists.{position-map}
use Rattle.tw_instance.proofs.Sparse.{cut_map}

-- ---- made of rows

-- what is at such a place has this number
places_hold : (xs : List ℕ) (r k : ℕ) → All (λ j. get_or xs j 0 ≡ r) (places_of xs r k)
places_hold xs r zero = All-nil (λ j. get_or xs j 0 ≡ r)
places_hold xs r (suc k) =
    elim (cases_Bool (get_or xs k 0 == r)) [
      | inl t ↦ rw t (All-cons (λ j. get_or xs j 0 ≡ r) k (places_of xs r k) (eqb-true (get_or xs k 0) r t) (places_hold xs r k))
      | inr f ↦ rw f (places_hold xs r k)
    ]

abbrev no : ℕ → PathNo
no k = record { 0 = k }

-- each place of the number is among them
has_place : (xs : List ℕ) (r k j : ℕ) → j < k → get_or xs j 0 ≡ r → In (no j) (map no (places_of xs r k))
has_place xs r zero j low is = absurd (omega arith)
has_place xs r (suc k) j low is =
    elim (cases_eq j k) [
      | inl e ↦ (let t = eq-eqb (get_or xs k 0) r (subst (λ n. get_or xs n 0 ≡ r) e is) in rw t (inl (ap no e)))
      | inr ne ↦ (
          let more = has_place xs r k j (omega arith) is in
          elim (cases_Bool (get_or xs k 0 == r)) [
            | inl t ↦ rw t (inr more)
            | inr f ↦ rw f more
          ])
    ]

contains_from_in : (q : PathNo) (qs : List PathNo) → In q qs → Contains qs q
contains_from_in q [] k = absurd k
contains_from_in q (p ∷ qs) (inl e) = (0, omega arith, sym e)
contains_from_in q (p ∷ qs) (inr k) = let c = contains_from_in q qs k in (suc c.0, let h = c.1 in omega arith, c.2)

pub has_extensions : (net : Net) (rests : List ℕ) (t : Extensions) → AreRests net (length (paths net)) rests → AreRows rests (length rests) t.starts.items t.numbers.items
    → nodes_in t.extensions.items ≡ map (first_node net) t.numbers.items → ArePlacesOf net t.numbers.items (places_in t.extensions.items)
    → AreFirsts t.starts.items t.extensions.items t.firsts.items → HasExtensions net t
has_extensions net rests t so rows nodes placed first =
    let n = so.long in
    let row = λ (p : PathNo) (h : IsPath net p). rows.rows.rows p.0 (let l = so.long in omega arith) in
    record {
      long = let m = rows.rows.long in omega arith;
      cuts = λ p h. rows.rows.cuts p.0 (let l = so.long in omega arith);
      nodes = nodes;
      places = placed;
      firsts = first;
      sound = λ p h. subst (All (λ q. Extends net q p)) (sym (row p h))
          (All-map (λ q. Extends net q p) no (places_of rests p.0 (length rests))
          (λ i d l. (so.each (no (get_or (places_of rests p.0 (length rests)) i d)) (let low = places_below rests p.0 (length rests) i d l in let m = so.long in omega arith)).sound p h
          (places_hold rests p.0 (length rests) i d l)));
      whole = λ p q h e.
          let in' : IsPath net q = is_path net q (first_node net q) (path net p) e in
          let is = (so.each q in').whole p h e in
          subst (λ qs. Contains qs q) (sym (row p h)) (contains_from_in q (row_of rests p.0) (has_place rests p.0 (length rests) q.0 (let l = so.long in omega arith) is));
    }

-- ---- searched

-- a number that stands in a list has a place there
holds_before : (v : ℕ) (ks : List ℕ) (i d : ℕ) → i < length ks → length ks < 1 + position_or_len (λ o. o == v) ks → get_or ks i d ≡ v → ⊥
holds_before v [] i d low past e = omega arith
holds_before v (k ∷ ks) i d low past e =
    elim (cases_Bool (k == v)) [
      | inl t ↦ (let here : position_or_len (λ o. o == v) (k ∷ ks) ≡ 0 = rw t refl in omega arith)
      | inr f ↦ (
          let later : position_or_len (λ o. o == v) (k ∷ ks) ≡ 1 + position_or_len (λ o. o == v) ks = rw f refl in
          elim (cases_eq i 0) [
            | inl z ↦ both_ways (k == v) f (eq-eqb k v (ap (λ n. get_or (k ∷ ks) n d) (sym z) ∙ e))
            | inr nz ↦ (
                let n : i ≡ suc (i - 1) = omega arith in
                holds_before v ks (i - 1) d (omega arith) (omega arith) (ap (λ m. get_or (k ∷ ks) m d) (sym n) ∙ e))
          ])
    ]

module _ (net : Net) (t : Extensions) (h : HasExtensions net t) (p : PathNo) (is : IsPath net p) where
  abbrev row : List PathNo
  row = cut t.starts.items p.0 t.numbers.items

  -- the first nodes of the row
  row_nodes : nodes_in (cut t.starts.items p.0 t.extensions.items) ≡ map (first_node net) row
  row_nodes = sym (cut_map (λ e. e.node) t.starts.items p.0 t.extensions.items) ∙ (ap (cut t.starts.items p.0) h.nodes ∙ cut_map (first_node net) t.starts.items p.0 t.numbers.items)

  -- a search of the row is one of its first nodes
  row_search : (v : ℕ) → position (λ e. e.node == v) (cut t.starts.items p.0 t.extensions.items) ≡ position (λ o. o == v) (map (first_node net) row)
  row_search v = sym (position-map (λ e. e.node) v (cut t.starts.items p.0 t.extensions.items)) ∙ ap (position (λ o. o == v)) row_nodes

  -- the place of a node in the row is that of an extension by it
  pub finds_extension : (v i : ℕ) (x : PathNo) → position (λ e. e.node == v) (cut t.starts.items p.0 t.extensions.items) ≡ Some i
      → x ≡ get_or t.numbers.items (get_or t.starts.items p.0 0 + i) x → path net x ≡ v ∷ path net p
  finds_extension v i x found e =
      let s = get_or t.starts.items p.0 0 in
      let m = get_or t.starts.items (p.0 + 1) 0 - s in
      let at = position-Some (λ o. o == v) (map (first_node net) row) i (first_node net x) (sym (row_search v) ∙ found) in
      let below : i < length row = (let n = length-map row (first_node net) in let l = at.0 in omega arith) in
      let c = h.cuts p is in
      let up = c.rises in
      let in' = c.within in
      let rest = length-drop s t.numbers.items in
      let long = length-take-le m (drop s t.numbers.items) (omega arith) in
      let fits : i < m = omega arith in
      let here : get_or row i x ≡ x = get_or-take m (drop s t.numbers.items) i x fits ∙ (get_or-drop s t.numbers.items i x ∙ sym e) in
      let passes : (first_node net x == v) ≡ true =
      subst (λ (q : PathNo). (first_node net q == v) ≡ true) here (subst (λ k. (k == v) ≡ true) (get_or-map (first_node net) row i x (first_node net x) below) at.1) in
      let sound : Extends net x p = subst (λ q. Extends net q p) here (h.sound p is i x below) in
      sound ∙ ap (λ k. k ∷ path net p) (eqb-true (first_node net x) v passes)

  -- where the node is not in the row, no path is such an extension
  pub finds_none : (v : ℕ) (q : PathNo) → position (λ e. e.node == v) (cut t.starts.items p.0 t.extensions.items) ≡ None → path net q ≡ v ∷ path net p → ⊥
  finds_none v q none e =
      let first : first_node net q ≡ v = ap (λ ns. get_or ns 0 0) e in
      let extends : Extends net q p = e ∙ ap (λ k. k ∷ path net p) (sym first) in
      let c = h.whole p q is extends in
      let past = no_place (λ o. o == v) (map (first_node net) row) (sym none ∙ row_search v) in
      let here : first_node net (get_or row c.0 q) ≡ v = ap (first_node net) c.2 ∙ first in
      let low = c.1 in
      let n = length-map row (first_node net) in
      holds_before v (map (first_node net) row) c.0 (first_node net q) (omega arith) past (get_or-map (first_node net) row c.0 q (first_node net q) c.1 ∙ here)
