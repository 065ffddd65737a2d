-- The neighbours of a router, and what one more link adds to them.
use Rattle.std.proofs.Common.{◌≡◌, ℕ, suc, zero, ◌+◌, ◌<◌, ◌≤◌, ◌==◌, true, false, ◌&&◌, List, [], ◌∷◌, ◌++◌, length, arith, nat_lt}
use Rattle.std.proofs.Common.{refl, ap, sym, ◌∙◌, inl, inr, Option, Some, None, find, filter_map, option_map, IfSome, insert}
use Rattle.std.specs.List.{range_with_len, AllByRecursion, cons_option, prefix_len}
use Rattle.std.proofs.Math.Numerals.{one-add}
use Rattle.std.proofs.lemmas.Option.{IfSome_then}
use Rattle.std.proofs.lemmas.Bool.{cases_Bool, cases_eq, eq-eqb, lt-ltb, le-ltb, ne_eqb, and_left, and_right, or_from, or_parts}
use Rattle.tw_model.specs.declared.net.Hop.{Hop}
use Rattle.tw_model.specs.declared.net.Link.{Link}
use Rattle.tw_model.specs.Net.{Net, delay_from, hop_to, hops_of, joins}
use Rattle.tw_model.specs.Rules.{is_linked}
use Rattle.tw_model.proofs.Nets.{joins_back, linked_back}
use Rattle.tw_instance.specs.Tables.{hop_back, hop_there, with_hop}
use Rattle.tw_instance.proofs.Lists.{find_more, find_new}
use Rattle.tw_instance.proofs.Rows.{IsLinkedTable}

-- ---- hops that are listed by their number

-- h gives of each number a hop of that number, or none
abbrev pub IsNamed : (ℕ → Option Hop) → Type 0
IsNamed h = (w : ℕ) → IfSome (h w) (λ x. x.peer ≡ w)

-- the hops of so many numbers from a on
abbrev pub hops_from : (ℕ → Option Hop) → ℕ → ℕ → List Hop
hops_from h a n = filter_map h (range_with_len a n)

all_cons_option : (P : Hop → Type 0) (o : Option Hop) (xs : List Hop) → IfSome o P → AllByRecursion P xs → AllByRecursion P (cons_option o xs)
all_cons_option P None xs p all = all
all_cons_option P (Some x) xs p all = (p, all)

-- what holds of the hop of each number from a on holds of each of them
pub all_from : (P : Hop → Type 0) (h : ℕ → Option Hop) (n a : ℕ) → ((w : ℕ) → a ≤ w → w < a + n → IfSome (h w) P) → AllByRecursion P (hops_from h a n)
all_from P h zero a each = tt
all_from P h (suc n) a each =
    let rest = all_from P h n (a + 1) (λ w low high. each w (omega arith) (omega arith)) in
    all_cons_option P (h a) (hops_from h (a + 1) n) (each a (omega arith) (omega arith)) rest

-- ---- a hop among others in ascending order

pub length-with_hop : (x : Hop) (ys : List Hop) → length (with_hop x ys) ≡ suc (length ys)
length-with_hop x [] = refl
length-with_hop x (y ∷ ys) =
    elim (cases_Bool (nat_lt y.peer x.peer)) [
      | inl t ↦ rw t (ap suc (length-with_hop x ys))
      | inr f ↦ rw f refl
    ]

-- it stands behind those of a lower number
pub insert_hop : (x : Hop) (ys : List Hop) → insert ys (prefix_len (λ y. nat_lt y.peer x.peer) ys) x ≡ with_hop x ys
insert_hop x [] = refl
insert_hop x (y ∷ ys) =
    elim (cases_Bool (nat_lt y.peer x.peer)) [
      | inl t ↦ rw (t, one-add) (ap (λ zs. y ∷ zs) (insert_hop x ys))
      | inr f ↦ rw f refl
    ]

before_all : (x : Hop) (ys : List Hop) → AllByRecursion (λ y. x.peer < y.peer) ys → with_hop x ys ≡ x ∷ ys
before_all x [] h = refl
before_all x (y ∷ ys) h = rw (le-ltb y.peer x.peer (let low = h.0 in omega arith)) refl

after_lower : (o : Option Hop) (x : Hop) (xs : List Hop) → IfSome o (λ y. y.peer < x.peer) → with_hop x (cons_option o xs) ≡ cons_option o (with_hop x xs)
after_lower None x xs h = refl
after_lower (Some y) x xs h = rw (lt-ltb y.peer x.peer h) refl

hops_same : (h k : ℕ → Option Hop) (n a : ℕ) → ((w : ℕ) → a ≤ w → k w ≡ h w) → hops_from k a n ≡ hops_from h a n
hops_same h k zero a same = refl
hops_same h k (suc n) a same = rw (same a (omega arith)) (ap (cons_option (h a)) (hops_same h k n (a + 1) (λ w low. same w (omega arith))))

-- where only the hop of b is new, it comes in its place
pub hops_more : (h k : ℕ → Option Hop) → IsNamed h → (b : ℕ) (x : Hop) → x.peer ≡ b → h b ≡ None → k b ≡ Some x → ((w : ℕ) → (w ≡ b → ⊥) → k w ≡ h w)
    → (n a : ℕ) → a ≤ b → b < a + n → hops_from k a n ≡ with_hop x (hops_from h a n)
hops_more h k named b x e none some same zero a low high = absurd (omega arith)
hops_more h k named b x e none some same (suc n) a low high =
    elim (cases_eq a b) [
      | inl here ↦
          (let none' : h a ≡ None = ap h here ∙ none in
          let some' : k a ≡ Some x = ap k here ∙ some in
          let rest = hops_same h k n (a + 1) (λ w from. same w (λ i. let j : w ≡ b = i in omega arith)) in
          let above = all_from (λ y. x.peer < y.peer) h n (a + 1) (λ w from below. IfSome_then (h w) (named w) (λ y i. omega arith)) in
          rw (none', some') (ap (λ xs. x ∷ xs) rest ∙ sym (before_all x (hops_from h (a + 1) n) above)))
      | inr other ↦
          (let lower = IfSome_then (h a) {Q = λ y. y.peer < x.peer} (named a) (λ y i. let ne : a ≡ b → ⊥ = other in omega arith) in
          let rest = hops_more h k named b x e none some same n (a + 1) (let ne : a ≡ b → ⊥ = other in omega arith) (omega arith) in
          rw (same a other) (ap (cons_option (h a)) rest ∙ sym (after_lower (h a) x (hops_from h (a + 1) n) lower)))
    ]

-- ---- of a net

-- w as a neighbour of v, over the link
abbrev hop_by : ℕ → ℕ → Link → Hop
hop_by v w l = record { peer = w; delay = delay_from v l }

named_of : (v w : ℕ) (o : Option Link) → IfSome (option_map (hop_by v w) o) (λ x. x.peer ≡ w)
named_of v w None = tt
named_of v w (Some l) = refl

pub named_hop : (links : List Link) (v w : ℕ) → IfSome (hop_to links v w) (λ x. x.peer ≡ w)
named_hop links v w = named_of v w (find (joins v w) links)

-- ---- one more link

find_none : (links : List Link) (v w : ℕ) → is_linked links v w ≡ false → find (joins v w) links ≡ None
find_none [] v w h = refl
find_none (l ∷ links) v w h = let parts = or_parts (joins v w l) (is_linked links v w) h in rw parts.0 (find_none links v w parts.1)

abbrev hop_for : ℕ → ℕ → Option Link → Option Hop
hop_for v w o = option_map (hop_by v w) o

-- a link adds its other end to the neighbours of an end
pub hops_added : (net : Net) (l : Link) (v w : ℕ) → w < net.nodes → joins v w l ≡ true → ((u : ℕ) → (u ≡ w → ⊥) → joins v u l ≡ false) → is_linked net.links v w ≡ false
    → hops_of (record net { links = net.links ++ l ∷ [] }) v ≡ with_hop (hop_by v w l) (hops_of net v)
unfolding hops_of
hops_added net l v w below ends only new =
    let none = find_none net.links v w new in
    hops_more (hop_to net.links v) (hop_to (net.links ++ l ∷ []) v) (named_hop net.links v) w (hop_by v w l) refl
    (ap (hop_for v w) none)
    (ap (hop_for v w) (find_new (joins v w) net.links l ends none))
    (λ u ne. ap (hop_for v u) (find_more (joins v u) net.links l (only u ne)))
    net.nodes 0 (omega arith) (omega arith)

-- and none to those of others
pub hops_kept : (net : Net) (l : Link) (v : ℕ) → ((u : ℕ) → joins v u l ≡ false) → hops_of (record net { links = net.links ++ l ∷ [] }) v ≡ hops_of net v
unfolding hops_of
hops_kept net l v none = hops_same (hop_to net.links v) (hop_to (net.links ++ l ∷ []) v) net.nodes 0 (λ u low. ap (hop_for v u) (find_more (joins v u) net.links l (none u)))

joins_first : (l : Link) → joins l.first l.second l ≡ true
joins_first l = rw (eq-eqb l.first l.first refl, eq-eqb l.second l.second refl) refl

joins_first_only : (l : Link) (u : ℕ) → (l.first ≡ l.second → ⊥) → (u ≡ l.second → ⊥) → joins l.first u l ≡ false
joins_first_only l u apart ne =
    let a : (l.second == u) ≡ false = ne_eqb l.second u (λ e. ne (sym e)) in
    let b : (l.second == l.first) ≡ false = ne_eqb l.second l.first (λ e. apart (sym e)) in
    or_from (l.first == l.first && l.second == u) (l.first == u && l.second == l.first) (and_right (l.first == l.first) (l.second == u) a) (and_right (l.first == u) (l.second == l.first) b)

joins_second_only : (l : Link) (u : ℕ) → (l.first ≡ l.second → ⊥) → (u ≡ l.first → ⊥) → joins l.second u l ≡ false
joins_second_only l u apart ne =
    let a : (l.first == l.second) ≡ false = ne_eqb l.first l.second apart in
    let b : (l.first == u) ≡ false = ne_eqb l.first u (λ e. ne (sym e)) in
    or_from (l.first == l.second && l.second == u) (l.first == u && l.second == l.second) (and_left (l.first == l.second) (l.second == u) a) (and_left (l.first == u) (l.second == l.second) b)

joins_apart : (l : Link) (v u : ℕ) → (v ≡ l.first → ⊥) → (v ≡ l.second → ⊥) → joins v u l ≡ false
joins_apart l v u ne nf =
    let a : (l.first == v) ≡ false = ne_eqb l.first v (λ e. ne (sym e)) in
    let b : (l.second == v) ≡ false = ne_eqb l.second v (λ e. nf (sym e)) in
    or_from (l.first == v && l.second == u) (l.first == u && l.second == v) (and_left (l.first == v) (l.second == u) a) (and_right (l.first == u) (l.second == v) b)

-- from its first end a link takes the delay, from its second the one back
hop_from_first : (l : Link) → hop_by l.first l.second l ≡ hop_there l
hop_from_first l = rw (eq-eqb l.first l.first refl) refl

hop_from_second : (l : Link) → (l.first ≡ l.second → ⊥) → hop_by l.second l.first l ≡ hop_back l
hop_from_second l apart = rw (ne_eqb l.first l.second apart) refl

-- the neighbours after one more link: its ends have each other
pub is_joined : (net : Net) (l : Link) → l.first < net.nodes → l.second < net.nodes → (l.first ≡ l.second → ⊥) → is_linked net.links l.first l.second ≡ false
    → IsLinkedTable (hops_of net) (hops_of (record net { links = net.links ++ l ∷ [] })) l
is_joined net l below below' apart new = record {
  first =
      let added = hops_added net l l.first l.second below' (joins_first l) (λ u ne. joins_first_only l u apart ne) new in
      ap (λ x. with_hop x (hops_of net l.first)) (sym (hop_from_first l)) ∙ sym added;
  second =
      let back = joins_back l.second l.first l ∙ joins_first l in
      let added = hops_added net l l.second l.first below back (λ u ne. joins_second_only l u apart ne) (linked_back net.links l.second l.first ∙ new) in
      ap (λ x. with_hop x (hops_of net l.second)) (sym (hop_from_second l apart)) ∙ sym added;
  others = λ v ne nf. sym (hops_kept net l v (λ u. joins_apart l v u ne nf));
}

-- no hop to anyone where there is no link
pub none_there : (n a v : ℕ) → hops_from (hop_to [] v) a n ≡ []
none_there zero a v = refl
none_there (suc n) a v = none_there n (a + 1) v
