-- What the rules of an instance give: its neighbours and its paths.
use Rattle.std.proofs.Common.{◌≡◌, ℕ, suc, zero, ◌+◌, ◌<◌, ◌≤◌, ◌==◌, Bool, true, false, cond, ◌&&◌, ◌||◌, List, [], ◌∷◌, ◌++◌, length, filter, get_or, Option, Some, None, refl, ap, sym, ◌∙◌, subst, inl, inr, arith, nat_lt, nat_le, append-nil, append_assoc}
use Rattle.std.specs.List.{cons_option, position_or_len, filter_map, find, range_with_len}
use Rattle.std.specs.Option.{option_map}
use Rattle.std.proofs.lemmas.List.Sums.{passes_at_first}
use Rattle.std.proofs.lemmas.Bool.{cases_Bool, both_ways, and_parts, or_parts, or_cases, not-false, ltb-true, leb-true, leb-false, eqb-true, eqb-false, eq-eqb, ne_eqb, lt-ltb, false_from_ne_true}
use Rattle.std.proofs.Math.Bool.{or_comm}
use Rattle.std.proofs.lemmas.List.{length-append}
use Rattle.std.proofs.lemmas.List.Elements.{filter-append}
use Rattle.tw_model.specs.declared.net.Hop.{Hop}
use Rattle.tw_model.specs.declared.net.Link.{Link}
use Rattle.tw_model.specs.declared.rule.Rule.{Rule}
use Rattle.tw_model.specs.declared.rule.Rule.TheVariants.{Range, SelfLink, Delay}
use Rattle.tw_model.specs.Net.{Net, delay_from, joins, hop_to, hops_of}
use Rattle.tw_model.specs.State.{has_peer, hop, no_hop, slot}
use Rattle.tw_model.specs.Rules.{IsNet, LinksFollow, degree, is_linked, is_within, link_breaks, link_fault, nodes_fault}
use Rattle.tw_model.proofs.Unbroken.{none_broken}
use Rattle.tw_sim.proofs.Members.{In, in_find, in_filter_map, in_filter_mapped, in_get_or, in_range, place_within, range_has, find_agree, find_some}

-- a number of routers that keeps the rules
pub nodes_within : (n : ℕ) → nodes_fault n ≡ None → (1 ≤ n) × (n ≤ 1024)
nodes_within n h = grind arith

-- a link that keeps the rules
pub record IsLink (nodes : ℕ) (l : Link) : Type 0 where
  pub first : l.first < nodes
  pub second : l.second < nodes
  pub apart : l.first ≡ l.second → ⊥
  pub least : 1 ≤ l.delay
  pub most : l.delay ≤ 1000000
  pub back_least : 1 ≤ l.back
  pub back_most : l.back ≤ 1000000

pub is_link : (net : Net) (l : Link) → ((r : Rule) → link_breaks net l r ≡ false) → IsLink net.nodes l
is_link net l k =
    let range = and_parts (nat_lt l.first net.nodes) (nat_lt l.second net.nodes) (not-false _ (k Range)) in
    let both = and_parts (is_within 1 1000000 l.delay) (is_within 1 1000000 l.back) (not-false _ (k Delay)) in
    let delay = and_parts (nat_le 1 l.delay) (nat_le l.delay 1000000) both.0 in
    let back = and_parts (nat_le 1 l.back) (nat_le l.back 1000000) both.1 in
    record {
      first = ltb-true l.first net.nodes range.0;
      second = ltb-true l.second net.nodes range.1;
      apart = eqb-false l.first l.second (k SelfLink);
      least = leb-true 1 l.delay delay.0;
      most = leb-true l.delay 1000000 delay.1;
      back_least = leb-true 1 l.back back.0;
      back_most = leb-true l.back 1000000 back.1;
    }

links_kept : (net : Net) (links : List Link) → LinksFollow net links → (l : Link) → In l links → IsLink net.nodes l
links_kept net (x ∷ links) h l (inl e) = subst (IsLink net.nodes) (sym e) (is_link net x (none_broken (link_breaks net x) h.0))
links_kept net (x ∷ links) h l (inr k) = links_kept (record net { links = net.links ++ x ∷ [] }) links h.1 l k
links_kept net [] h l k = absurd k

-- links are between two different routers and take 1 to 1,000,000 ticks each way
pub is_link_of : (net : Net) → IsNet net → (l : Link) → In l net.links → IsLink net.nodes l
is_link_of net is l h = links_kept (record { nodes = net.nodes; links = []; permitted = [] }) net.links is.links l h

-- what joins two routers, joins them the other way round
pub joins_back : (v w : ℕ) (l : Link) → joins v w l ≡ joins w v l
joins_back v w l = or_comm (l.first == v && l.second == w) (l.first == w && l.second == v)

pub linked_back : (links : List Link) (v w : ℕ) → is_linked links v w ≡ is_linked links w v
linked_back [] v w = refl
linked_back (l ∷ links) v w = rw (joins_back v w l, linked_back links v w) refl

-- two routers joined by a link are different and there
pub record AreJoined (net : Net) (v w : ℕ) : Type 0 where
  pub here : v < net.nodes
  pub there : w < net.nodes
  pub apart : v ≡ w → ⊥

pub joined_by : (net : Net) (v w : ℕ) (l : Link) → IsLink net.nodes l → joins v w l ≡ true → AreJoined net v w
joined_by net v w l is h = grind arith

-- whichever end sends, a message takes 1 to 1,000,000 ticks
delay_within : (nodes v : ℕ) (l : Link) → IsLink nodes l → (1 ≤ delay_from v l) × (delay_from v l ≤ 1000000)
delay_within nodes v l is = elim (cases_Bool (l.first == v)) [ inl b ↦ rw b (is.least, is.most) | inr b ↦ rw b (is.back_least, is.back_most) ]

-- the link behind a hop
pub record IsHop (net : Net) (v : ℕ) (h : Hop) (l : Link) : Type 0 where
  pub given : In l net.links
  pub between : joins v h.peer l ≡ true
  pub first : find (joins v h.peer) net.links ≡ Some l
  pub delay : h.delay ≡ delay_from v l

hop_from : (links : List Link) (v w : ℕ) (h : Hop) (o : Option Link) → find (joins v w) links ≡ o → option_map (λ l. record { peer = w; delay = delay_from v l }) o ≡ Some h
    → (l : Link) × (find (joins v w) links ≡ Some l) × (h ≡ record { peer = w; delay = delay_from v l })
hop_from links v w h None e k = cc
hop_from links v w h (Some l) e k = (l, e, (let r : Some h ≡ Some (record { peer = w; delay = delay_from v l }) = sym k in cc))

pub hop_of : (net : Net) (v : ℕ) (h : Hop) → In h (hops_of net v) → (l : Link) × IsHop net v h l × (h.peer < net.nodes)
unfolding hops_of
hop_of net v h k =
    let a = in_filter_map (hop_to net.links v) h (range_with_len 0 net.nodes) k in
    let b = hop_from net.links v a.0 h (find (joins v a.0) net.links) refl a.1 in
    let peer : h.peer ≡ a.0 = ap (λ z. z.peer) b.2 in
    let found : find (joins v h.peer) net.links ≡ Some b.0 = subst (λ z. find (joins v z) net.links ≡ Some b.0) (sym peer) b.1 in
    let within = in_range a.0 0 net.nodes a.2 in
    let r = in_find (joins v h.peer) b.0 net.links found in
    (b.0, record { given = r.1; between = r.0; first = found; delay = ap (λ z. z.delay) b.2 }, omega arith)

-- a neighbour
pub record IsNeighbour (net : Net) (v : ℕ) (h : Hop) : Type 0 where
  pub here : v < net.nodes
  pub there : h.peer < net.nodes
  pub apart : v ≡ h.peer → ⊥
  pub least : 1 ≤ h.delay
  pub most : h.delay ≤ 1000000

pub neighbour : (net : Net) → IsNet net → (v : ℕ) (h : Hop) → In h (hops_of net v) → IsNeighbour net v h
neighbour net is v h k = grind (arith, hop_of, is_link_of, joined_by, delay_within)

-- routers that a link joins are neighbours
pub hop_between : (net : Net) (v w : ℕ) → w < net.nodes → is_linked net.links v w ≡ true → (h : Hop) × In h (hops_of net v) × (h.peer ≡ w)
unfolding hops_of
hop_between net v w below linked =
    let f = find_some (joins v w) net.links linked in
    let h : Hop = record { peer = w; delay = delay_from v f.0 } in
    let e : hop_to net.links v w ≡ Some h = rw f.1 refl in
    (h, in_filter_mapped (hop_to net.links v) w h (range_with_len 0 net.nodes) e (range_has w 0 net.nodes (omega arith) (omega arith)), refl)

hop_in : (net : Net) (v w : ℕ) (h : Hop) → hop_to net.links v w ≡ Some h → w < net.nodes → In h (hops_of net v)
unfolding hops_of
hop_in net v w h e below =
    in_filter_mapped (hop_to net.links v) w h (range_with_len 0 net.nodes) e (range_has w 0 net.nodes (omega arith) (omega arith))

-- a neighbour has one back, over the same link
pub hop_back : (net : Net) → IsNet net → (v : ℕ) (h : Hop) → In h (hops_of net v) → (b : Hop) × In b (hops_of net h.peer) × (b.peer ≡ v)
hop_back net is v h k =
    let a = hop_of net v h k in
    let n = neighbour net is v h k in
    let l = a.0 in
    let back = sym (find_agree (joins v h.peer) (joins h.peer v) (joins_back v h.peer) net.links) ∙ a.1.first in
    let b : Hop = record { peer = v; delay = delay_from h.peer l } in
    let e : hop_to net.links h.peer v ≡ Some b = rw back refl in
    (b, hop_in net h.peer v b e n.here, refl)

-- each neighbour has a higher number than those before it
abbrev pub Rises : List Hop → Type 0
Rises [] = Unit {0}
Rises (h ∷ hs) = ((x : Hop) → In x hs → h.peer < x.peer) × Rises hs

hops_rise : (links : List Link) (v a n : ℕ) → Rises (filter_map (hop_to links v) (range_with_len a n))
hops_rise links v a zero = tt
hops_rise links v a (suc n) = at (hop_to links v a) refl (hops_rise links v (a + 1) n) where
  at : (o : Option Hop) → hop_to links v a ≡ o → Rises (filter_map (hop_to links v) (range_with_len (a + 1) n)) → Rises (cons_option o (filter_map (hop_to links v) (range_with_len (a + 1) n)))
  at None e r = r
  at (Some h) e r = (
    (λ x k.
        let b = in_filter_map (hop_to links v) x (range_with_len (a + 1) n) k in
        let within = in_range b.0 (a + 1) n b.2 in
        let c = hop_from links v b.0 x (find (joins v b.0) links) refl b.1 in
        let d = hop_from links v a h (find (joins v a) links) refl e in
        let c_peer : x.peer ≡ b.0 = ap (λ z. z.peer) c.2 in
        let d_peer : h.peer ≡ a = ap (λ z. z.peer) d.2 in
        omega arith),
    r,
  )

pub hops_rises : (net : Net) (v : ℕ) → Rises (hops_of net v)
unfolding hops_of
hops_rises net v = hops_rise net.links v 0 net.nodes

-- the place of a neighbour is its slot
rise_slot : (hs : List Hop) → Rises hs → (k : ℕ) (d : Hop) → k < length hs → position_or_len (λ h. h.peer == (get_or hs k d).peer) hs ≡ k
rise_slot [] r k d l = absurd (omega arith)
rise_slot (h ∷ hs) r zero d l = rw (eq-eqb h.peer h.peer refl) refl
rise_slot (h ∷ hs) r (suc k) d l =
    let less = r.0 (get_or hs k d) (in_get_or hs k d (omega arith)) in
    let more = rise_slot hs r.1 k d (omega arith) in
    rw (ne_eqb h.peer (get_or hs k d).peer (λ e. absurd (omega arith))) (omega arith)

pub slot_at : (net : Net) (v k : ℕ) → k < length (hops_of net v) → slot net v (hop net v k).peer ≡ k
unfolding hops_of
slot_at net v k l = rise_slot (hops_of net v) (hops_rise net.links v 0 net.nodes) k no_hop l

-- the neighbour of a slot, and that it is one
pub hop_in_hops : (net : Net) (v k : ℕ) → k < length (hops_of net v) → In (hop net v k) (hops_of net v)
hop_in_hops net v k l = in_get_or (hops_of net v) k no_hop l

pub hop_slot : (net : Net) (v w : ℕ) → has_peer net v w ≡ true → (hop net v (slot net v w)).peer ≡ w
hop_slot net v w h =
    eqb-true (hop net v (slot net v w)).peer w (passes_at_first (λ x. x.peer == w) (hops_of net v) no_hop (ltb-true (slot net v w) (length (hops_of net v)) h))

pub has_peer_of : (net : Net) (v : ℕ) (h : Hop) → In h (hops_of net v) → has_peer net v h.peer ≡ true
has_peer_of net v h k =
    lt-ltb (slot net v h.peer) (length (hops_of net v)) (place_within (λ x. x.peer == h.peer) h (hops_of net v) (eq-eqb h.peer h.peer refl) k)

has_peer_both : (net : Net) (w v : ℕ) (h : Hop) (x : ℕ) → x ≡ w → In h (hops_of net x) → h.peer ≡ v → has_peer net w v ≡ true
has_peer_both net w v h x e k p = subst (λ y. has_peer net w y ≡ true) p (has_peer_of net w h (subst (λ y. In h (hops_of net y)) e k))

-- neighbours are neighbours of each other
pub has_peer_back : (net : Net) → IsNet net → (v w : ℕ) → has_peer net v w ≡ true → has_peer net w v ≡ true
has_peer_back net is v w h =
    let k = ltb-true (slot net v w) (length (hops_of net v)) h in
    let b = hop_back net is v (hop net v (slot net v w)) (hop_in_hops net v (slot net v w) k) in
    has_peer_both net w v b.0 (hop net v (slot net v w)).peer (hop_slot net v w h) b.1 b.2

-- routers that a link joins are neighbours
pub has_peer_linked : (net : Net) (v w : ℕ) → w < net.nodes → is_linked net.links v w ≡ true → has_peer net v w ≡ true
has_peer_linked net v w below linked =
    let h = hop_between net v w below linked in
    has_peer_both net v w h.0 v refl h.1 h.2

-- ---- at most 64 neighbours

length_none : {X : Type 0} (p : X → Bool) (xs : List X) → ((x : X) → In x xs → p x ≡ false) → length (filter p xs) ≡ 0
length_none p [] h = refl
length_none p (x ∷ xs) h = rw (h x (inl refl)) (length_none p xs (λ y k. h y (inr k)))

length_one : (p : ℕ → Bool) (c : ℕ) → ((w : ℕ) → p w ≡ true → w ≡ c) → (a n : ℕ) → length (filter p (range_with_len a n)) ≤ 1
length_one p c h a zero = omega arith
length_one p c h a (suc n) =
    elim (cases_Bool (p a)) [
      | inl b ↦ rw b (
          let is = h a b in
          let none = length_none p (range_with_len (a + 1) n) (λ w k. let r = in_range w (a + 1) n k in false_from_ne_true (p w) (λ t. let same = h w t in absurd (omega arith))) in
          omega arith)
      | inr b ↦ rw b (length_one p c h (a + 1) n)
    ]

touches : ℕ → Link → Bool
touches v l = l.first == v || l.second == v

other_end : (v w : ℕ) (l : Link) → joins v w l ≡ true → w ≡ cond (l.first == v) l.second l.first
other_end v w l h = grind arith

joins_touches : (v w : ℕ) (l : Link) → joins v w l ≡ true → touches v l ≡ true
unfolding touches
joins_touches v w l h = grind arith

link_gives : (v a n : ℕ) (l : Link) → length (filter (λ w. joins v w l) (range_with_len a n)) ≤ cond (touches v l) 1 0
link_gives v a n l =
    elim (cases_Bool (touches v l)) [
      | inl b ↦ rw b (length_one (λ w. joins v w l) (cond (l.first == v) l.second l.first) (λ w h. other_end v w l h) a n)
      | inr b ↦ rw b (let none = length_none (λ w. joins v w l) (range_with_len a n) (λ w k. false_from_ne_true (joins v w l) (λ t. both_ways (touches v l) b (joins_touches v w l t))) in omega arith)
    ]

hops_split : (l : Link) (links : List Link) (v : ℕ) (ws : List ℕ)
    → length (filter_map (hop_to (l ∷ links) v) ws) ≤ length (filter (λ w. joins v w l) ws) + length (filter_map (hop_to links v) ws)
hops_split l links v [] = omega arith
hops_split l links v (w ∷ ws) = grind (arith, cases_Bool, filter, hops_split l links v ws)

no_hops : (v : ℕ) (ws : List ℕ) → length (filter_map (hop_to [] v) ws) ≡ 0
no_hops v [] = refl
no_hops v (w ∷ ws) = no_hops v ws

degree_hops : (links : List Link) (v n : ℕ) → length (filter_map (hop_to links v) (range_with_len 0 n)) ≤ degree links v
unfolding touches
degree_hops [] v n = let none = no_hops v (range_with_len 0 n) in omega arith
degree_hops (l ∷ links) v n = grind (arith, hops_split, link_gives, cases_Bool, touches, degree_hops links v n)

degree_more : (net : Net) (x : Link) → link_fault net x ≡ None → ((v : ℕ) → degree net.links v ≤ 64) → (v : ℕ) → degree (net.links ++ x ∷ []) v ≤ 64
degree_more net x fault h v = grind (arith, or_parts, nat_le, none_broken, leb-false, filter, filter-append, length-append, cases_Bool, or_cases, eqb-true)

degree_few : (net : Net) (links : List Link) → ((v : ℕ) → degree net.links v ≤ 64) → LinksFollow net links → (v : ℕ) → degree (net.links ++ links) v ≤ 64
degree_few net [] h f v = rw append-nil (h v)
degree_few net (x ∷ links) h f v = grind (arith, degree_more, append_assoc, degree_few (record net { links = net.links ++ x ∷ [] }) links (degree_more net x f.0 h) f.1 v)

-- a router has at most 64 neighbours
pub hops_few : (net : Net) → IsNet net → (v : ℕ) → length (hops_of net v) ≤ 64
unfolding hops_of
hops_few net is v =
    let a = degree_few (record { nodes = net.nodes; links = []; permitted = [] }) net.links (λ w. omega arith) is.links v in
    let b = degree_hops net.links v net.nodes in
    omega arith
