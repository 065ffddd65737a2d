-- Look-ups in the tables of a whole instance.
use Rattle.std.proofs.Common.{◌≡◌, ℕ, ◌<◌, ◌==◌, true, List, [], ◌∷◌, length, map, get_or, arith, Option, Some, None, IsTrue, SomeIff, refl, ap, subst, sym, ◌∙◌, inl, inr}
use Rattle.std.specs.List.{All, position, slice_get}
use Rattle.std.proofs.lemmas.Bool.{cases_Bool, cases_lt, lt-ltb}
use Rattle.std.proofs.lemmas.List.{get_or-map, length-map}
use Rattle.std.proofs.lemmas.Option.{get_or_from_slice_get, slice_get_within}
use Rattle.tw_event.specs.declared.event.PathNo.{PathNo}
use Rattle.tw_model.specs.declared.net.Hop.{Hop}
use Rattle.tw_model.specs.Net.{Net, IsPath, hops_of}
use Rattle.tw_model.specs.Rules.{IsNet}
use Rattle.tw_model.specs.State.{has_peer, hop, no_hop, slot}
use Rattle.tw_model.proofs.Nets.{slot_at}
use Rattle.tw_instance.specs.Extensions.{HasExtensions, HasRow}
use Rattle.tw_instance.specs.Guesses.{AreGuesses}
use Rattle.tw_instance.specs.Hops.{peers_of}
use Rattle.tw_instance.specs.Orders.{StandAsIn}
use Rattle.tw_instance.specs.Peers.{HasPeers}
use Rattle.tw_instance.specs.Sparse.{AreRowsOf}
use Rattle.tw_instance.specs.declared.extensions.Extensions.{Extensions}
use Rattle.tw_instance.specs.declared.peers.Peers.{Peers}
use Rattle.tw_instance.proofs.Links.{no_hops}
use Rattle.tw_instance.proofs.Lists.{position-map}
use Rattle.tw_instance.proofs.Sparse.{cut_past}

-- what holds of all holds of the first
pub at_first : {X : Type 0} (P : X → Type 0) (xs : List X) (x : X) → All P xs → Some x ≡ slice_get xs 0 → P x
at_first P xs x all e = subst P (get_or_from_slice_get xs 0 x x (sym e)) (all 0 x (slice_get_within xs 0 x (sym e)))

-- ---- the slot of a neighbour

nil_of : {X : Type 0} (xs : List X) → length xs ≡ 0 → xs ≡ []
nil_of [] e = refl
nil_of (x ∷ xs) e = absurd (omega arith)

pub slot_map : (w : ℕ) (hops : List Hop) → position (λ o. o == w) (map (λ h. h.peer) hops) ≡ position (λ h. h.peer == w) hops
slot_map w hops = position-map (λ h. h.peer) w hops

pub is_slot : (net : Net) (v w : ℕ) (o : Option ℕ) → o ≡ position (λ h. h.peer == w) (hops_of net v) → SomeIff o (IsTrue (has_peer net v w)) (slot net v w)
is_slot net v w o e =
    elim (cases_Bool (has_peer net v w)) [
      | inl t ↦ (
          let found : o ≡ Some (slot net v w) = e ∙ rw t refl in
          rw (found, t) (refl, refl))
      | inr f ↦ (
          let none : o ≡ None = e ∙ rw f refl in
          rw (none, f) (λ h. cc))
    ]

-- where the neighbour stands in the row is its slot
pub at_slot : (net : Net) (v w k : ℕ) → k < length (hops_of net v) → get_or (peers_of net v) k 0 ≡ w → SomeIff (Some k) (IsTrue (has_peer net v w)) (slot net v w)
at_slot net v w k low is =
    let here : (hop net v k).peer ≡ w = sym (get_or-map (λ h. h.peer) (hops_of net v) k no_hop 0 low) ∙ is in
    let at : slot net v w ≡ k = ap (slot net v) (sym here) ∙ slot_at net v k low in
    let there : has_peer net v w ≡ true = rw at (lt-ltb k (length (hops_of net v)) low) in
    (there, sym at)

-- rows behind one another hold the neighbours of each router
pub has_peers : (net : Net) (t : Peers) → IsNet net → AreRowsOf (peers_of net) net.nodes t.starts.items t.neighbours.items
    → length t.guesses.items ≡ net.nodes
    → ((v : ℕ) → v < net.nodes → AreGuesses (peers_of net v) (get_or t.guesses.items v []))
    → length t.orders.items ≡ net.nodes
    → ((v : ℕ) → v < net.nodes → StandAsIn (peers_of net v) (get_or t.orders.items v [])) → HasPeers net t
has_peers net t h so long right as_long as_right = record {
  orders = λ v below. as_right v (omega arith);
  guesses = λ v below. right v (omega arith);
  rows = λ v. elim (cases_lt v net.nodes) [
    | inl below ↦ so.rows v below
    | inr out ↦ (
        let past = cut_past t.starts.items v t.neighbours.items (let n = so.long in omega arith) in
        let none = nil_of (hops_of net v) (no_hops net v h out) in
        past ∙ sym (ap (map (λ h. h.peer)) none))
  ];
}

-- ---- the row of a path

pub has_row : (net : Net) (t : Extensions) (p : PathNo) → HasExtensions net t → IsPath net p → HasRow t p.0
has_row net t p h is = record {
  there = let n = h.long in omega arith;
  cut = h.cuts p is;
  alike = sym (length-map t.extensions.items (λ e. e.place)) ∙ h.places.long;
  firsts = h.firsts;
}
