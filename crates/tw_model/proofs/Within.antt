-- In a net that keeps the rules, an event that suits a router suits one of the net's.
use Rattle.std.proofs.Common.{◌≡◌, ℕ, suc, zero, ◌<◌, ◌≤◌, ◌==◌, Bool, true, false, not, ◌&&◌, List, [], ◌∷◌, ◌++◌, length, map, get_or, refl, ap, arith, nat_le, filter}
use Rattle.std.specs.List.{range_with_len}
use Rattle.std.proofs.lemmas.Bool.{cases_lt, ltb-true, ne_eqb, both_ways, and_parts, and_left, and_right, lt-leb, false_from_ne_true}
use Rattle.tw_event.specs.declared.event.Body.{Body}
use Rattle.tw_event.specs.declared.event.Body.TheVariants.{Start, Fail, Restore, Swap, Forbid, Allow, Update}
use Rattle.tw_event.specs.declared.event.Event.{Event}
use Rattle.tw_model.specs.declared.net.Link.{Link}
use Rattle.tw_model.specs.PermittedPath.{PermittedPath}
use Rattle.tw_model.specs.Net.{Net, begins_at, hops_of, is_permitted, paths, paths_of}
use Rattle.tw_model.specs.Rules.{IsNet, PathsFollow, has_line, has_place}
use Rattle.tw_model.specs.State.{has_peer, hop, slot}
use Rattle.tw_model.specs.Effect.{body_suits, suits}
use Rattle.tw_model.proofs.Nets.{hop_in_hops, neighbour, nodes_within}

filter-none : {A : Type 0} (p : A → Bool) (xs : List A) → ((x : A) → p x ≡ false) → filter p xs ≡ []
filter-none p [] h = refl
filter-none p (x ∷ xs) h = rw (h x) (filter-none p xs h)

none_begins : (nodes : ℕ) (links : List Link) (before paths : List PermittedPath) (k v : ℕ) → nodes ≤ v
    → PathsFollow (record { nodes = nodes; links = links; permitted = before }) paths → begins_at (get_or (map (λ l. l.nodes) paths) k []) v ≡ false
none_begins nodes links before [] k v out h = refl
none_begins nodes links before (p ∷ paths) zero v out h = grind arith
none_begins nodes links before (p ∷ paths) (suc k) v out h = none_begins nodes links (before ++ p ∷ []) paths k v out h.1

no_path : (net : Net) (k v : ℕ) → IsNet net → net.nodes ≤ v → begins_at (get_or (paths net) k []) v ≡ false
no_path net zero v h out = refl
no_path net (suc zero) v h out = let some = (nodes_within net.nodes h.nodes).0 in ne_eqb 0 v (λ e. omega arith)
no_path net (suc (suc k)) v h out = none_begins net.nodes net.links [] net.permitted k v out h.permitted

no_paths : (net : Net) (v : ℕ) → IsNet net → net.nodes ≤ v → paths_of net v ≡ []
unfolding paths_of
no_paths net v h out =
    ap (map (λ k. record { 0 = k })) (filter-none (λ k. begins_at (get_or (paths net) k []) v) (range_with_len 0 (length (paths net))) (λ k. no_path net k v h out))

-- what is no node has no neighbour and no permitted path
no_peer : (net : Net) (v w : ℕ) → IsNet net → net.nodes ≤ v → has_peer net v w ≡ false
no_peer net v w h out =
    false_from_ne_true (has_peer net v w) (λ t. (
    let slot_is = ltb-true (slot net v w) (length (hops_of net v)) t in
    let here = (neighbour net h v (hop net v (slot net v w)) (hop_in_hops net v (slot net v w) slot_is)).here in
    absurd (omega arith)))

no_place : (net : Net) (v i : ℕ) → IsNet net → net.nodes ≤ v → has_place net v i ≡ false
no_place net v i h out = grind (arith, no_paths, cases_lt, and_left, nat_le, lt-leb, and_right)

suits_no : (net : Net) (v : ℕ) (e : Event) (b : Body) → IsNet net → net.nodes ≤ v → body_suits net v e b ≡ false
suits_no net v e Start h out = let some = (nodes_within net.nodes h.nodes).0 in let no : (v == 0) ≡ false = ne_eqb v 0 (λ z. omega arith) in rw no (and_right (e.src == v) false refl)
suits_no net v e (Fail w) h out = and_right (e.src == v) (has_peer net v w) (no_peer net v w h out)
suits_no net v e (Restore w) h out = and_right (e.src == v) (has_peer net v w) (no_peer net v w h out)
suits_no net v e (Swap i j) h out = and_right (e.src == v) (has_place net v i && has_place net v j) (and_left (has_place net v i) (has_place net v j) (no_place net v i h out))
suits_no net v e (Forbid k) h out = and_right (e.src == v) (has_line net v k) (and_right (not (v == 0)) (has_place net v k) (no_place net v k h out))
suits_no net v e (Allow k) h out = and_right (e.src == v) (has_line net v k) (and_right (not (v == 0)) (has_place net v k) (no_place net v k h out))
suits_no net v e (Update q n) h out = and_left (has_peer net v e.src) (is_permitted net e.src q) (no_peer net v e.src h out)

-- an event that suits a router suits one of the net's
pub suits_within : (net : Net) (v : ℕ) (e : Event) → IsNet net → suits net v e ≡ true → v < net.nodes
suits_within net v e h s = grind (arith, cases_lt, both_ways, suits_no, and_parts)
