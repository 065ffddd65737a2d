-- What a router knows and sends is permitted: its path is its own or empty, and an update goes to a neighbour of its sender.
use Rattle.std.proofs.Common.{arith, ◌≡◌, ℕ, ◌==◌, Bool, true, false, List, [], ◌∷◌, length, Option, Some, None, refl, ap, sym, subst, inl, inr, nat_le}
use Rattle.std.specs.List.{enumerate_from, find, zip}
use Rattle.std.specs.Option.{unwrap_or}
use Rattle.std.proofs.lemmas.Bool.{cases_Bool, and_parts, and_from, or_right, eqb-true, eq-eqb, ltb-true}
use Rattle.tw_event.specs.declared.event.Body.{Body}
use Rattle.tw_event.specs.declared.event.Body.TheVariants.{Start, Fail, Restore, Swap, Forbid, Allow, Update}
use Rattle.tw_event.specs.declared.event.Event.{Event}
use Rattle.tw_event.specs.declared.event.PathNo.{PathNo}
use Rattle.tw_model.specs.declared.net.Hop.{Hop}
use Rattle.tw_model.specs.Net.{Net, hops_of, is_own, is_permitted, empty_path}
use Rattle.tw_model.specs.Rules.{IsNet}
use Rattle.tw_model.specs.State.{State, best, has_peer, hop, is_barred, row, slot, opening}
use Rattle.tw_model.specs.Effect.{acts, accepts, body_suits, effect, with_bar, with_failed_link, fits, with_heard, settle, suits, with_swap, update_to, ups}
use Rattle.tw_sim.specs.Simulation.{state}
use Rattle.tw_model.specs.Case.{Case, simulation}
use Rattle.tw_sim.proofs.Members.{In, in_enumerate, in_filter, in_find, in_map, in_swap, in_zip}
use Rattle.tw_model.proofs.Nets.{has_peer_back, has_peer_of, hop_in_hops}
use Rattle.tw_model.proofs.Paths.{in_paths_of, path_origin}

-- an event that fits a router suits it
pub body_suits-fits : (net : Net) (v : ℕ) (e : Event) → fits net v e ≡ true → body_suits net v e e.body ≡ true
body_suits-fits net v e h = (and_parts (e.dst == v) (body_suits net v e e.body) (and_parts (nat_le e.time 1000000000) (suits net v e) h).1).1

-- a router's path is its own or empty, and its order holds own paths
pub record IsOwnState (net : Net) (v : ℕ) (s : State) : Type 0 where
  pub rib : is_permitted net v s.rib ≡ true
  pub order : (q : PathNo) → In q s.order → is_own net v q ≡ true

permitted_found : (net : Net) (v : ℕ) (order : List PathNo) (p : PathNo → Bool) → ((q : PathNo) → In q order → is_own net v q ≡ true)
    → (o : Option PathNo) → find p order ≡ o → is_permitted net v (unwrap_or o empty_path) ≡ true
permitted_found net v order p own None e = refl
permitted_found net v order p own (Some q) e = or_right (q.0 == 0) (is_own net v q) (own q (in_find p q order e).1)

pub best_permitted : (net : Net) (v : ℕ) (s : State) → ((q : PathNo) → In q s.order → is_own net v q ≡ true) → is_permitted net v (best net v s) ≡ true
best_permitted net v s own = grind (arith, cases_Bool, path_origin, eq-eqb, eqb-true, permitted_found)

own_settle : (net : Net) (v t : ℕ) (s : State) → IsOwnState net v s → IsOwnState net v (settle net v t s).state
own_settle net v t s is = grind (arith, cases_Bool, best_permitted)

own_acts : (net : Net) (v : ℕ) (s : State) (e : Event) (b : Body) → IsOwnState net v s → IsOwnState net v (acts net v s e b).state
own_acts net v s e Start is = own_settle net v e.time s is
own_acts net v s e (Fail w) is =
    elim (cases_Bool (row s (slot net v w)).up) [
      | inl c ↦ rw c (own_settle net v e.time (with_failed_link s (slot net v w)) (record { rib = is.rib; order = is.order }))
      | inr c ↦ rw c is
    ]
own_acts net v s e (Restore w) is = grind arith
own_acts net v s e (Swap i j) is =
    own_settle net v e.time (with_swap s i j) (record { rib = is.rib; order = λ q h. is.order q (in_swap q s.order _ _ h) })
own_acts net v s e (Forbid k) is =
    elim (cases_Bool (is_barred s k)) [
      | inl c ↦ rw c is
      | inr c ↦ rw c (own_settle net v e.time (with_bar s k true) (record { rib = is.rib; order = is.order }))
    ]
own_acts net v s e (Allow k) is =
    elim (cases_Bool (is_barred s k)) [
      | inl c ↦ rw c (own_settle net v e.time (with_bar s k false) (record { rib = is.rib; order = is.order }))
      | inr c ↦ rw c is
    ]
own_acts net v s e (Update q n) is =
    elim (cases_Bool (accepts s (slot net v e.src) n)) [
      | inl c ↦ rw c (own_settle net v e.time (with_heard s (slot net v e.src) q) (record { rib = is.rib; order = is.order }))
      | inr c ↦ rw c (record { rib = is.rib; order = is.order })
    ]

pub own_effect : (net : Net) (v : ℕ) (s : State) (e : Event) → IsOwnState net v s → IsOwnState net v (effect net v s e).state
own_effect net v s e is = grind (arith, own_acts)

pub own_opening : (net : Net) (v : ℕ) → IsOwnState net v (opening net v)
own_opening net v = record { rib = refl; order = λ q h. ((in_paths_of net v q).0 h).1 }

-- after events of its own, a router's state is its own
pub own_state : (case : Case) (v : ℕ) (older : List Event) → ((y : Event) → In y older → y.dst ≡ v) → IsOwnState case.net v (state (simulation case) v older)
own_state case v [] h = own_opening case.net v
own_state case v (e ∷ older) h =
    let is = own_state case v older (λ y k. h y (inr k)) in
    let home = h e (inl refl) in
    subst (λ r. IsOwnState case.net v (effect case.net r (state (simulation case) v older) e).state) (sym home) (own_effect case.net v (state (simulation case) v older) e is)

-- an update of a permitted path to a neighbour
pub record IsToNeighbour (net : Net) (v : ℕ) (x : Event) : Type 0 where
  pub src : x.src ≡ v
  pub hop : (h : Hop) × In h (hops_of net v) × (x.dst ≡ h.peer)
  pub body : (q : PathNo) × (n : ℕ) × (x.body ≡ Update q n) × (is_permitted net v q ≡ true)

to_settle : (net : Net) (v t : ℕ) (s : State) → IsOwnState net v s → (x : Event) → In x (settle net v t s).sends → IsToNeighbour net v x
to_settle net v t s is x h =
    elim (cases_Bool (s.rib.0 == (best net v s).0)) [
      | inl b ↦ absurd (rw b at h)
      | inr b ↦ (
          let a = in_map (λ e. update_to v t (best net v s) e.0 e.1.0 e.1.1) x (enumerate_from s.counters.sent (ups net v s)) (rw b at h) in
          let b = in_enumerate a.0 s.counters.sent (ups net v s) a.2 in
          let c = in_filter (λ p. p.1.up) a.0.1 (zip (hops_of net v) s.rows) b.2 in
          let d = in_zip a.0.1 (hops_of net v) s.rows c.1 in
          record {
            src = ap (λ z. z.src) a.1;
            hop = (a.0.1.0, d.0, ap (λ z. z.dst) a.1);
            body = (best net v s, a.0.1.1.session, ap (λ z. z.body) a.1, best_permitted net v s is.order);
          })
    ]

to_acts : (net : Net) (v : ℕ) (s : State) (e : Event) (b : Body) → body_suits net v e b ≡ true → IsOwnState net v s
    → (x : Event) → In x (acts net v s e b).sends → IsToNeighbour net v x
to_acts net v s e Start suit is x h = to_settle net v e.time s is x h
to_acts net v s e (Fail w) suit is x h =
    elim (cases_Bool (row s (slot net v w)).up) [
      | inl c ↦ to_settle net v e.time (with_failed_link s (slot net v w)) (record { rib = is.rib; order = is.order }) x (rw c at h)
      | inr c ↦ absurd (rw c at h)
    ]
to_acts net v s e (Restore w) suit is x h =
    elim (cases_Bool (row s (slot net v w)).up) [
      | inl c ↦ absurd (rw c at h)
      | inr c ↦ elim (rw c at h) [
        | inl a ↦ (
            let k = ltb-true (slot net v w) (length (hops_of net v)) (and_parts (e.src == v) (has_peer net v w) suit).1 in
            record {
              src = ap (λ z. z.src) a;
              hop = (hop net v (slot net v w), hop_in_hops net v (slot net v w) k, ap (λ z. z.dst) a);
              body = (s.rib, _, ap (λ z. z.body) a, is.rib);
            })
        | inr z ↦ absurd z
      ]
    ]
to_acts net v s e (Swap i j) suit is x h =
    to_settle net v e.time (with_swap s i j) (record { rib = is.rib; order = λ q k. is.order q (in_swap q s.order _ _ k) }) x h
to_acts net v s e (Forbid k) suit is x h =
    elim (cases_Bool (is_barred s k)) [
      | inl c ↦ absurd (rw c at h)
      | inr c ↦ to_settle net v e.time (with_bar s k true) (record { rib = is.rib; order = is.order }) x (rw c at h)
    ]
to_acts net v s e (Allow k) suit is x h =
    elim (cases_Bool (is_barred s k)) [
      | inl c ↦ to_settle net v e.time (with_bar s k false) (record { rib = is.rib; order = is.order }) x (rw c at h)
      | inr c ↦ absurd (rw c at h)
    ]
to_acts net v s e (Update q n) suit is x h =
    elim (cases_Bool (accepts s (slot net v e.src) n)) [
      | inl c ↦ to_settle net v e.time (with_heard s (slot net v e.src) q) (record { rib = is.rib; order = is.order }) x (rw c at h)
      | inr c ↦ absurd (rw c at h)
    ]

-- what an event that suits sends, goes to neighbours
pub to_effect : (net : Net) (v : ℕ) (s : State) (e : Event) → body_suits net v e e.body ≡ true → IsOwnState net v s
    → (x : Event) → In x (effect net v s e).sends → IsToNeighbour net v x
to_effect net v s e suit is x h = to_acts net v s e e.body suit is x h

-- and suits its receiver
pub neighbour_suits : (net : Net) → IsNet net → (v : ℕ) (x : Event) → IsToNeighbour net v x → suits net x.dst x ≡ true
neighbour_suits net is v x to = grind (arith, has_peer_back, has_peer_of, and_from, eq-eqb)
