-- What a router told one neighbour: the newest update to it has the path that the router now uses.
use Rattle.std.proofs.Common.{◌≡◌, ℕ, suc, zero, ◌+◌, ◌<◌, ◌≤◌, ◌==◌, Bool, true, false, List, [], ◌∷◌, length, filter, get_or, refl, ap, sym, ◌∙◌, subst, ◌⊎◌, inl, inr, arith}
use Rattle.std.specs.List.{enumerate_from, position_or_len, zip}
use Rattle.std.proofs.lemmas.Bool.{cases_Bool, cases_eq, both_ways, and_parts, ne_eqb, ltb-true}
use Rattle.std.proofs.Math.Numerals.{one-add}
use Rattle.tw_event.specs.declared.event.Body.{Body}
use Rattle.tw_event.specs.declared.event.Body.TheVariants.{Start, Fail, Restore, Swap, Forbid, Allow, Update}
use Rattle.tw_event.specs.declared.event.Event.{Event}
use Rattle.tw_event.specs.declared.event.PathNo.{PathNo}
use Rattle.tw_model.specs.declared.net.Hop.{Hop}
use Rattle.tw_model.specs.declared.state.Row.{Row}
use Rattle.std.proofs.lemmas.List.{length-set}
use Rattle.tw_model.specs.Net.{Net, hops_of}
use Rattle.tw_model.specs.State.{State, best, has_peer, hop, is_barred, no_hop, no_row, row, slot}
use Rattle.tw_model.specs.Effect.{Reaction, acts, accepts, body_suits, effect, with_bar, with_failed_link, with_heard, with_repaired_link, settle, with_swap, tell, update_to, updates, ups}
use Rattle.tw_sim.specs.Simulation.{sent}
use Rattle.tw_sim.proofs.Members.{In, in_enumerate, in_filter, in_filtered, in_map, in_mapped, in_zip}
use Rattle.tw_model.proofs.Nets.{Rises, hop_slot, hops_rises}
use Rattle.tw_model.proofs.Rows.{row_other, row_same}

-- ---- hops with their rows

-- each neighbour has a higher number than those before it
abbrev Rise : List (Hop × Row) → Type 0
Rise [] = Unit {0}
Rise (p ∷ ps) = ((x : Hop × Row) → In x ps → p.0.peer < x.0.peer) × Rise ps

rise-filter : (test : Hop × Row → Bool) (ps : List (Hop × Row)) → Rise ps → Rise (filter test ps)
rise-filter test [] r = tt
rise-filter test (p ∷ ps) r =
    elim (cases_Bool (test p)) [
      | inl b ↦ rw b ((λ x k. r.0 x (in_filter test x ps k).1), rise-filter test ps r.1)
      | inr b ↦ rw b (rise-filter test ps r.1)
    ]

rise_zip : (hs : List Hop) (rs : List Row) → Rises hs → Rise (zip hs rs)
rise_zip [] rs r = tt
rise_zip (h ∷ hs) [] r = tt
rise_zip (h ∷ hs) (x ∷ rs) r = ((λ p k. r.0 p.0 (in_zip p hs rs k).0), rise_zip hs rs r.1)

-- one neighbour stands at one place
one_place : (n : ℕ) (ps : List (Hop × Row)) → Rise ps → (x y : ℕ × (Hop × Row)) → In x (enumerate_from n ps) → In y (enumerate_from n ps) → x.1.0.peer ≡ y.1.0.peer → x ≡ y
one_place n [] r x y i j e = absurd i
one_place n (p ∷ ps) r x y (inl i) (inl j) e = i ∙ sym j
one_place n (p ∷ ps) r x y (inl i) (inr j) e =
    let less = r.0 y.1 (in_enumerate y (n + 1) ps j).2 in
    let same : x.1.0.peer ≡ p.0.peer = ap (λ z. z.1.0.peer) i in
    absurd (omega arith)
one_place n (p ∷ ps) r x y (inr i) (inl j) e =
    let less = r.0 x.1 (in_enumerate x (n + 1) ps i).2 in
    let same : y.1.0.peer ≡ p.0.peer = ap (λ z. z.1.0.peer) j in
    absurd (omega arith)
one_place n (p ∷ ps) r x y (inr i) (inr j) e = one_place (n + 1) ps r.1 x y i j e

-- the row beside a neighbour is that of its slot
pub zip_row : (hs : List Hop) (rs : List Row) → Rises hs → (p : Hop × Row) → In p (zip hs rs)
    → (p.0 ≡ get_or hs (position_or_len (λ h. h.peer == p.0.peer) hs) no_hop) × (p.1 ≡ get_or rs (position_or_len (λ h. h.peer == p.0.peer) hs) no_row)
zip_row [] rs r p i = absurd i
zip_row (h ∷ hs) [] r p i = absurd i
zip_row (h ∷ hs) (x ∷ rs) r p (inl e) = grind arith
zip_row (h ∷ hs) (x ∷ rs) r p (inr i) =
    let less = r.0 p.0 (in_zip p hs rs i).0 in
    let peer : h.peer == p.0.peer ≡ false = ne_eqb h.peer p.0.peer (λ e. absurd (omega arith)) in
    rw (peer, one-add) (zip_row hs rs r.1 p i)

zip_has : (hs : List Hop) (rs : List Row) (k : ℕ) → length rs ≡ length hs → k < length hs → In (get_or hs k no_hop, get_or rs k no_row) (zip hs rs)
zip_has [] rs k full l = absurd (omega arith)
zip_has (h ∷ hs) [] k full l = absurd (omega arith)
zip_has (h ∷ hs) (x ∷ rs) zero full l = inl refl
zip_has (h ∷ hs) (x ∷ rs) (suc k) full l = inr (zip_has hs rs k (omega arith) (omega arith))

number_of : {X : Type 0} (x : X) (n : ℕ) (xs : List X) → In x xs → (i : ℕ) × In (i, x) (enumerate_from n xs)
number_of x n (y ∷ ys) (inl e) = (n, inl (λ j. (n, e j)))
number_of x n (y ∷ ys) (inr k) = let r = number_of x (n + 1) ys k in (r.0, inr r.1)
number_of x n [] k = absurd k

-- ---- what one event tells the neighbour b of a

module _ (net : Net) (a b : ℕ) (there : has_peer net a b ≡ true) where
  -- an update from a to b of what a uses now
  pub record IsTold (t : ℕ) (before after : State) (x : Event) : Type 0 where
    pub src : x.src ≡ a
    pub dst : x.dst ≡ b
    pub time : x.time ≡ t + (hop net a (slot net a b)).delay
    pub seq : before.counters.sent ≤ x.seq
    pub body : x.body ≡ Update after.rib (row after (slot net a b)).session

  pub data Tell (t : ℕ) (before after : State) (sends : List Event) : Type 0 where
    told : (x : Event) → In x sends → IsTold t before after x → ((y : Event) → In y sends → y.dst ≡ b → y ≡ x) → Tell t before after sends
    untold : ((y : Event) → In y sends → y.dst ≡ b → ⊥) → ((row after (slot net a b)).up ≡ true → (after.rib ≡ before.rib) × ((row before (slot net a b)).up ≡ true)) → Tell t before after sends

  -- where the change before it leaves the counter and the path, and doesn't put the link up
  from_changed : (t : ℕ) (s changed : State) (o : Reaction) → changed.counters.sent ≡ s.counters.sent → changed.rib ≡ s.rib
      → ((row changed (slot net a b)).up ≡ true → (row s (slot net a b)).up ≡ true) → Tell t changed o.state o.sends → Tell t s o.state o.sends
  from_changed t s changed o sent rib up (told x i is only) = told x i (record { src = is.src; dst = is.dst; time = is.time; seq = subst (λ n. n ≤ x.seq) sent is.seq; body = is.body }) only
  from_changed t s changed o sent rib up (untold no_one kept) = untold no_one (λ u. ((kept u).0 ∙ rib, up (kept u).1))

  update_is : (t : ℕ) (q : PathNo) (s : State) (x : Event) → In x (updates net a t q s.counters.sent s) → x.dst ≡ b
      → (e : ℕ × (Hop × Row)) × (x ≡ update_to a t q e.0 e.1.0 e.1.1) × In e (enumerate_from s.counters.sent (ups net a s)) × (e.1.0.peer ≡ b)
      × (e.1.0 ≡ hop net a (slot net a b)) × (e.1.1 ≡ row s (slot net a b)) × (e.1.1.up ≡ true) × (s.counters.sent ≤ e.0)
  update_is t q s x h dst =
      let m = in_map (λ e. update_to a t q e.0 e.1.0 e.1.1) x (enumerate_from s.counters.sent (ups net a s)) h in
      let n = in_enumerate m.0 s.counters.sent (ups net a s) m.2 in
      let f = in_filter (λ p. p.1.up) m.0.1 (zip (hops_of net a) s.rows) n.2 in
      let peer : m.0.1.0.peer ≡ b = sym (ap (λ z. z.dst) m.1) ∙ dst in
      let z = zip_row (hops_of net a) s.rows (hops_rises net a) m.0.1 f.1 in
      (m.0, m.1, m.2, peer, z.0 ∙ ap (λ y. hop net a (slot net a y)) peer, z.1 ∙ ap (λ y. row s (slot net a y)) peer, f.0, n.0)

  tell_settle : (t : ℕ) (s : State) → length s.rows ≡ length (hops_of net a) → Tell t s (settle net a t s).state (settle net a t s).sends
  tell_settle t s full =
      let below = ltb-true (slot net a b) (length (hops_of net a)) there in
      elim (cases_Bool (s.rib.0 == (best net a s).0)) [
        | inl e ↦ rw e (untold (λ y i d. i) (λ u. (refl, u)))
        | inr e ↦ rw e (elim (cases_Bool (row s (slot net a b)).up) [
          | inr c ↦ untold (λ y i d. let k = update_is t (best net a s) s y i d in both_ways (row s (slot net a b)).up c (subst (λ r. r.up ≡ true) k.5 k.6))
              (λ u. absurd (both_ways (row s (slot net a b)).up c u))
          | inl c ↦ (
              let pair : Hop × Row = (hop net a (slot net a b), row s (slot net a b)) in
              let in_ups = in_filtered (λ p. p.1.up) pair (zip (hops_of net a) s.rows) c (zip_has (hops_of net a) s.rows (slot net a b) full below) in
              let n = number_of pair s.counters.sent (ups net a s) in_ups in
              let x = update_to a t (best net a s) n.0 pair.0 pair.1 in
              let peer = hop_slot net a b there in
              told x (in_mapped (λ e. update_to a t (best net a s) e.0 e.1.0 e.1.1) (n.0, pair) (enumerate_from s.counters.sent (ups net a s)) n.1)
              (record { src = refl; dst = peer; time = refl; seq = (in_enumerate (n.0, pair) s.counters.sent (ups net a s) n.1).0; body = refl })
              (λ y i d.
              let k = update_is t (best net a s) s y i d in
              let place = one_place s.counters.sent (ups net a s) (rise-filter (λ p. p.1.up) (zip (hops_of net a) s.rows) (rise_zip (hops_of net a) s.rows (hops_rises net a)))
              k.0 (n.0, pair) k.2 n.1 (k.3 ∙ sym peer) in
              k.1 ∙ ap (λ e. update_to a t (best net a s) e.0 e.1.0 e.1.1) place))
        ])
      ]

  -- a row that is down after a change was not put up by it
  fail_up : (s : State) → length s.rows ≡ length (hops_of net a) → (x : ℕ) → (x ≡ b) ⊎ (x ≡ b → ⊥)
      → (row (with_failed_link s (slot net a x)) (slot net a b)).up ≡ true → (row s (slot net a b)).up ≡ true
  fail_up s full x (inl is) u = grind (arith, row_same, both_ways)
  fail_up s full x (inr d) u = sym (ap (λ r. r.up) (row_other net a b there s x _ d)) ∙ u

  hear_up : (s : State) (q : PathNo) → length s.rows ≡ length (hops_of net a) → (x : ℕ) → (x ≡ b) ⊎ (x ≡ b → ⊥)
      → (row (with_heard s (slot net a x) q) (slot net a b)).up ≡ true → (row s (slot net a b)).up ≡ true
  hear_up s q full x (inl is) u = grind (arith, row_same)
  hear_up s q full x (inr d) u = sym (ap (λ r. r.up) (row_other net a b there s x _ d)) ∙ u

  tell_quiet : (t : ℕ) (s : State) → Tell t s s []
  tell_quiet t s = untold (λ y i d. i) (λ u. (refl, u))

  tell_tell : (t : ℕ) (s : State) → length s.rows ≡ length (hops_of net a) → (x : ℕ) → has_peer net a x ≡ true → (x ≡ b) ⊎ (x ≡ b → ⊥)
      → Tell t s (tell net a t (with_repaired_link s (slot net a x)) (slot net a x)).state (tell net a t (with_repaired_link s (slot net a x)) (slot net a x)).sends
  tell_tell t s full x x_there (inl is) =
      subst (λ y. Tell t s (tell net a t (with_repaired_link s (slot net a y)) (slot net a y)).state (tell net a t (with_repaired_link s (slot net a y)) (slot net a y)).sends) (sym is)
      (told (update_to a t s.rib s.counters.sent (hop net a (slot net a b)) (row (with_repaired_link s (slot net a b)) (slot net a b))) (inl refl)
      (record { src = refl; dst = hop_slot net a b there; time = refl; seq = omega arith; body = refl })
      (λ y i d. elim i [ inl e ↦ e | inr z ↦ absurd z ]))
  tell_tell t s full x x_there (inr d) =
      untold
      (λ y i e. elim i [
        | inl is ↦ d (sym (hop_slot net a x x_there) ∙ (sym (ap (λ z. z.dst) is) ∙ e))
        | inr z ↦ z
      ])
      (λ u. (refl, sym (ap (λ r. r.up) (row_other net a b there s x _ d)) ∙ u))

  tell_acts : (s : State) (e : Event) (body : Body) → length s.rows ≡ length (hops_of net a) → body_suits net a e body ≡ true
      → Tell e.time s (acts net a s e body).state (acts net a s e body).sends
  tell_acts s e Start full suit = tell_settle e.time s full
  tell_acts s e (Fail x) full suit =
      elim (cases_Bool (row s (slot net a x)).up) [
        | inl c ↦ rw c (from_changed e.time s (with_failed_link s (slot net a x)) (settle net a e.time (with_failed_link s (slot net a x))) refl refl (fail_up s full x (cases_eq x b))
            (tell_settle e.time (with_failed_link s (slot net a x)) (length-set s.rows (slot net a x) _ ∙ full)))
        | inr c ↦ rw c (tell_quiet e.time s)
      ]
  tell_acts s e (Restore x) full suit =
      elim (cases_Bool (row s (slot net a x)).up) [
        | inl c ↦ rw c (tell_quiet e.time s)
        | inr c ↦ rw c (tell_tell e.time s full x (and_parts (e.src == a) (has_peer net a x) suit).1 (cases_eq x b))
      ]
  tell_acts s e (Swap i j) full suit =
      from_changed e.time s (with_swap s i j) (settle net a e.time (with_swap s i j)) refl refl (λ u. u) (tell_settle e.time (with_swap s i j) full)
  tell_acts s e (Forbid k) full suit =
      elim (cases_Bool (is_barred s k)) [
        | inl c ↦ rw c (tell_quiet e.time s)
        | inr c ↦ rw c (from_changed e.time s (with_bar s k true) (settle net a e.time (with_bar s k true)) refl refl (λ u. u) (tell_settle e.time (with_bar s k true) full))
      ]
  tell_acts s e (Allow k) full suit =
      elim (cases_Bool (is_barred s k)) [
        | inl c ↦ rw c (from_changed e.time s (with_bar s k false) (settle net a e.time (with_bar s k false)) refl refl (λ u. u) (tell_settle e.time (with_bar s k false) full))
        | inr c ↦ rw c (tell_quiet e.time s)
      ]
  tell_acts s e (Update q n) full suit =
      elim (cases_Bool (accepts s (slot net a e.src) n)) [
        | inl c ↦ rw c (from_changed e.time s (with_heard s (slot net a e.src) q) (settle net a e.time (with_heard s (slot net a e.src) q)) refl refl (hear_up s q full e.src (cases_eq e.src b))
            (tell_settle e.time (with_heard s (slot net a e.src) q) (length-set s.rows (slot net a e.src) _ ∙ full)))
        | inr c ↦ rw c (untold (λ y i d. i) (λ u. (refl, u)))
      ]

  -- what an event at a tells b
  pub tell_effect : (s : State) (e : Event) → length s.rows ≡ length (hops_of net a) → body_suits net a e e.body ≡ true
      → Tell e.time s (effect net a s e).state (effect net a s e).sends
  tell_effect s e full suit = as_counted (acts net a s e e.body) (tell_acts s e e.body full suit) where
    as_counted : (o : Reaction) → Tell e.time s o.state o.sends → Tell e.time s (record o.state { counters = record o.state.counters { handled = o.state.counters.handled + 1 } }) o.sends
    as_counted o (told x i is only) = told x i (record { src = is.src; dst = is.dst; time = is.time; seq = is.seq; body = is.body }) only
    as_counted o (untold none kept) = untold none kept
