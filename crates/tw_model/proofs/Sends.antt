-- What an event at a router sends: later than itself, from its router, numbered, each once, at most 64, to neighbours.
use Rattle.std.proofs.Common.{◌≡◌, ℕ, ◌+◌, ◌<◌, ◌≤◌, true, false, List, [], ◌∷◌, length, map, ap, inl, inr, arith, nat_lt}
use Rattle.std.specs.List.{enumerate_from, zip}
use Rattle.std.proofs.lemmas.Bool.{cases_Bool, ltb-true, ltb-false}
use Rattle.std.proofs.lemmas.List.{length-map}
use Rattle.std.proofs.lemmas.List.FromFn.{length-enumerate_from}
use Rattle.std.proofs.lemmas.List.Sums.{count_by-le-length, length-filter}
use Rattle.tw_event.specs.declared.event.Body.{Body}
use Rattle.tw_event.specs.declared.event.Body.TheVariants.{Start, Fail, Restore, Swap, Forbid, Allow, Update}
use Rattle.tw_event.specs.declared.event.Event.{Event}
use Rattle.tw_event.specs.declared.event.PathNo.{PathNo}
use Rattle.tw_event.proofs.Order.{same_is}
use Rattle.tw_model.specs.declared.net.Hop.{Hop}
use Rattle.tw_model.specs.declared.state.Row.{Row}
use Rattle.tw_model.specs.Net.{hops_of}
use Rattle.tw_model.specs.Rules.{IsNet}
use Rattle.tw_model.specs.State.{State, hop, is_barred, no_hop, row, slot}
use Rattle.tw_model.specs.Effect.{Reaction, acts, accepts, with_dropped, effect, with_bar, with_failed_link, with_heard, without_sends, with_repaired_link, settle, with_swap, tell, update_to, updates, ups}
use Rattle.tw_sim.specs.Simulation.{one, times}
use Rattle.tw_model.specs.Case.{Case, simulation}
use Rattle.tw_sim.proofs.Members.{In, in_enumerate, in_filter, in_map, in_times, in_zip, in_or_default}
use Rattle.tw_model.proofs.Nets.{hops_few, neighbour}

-- an update that router v sent for an event of time t, numbered from low to below high
pub record IsSent (v t low high : ℕ) (x : Event) : Type 0 where
  pub src : x.src ≡ v
  pub later : t < x.time
  pub least : low ≤ x.seq
  pub most : x.seq < high
  pub body : (q : PathNo) × (n : ℕ) × (x.body ≡ Update q n)

module _ (case : Case) where
  -- what is sent on the way to a state, from the counter n on
  pub record Tells (v t n : ℕ) (o : Reaction) : Type 0 where
    pub sent : (x : Event) → In x o.sends → IsSent v t n o.state.counters.sent x
    pub rising : n ≤ o.state.counters.sent
    pub few : length o.sends ≤ 64
    pub once : (x : Event) → times (simulation case) x o.sends ≤ 1

  tells_quiet : (v t : ℕ) (s : State) → Tells v t s.counters.sent (without_sends s)
  tells_quiet v t s = record { sent = λ x h. absurd h; rising = omega arith; few = omega arith; once = λ x. omega arith }

  pub one_le : (x y : Event) → one (simulation case) x y ≤ 1
  one_le x y = elim (cases_Bool ((simulation case).same x y)) [ inl b ↦ rw b (omega arith) | inr b ↦ rw b (omega arith) ]

  numbered_once : (v t : ℕ) (q : PathNo) (n : ℕ) (ps : List (Hop × Row)) (x : Event)
      → times (simulation case) x (map (λ e. update_to v t q e.0 e.1.0 e.1.1) (enumerate_from n ps)) ≤ 1
  numbered_once v t q n [] x = omega arith
  numbered_once v t q n (p ∷ ps) x =
      let more = numbered_once v t q (n + 1) ps x in
      let others = map (λ e. update_to v t q e.0 e.1.0 e.1.1) (enumerate_from (n + 1) ps) in
      elim (cases_Bool ((simulation case).same x (update_to v t q n p.0 p.1))) [
        | inr b ↦ rw b (omega arith)
        | inl b ↦ rw b (
            let is = same_is x (update_to v t q n p.0 p.1) b in
            let number : x.seq ≡ n = ap (λ e. e.seq) is in
            elim (cases_Bool (nat_lt 0 (times (simulation case) x others))) [
              | inl c ↦ (
                  let a = in_map (λ e. update_to v t q e.0 e.1.0 e.1.1) x (enumerate_from (n + 1) ps) (in_times (simulation case) same_is x others (ltb-true 0 (times (simulation case) x others) c)) in
                  let r = in_enumerate a.0 (n + 1) ps a.2 in
                  let other : x.seq ≡ a.0.0 = ap (λ e. e.seq) a.1 in
                  absurd (omega arith))
              | inr c ↦ (let none = ltb-false 0 (times (simulation case) x others) c in omega arith)
            ])
      ]

  sent_updates : (v t : ℕ) (q : PathNo) (s : State) → IsNet case.net → (x : Event) → In x (updates case.net v t q s.counters.sent s)
      → IsSent v t s.counters.sent (s.counters.sent + length (ups case.net v s)) x
  sent_updates v t q s is x h =
      let a = in_map (λ e. update_to v t q e.0 e.1.0 e.1.1) x (enumerate_from s.counters.sent (ups case.net v s)) h in
      let b = in_enumerate a.0 s.counters.sent (ups case.net v s) a.2 in
      let c = in_filter (λ p. p.1.up) a.0.1 (zip (hops_of case.net v) s.rows) b.2 in
      let d = in_zip a.0.1 (hops_of case.net v) s.rows c.1 in
      let e = neighbour case.net is v a.0.1.0 d.0 in
      let time : x.time ≡ t + a.0.1.0.delay = ap (λ z. z.time) a.1 in
      let seq : x.seq ≡ a.0.0 = ap (λ z. z.seq) a.1 in
      let least = e.least in
      record { src = ap (λ z. z.src) a.1; later = omega arith; least = omega arith; most = omega arith; body = (q, a.0.1.1.session, ap (λ z. z.body) a.1) }

  zip_few : (hs : List Hop) (rs : List Row) → length (zip hs rs) ≤ length hs
  zip_few [] rs = omega arith
  zip_few (h ∷ hs) [] = omega arith
  zip_few (h ∷ hs) (r ∷ rs) = let k = zip_few hs rs in omega arith

  few_updates : (v t : ℕ) (q : PathNo) (n : ℕ) (s : State) → IsNet case.net → length (updates case.net v t q n s) ≤ 64
  few_updates v t q n s is = grind (arith, length-map, length-enumerate_from, length-filter, count_by-le-length, zip_few, hops_few)

  tells_settle : (v t : ℕ) (s : State) → IsNet case.net → Tells v t s.counters.sent (settle case.net v t s)
  tells_settle v t s is = grind (arith, cases_Bool, tells_quiet, sent_updates, few_updates, numbered_once)

  hop_least : (v k : ℕ) → IsNet case.net → 1 ≤ (hop case.net v k).delay
  hop_least v k is =
      elim (in_or_default no_hop (hops_of case.net v) k) [
        | inl e ↦ (let d : (hop case.net v k).delay ≡ 1 = ap (λ h. h.delay) e in omega arith)
        | inr h ↦ (neighbour case.net is v (hop case.net v k) h).least
      ]

  tells_tell : (v t : ℕ) (s : State) (k : ℕ) → IsNet case.net → Tells v t s.counters.sent (tell case.net v t s k)
  tells_tell v t s k is = record {
    sent = λ x h. elim h [
      | inl e ↦ (
          let least = hop_least v k is in
          let time : x.time ≡ t + (hop case.net v k).delay = ap (λ z. z.time) e in
          let seq : x.seq ≡ s.counters.sent = ap (λ z. z.seq) e in
          record { src = ap (λ z. z.src) e; later = omega arith; least = omega arith; most = omega arith; body = (s.rib, (row s k).session, ap (λ z. z.body) e) })
      | inr z ↦ absurd z
    ];
    rising = omega arith;
    few = omega arith;
    once = λ x. (let a = one_le x (update_to v t s.rib s.counters.sent (hop case.net v k) (row s k)) in omega arith);
  }

  tells_acts : (v : ℕ) (s : State) (e : Event) (b : Body) → IsNet case.net → Tells v e.time s.counters.sent (acts case.net v s e b)
  tells_acts v s e Start is = tells_settle v e.time s is
  tells_acts v s e (Fail w) is =
      elim (cases_Bool (row s (slot case.net v w)).up) [
        | inl c ↦ rw c (tells_settle v e.time (with_failed_link s (slot case.net v w)) is)
        | inr c ↦ rw c (tells_quiet v e.time s)
      ]
  tells_acts v s e (Restore w) is =
      elim (cases_Bool (row s (slot case.net v w)).up) [
        | inl c ↦ rw c (tells_quiet v e.time s)
        | inr c ↦ rw c (tells_tell v e.time (with_repaired_link s (slot case.net v w)) (slot case.net v w) is)
      ]
  tells_acts v s e (Swap i j) is = tells_settle v e.time (with_swap s i j) is
  tells_acts v s e (Forbid k) is =
      elim (cases_Bool (is_barred s k)) [
        | inl c ↦ rw c (tells_quiet v e.time s)
        | inr c ↦ rw c (tells_settle v e.time (with_bar s k true) is)
      ]
  tells_acts v s e (Allow k) is =
      elim (cases_Bool (is_barred s k)) [
        | inl c ↦ rw c (tells_settle v e.time (with_bar s k false) is)
        | inr c ↦ rw c (tells_quiet v e.time s)
      ]
  tells_acts v s e (Update q n) is =
      elim (cases_Bool (accepts s (slot case.net v e.src) n)) [
        | inl c ↦ rw c (tells_settle v e.time (with_heard s (slot case.net v e.src) q) is)
        | inr c ↦ rw c (tells_quiet v e.time (with_dropped s))
      ]

  -- what any event at any router in any state sends
  pub tells_effect : IsNet case.net → (v : ℕ) (s : State) (e : Event) → Tells v e.time s.counters.sent (effect case.net v s e)
  tells_effect is v s e =
      let o = acts case.net v s e e.body in
      let t = tells_acts v s e e.body is in
      record { sent = t.sent; rising = t.rising; few = t.few; once = t.once }
