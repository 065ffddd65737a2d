-- Two states of a router that differ in what they count do the same with an update, later and with other numbers.
use Rattle.std.proofs.Common.{◌≡◌, ℕ, ◌+◌, ◌==◌, true, List, [], ◌∷◌, length, map, refl, ap, inl, inr, arith}
use Rattle.std.specs.List.{enumerate_from}
use Rattle.std.proofs.lemmas.Bool.{cases_Bool}
use Rattle.std.specs.Ordering.{nat_cmp}
use Rattle.tw_event.specs.declared.event.Body.{Body}
use Rattle.tw_event.specs.declared.event.Body.TheVariants.{Start, Fail, Restore, Swap, Forbid, Allow, Update}
use Rattle.tw_event.specs.declared.event.Event.{Event}
use Rattle.tw_event.specs.declared.event.PathNo.{PathNo}
use Rattle.tw_model.specs.declared.net.Hop.{Hop}
use Rattle.tw_model.specs.declared.state.Counters.{Counters}
use Rattle.tw_model.specs.declared.state.Row.{Row}
use Rattle.tw_model.specs.Net.{Net}
use Rattle.tw_model.specs.State.{State, best, slot}
use Rattle.tw_model.specs.Effect.{Reaction, acts, accepts, effect, settle, update_to, ups, with_heard, without_sends}
use Rattle.tw_shape.specs.Shape.{is_update}
use Rattle.tw_shape.proofs.Shift.{Each}

-- the second state is the first with other counters, and has sent n messages more
pub record AreAlike (n : ℕ) (s u : State) : Type 0 where
  pub counters : Counters
  pub same : u ≡ record s { counters = counters }
  pub sent : counters.sent ≡ s.counters.sent + n

-- an event p ticks later; its sender had sent so many messages more
abbrev pub shifted : ℕ → (ℕ → ℕ) → Event → Event
shifted p d e = record e { time = e.time + p; seq = e.seq + d e.src }

abbrev pub IsUpdate : Event → Type 0
IsUpdate e = is_update e.body ≡ true

module _ (net : Net) (p : ℕ) (d : ℕ → ℕ) where
  -- alike states, with what was sent on the way to them
  pub record React (v : ℕ) (a b : Reaction) : Type 0 where
    pub state : AreAlike (d v) a.state b.state
    pub sends : b.sends ≡ map (shifted p d) a.sends

  updates-shift : (v t : ℕ) (q : PathNo) (n : ℕ) (ps : List (Hop × Row))
      → map (λ e. update_to v (t + p) q e.0 e.1.0 e.1.1) (enumerate_from (n + d v) ps) ≡ map (shifted p d) (map (λ e. update_to v t q e.0 e.1.0 e.1.1) (enumerate_from n ps))
  updates-shift v t q n [] = refl
  updates-shift v t q n (x ∷ ps) =
      let more = updates-shift v t q (n + 1) ps in
      let time : t + p + x.0.delay ≡ t + x.0.delay + p = omega arith in
      let next : n + d v + 1 ≡ n + 1 + d v = omega arith in
      rw (time, next) (ap (λ l. shifted p d (update_to v t q n x.0 x.1) ∷ l) more)

  react_quiet : (v : ℕ) (s u : State) → AreAlike (d v) s u → React v (without_sends s) (without_sends u)
  react_quiet v s u a = record { state = a; sends = refl }

  react_settle : (v t : ℕ) (s u : State) → AreAlike (d v) s u → React v (settle net v t s) (settle net v (t + p) u)
  react_settle v t s u a =
      rw a.same (elim (cases_Bool (s.rib.0 == (best net v s).0)) [
        | inl b ↦ rw b (record { state = record { counters = a.counters; same = refl; sent = a.sent }; sends = refl })
        | inr b ↦ rw b (record {
          state = record {
            counters = record a.counters { sent = a.counters.sent + length (ups net v s); changed = a.counters.changed + 1 };
            same = refl;
            sent = (let k = a.sent in omega arith);
          };
          sends = rw a.sent (updates-shift v t (best net v s) s.counters.sent (ups net v s));
        })
      ])

  react_acts : (s u : State) (e : Event) (b : Body) → is_update b ≡ true → AreAlike (d e.dst) s u → React e.dst (acts net e.dst s e b) (acts net e.dst u (shifted p d e) b)
  react_acts s u e Start g a = cc
  react_acts s u e (Fail w) g a = cc
  react_acts s u e (Restore w) g a = cc
  react_acts s u e (Swap i j) g a = cc
  react_acts s u e (Forbid k) g a = cc
  react_acts s u e (Allow k) g a = cc
  react_acts s u e (Update q n) g a =
      rw a.same (elim (cases_Bool (accepts s (slot net e.dst e.src) n)) [
        | inl b ↦ rw b (react_settle e.dst e.time (with_heard s (slot net e.dst e.src) q) (record (with_heard s (slot net e.dst e.src) q) { counters = a.counters })
            (record { counters = a.counters; same = refl; sent = a.sent }))
        | inr b ↦ rw b (record {
          state = record { counters = record a.counters { dropped = a.counters.dropped + 1 }; same = refl; sent = a.sent };
          sends = refl;
        })
      ])

  pub react : (s u : State) (e : Event) → IsUpdate e → AreAlike (d e.dst) s u → React e.dst (effect net e.dst s e) (effect net e.dst u (shifted p d e))
  react s u e g a =
      let r = react_acts s u e e.body g a in
      record {
        state = record {
          counters = record r.state.counters { handled = r.state.counters.handled + 1 };
          same = ap (λ (z : State). record z { counters = record z.counters { handled = z.counters.handled + 1 } }) r.state.same;
          sent = r.state.sent;
        };
        sends = r.sends;
      }

  -- what is sent is updates
  each_update : (v t : ℕ) (q : PathNo) (n : ℕ) (ps : List (Hop × Row)) → Each IsUpdate (map (λ e. update_to v t q e.0 e.1.0 e.1.1) (enumerate_from n ps))
  each_update v t q n [] = tt
  each_update v t q n (x ∷ ps) = (refl, each_update v t q (n + 1) ps)

  updates_settle : (v t : ℕ) (s : State) → Each IsUpdate (settle net v t s).sends
  updates_settle v t s =
      elim (cases_Bool (s.rib.0 == (best net v s).0)) [
        | inl b ↦ rw b tt
        | inr b ↦ rw b (each_update v t (best net v s) s.counters.sent (ups net v s))
      ]

  updates_acts : (s : State) (e : Event) (b : Body) → is_update b ≡ true → Each IsUpdate (acts net e.dst s e b).sends
  updates_acts s e Start g = cc
  updates_acts s e (Fail w) g = cc
  updates_acts s e (Restore w) g = cc
  updates_acts s e (Swap i j) g = cc
  updates_acts s e (Forbid k) g = cc
  updates_acts s e (Allow k) g = cc
  updates_acts s e (Update q n) g =
      elim (cases_Bool (accepts s (slot net e.dst e.src) n)) [
        | inl b ↦ rw b (updates_settle e.dst e.time (with_heard s (slot net e.dst e.src) q))
        | inr b ↦ rw b tt
      ]

  pub updates_effect : (s : State) (e : Event) → IsUpdate e → Each IsUpdate (effect net e.dst s e).sends
  updates_effect s e g = updates_acts s e e.body g

pub nat_cmp-add : (x y k : ℕ) → nat_cmp (x + k) (y + k) ≡ nat_cmp x y
nat_cmp-add x y k = grind arith
