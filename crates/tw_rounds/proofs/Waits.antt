-- What waits for processes, as it is dealt out, taken out and gathered.
use Rattle.std.proofs.Common.{◌≡◌, ℕ, ◌<◌, ◌==◌, false, cond, List, [], ◌∷◌, Some, length, set, slice_get, length-set, refl, ap, sym, ◌∙◌, inl, inr, arith}
use Rattle.std.proofs.lemmas.Bool.{cases_Bool, eq-eqb, eqb-true, ne_eqb}
use Rattle.tw_engine.proofs.Openings.{next, passed, taken}
use Rattle.tw_rounds.proofs.Lists.{set_others, within}
use Rattle.tw_rounds.specs.Alone.{AreCommitted, IsCommitted, dealt}
use Rattle.tw_rounds.specs.Members.{Mailed, raised}
use Rattle.tw_sequential.specs.Run.{Run}
use Rattle.tw_sim.specs.Seq.{insert_all}
use Rattle.tw_sim.specs.Simulation.{Simulation, only}

differ : (a b : ℕ) → (a == b) ≡ false → a ≡ b → ⊥
differ a b other is = (let yes = eq-eqb a b is in let k = rw yes at other in cc)

module _ {M S E : Type 0} (m : Simulation S E) (run : Run M E) where
  -- where as much waits for each
  pub waits_same : (one two : ℕ → List E) (xs : List (Mailed M E)) → ((r : ℕ) → r < length xs → one r ≡ two r) → AreCommitted m run one xs → AreCommitted m run two xs
  waits_same one two xs same are = record { count = are.count; each = λ r x at. (let h = are.each r x at in (h.0, h.1 ∙ same r (within xs r x at))) }

  -- a process, whatever waits for it and with a bound that is not beyond the stop
  still_committed : (r : ℕ) (x : Mailed M E) (pending : List E) → IsCommitted m run r x → IsCommitted m run r (record x { process = record x.process { pending = pending } })
  still_committed r x pending is = record {
    model = is.model;
    number = is.number;
    ahead = is.ahead;
    past = is.past;
    kept = is.kept;
    flight = is.flight;
    mail = is.mail;
    outbox = is.outbox;
    early = is.early;
    done = is.done;
    bound = is.bound;
  }

  -- what waits for the process of a number is changed
  abbrev pub changed : ℕ → List E → (ℕ → List E) → ℕ → List E
  changed k pending waits r = cond (r == k) pending (waits r)

  pub one_changed : (waits : ℕ → List E) (xs : List (Mailed M E)) (k : ℕ) (x : Mailed M E) (pending : List E) → slice_get xs k ≡ Some x → AreCommitted m run waits xs
      → AreCommitted m run (changed k pending waits) (set xs k (record x { process = record x.process { pending = pending } }))
  one_changed waits xs k x pending at are = record {
    count = length-set xs k _ ∙ are.count;
    each = set_others (λ r (z : Mailed M E). IsCommitted m run r z × (z.process.pending ≡ changed k pending waits r)) xs k (record x { process = record x.process { pending = pending } })
        (still_committed k x pending (are.each k x at).0, sym (rw (eq-eqb k k refl) refl))
        (λ r z there apart. (let h = are.each r z there in (h.0, h.1 ∙ sym (rw (ne_eqb r k apart) refl))));
  }

  -- ---- events are dealt out

  -- these are left to be dealt out
  pub record AreLeft (events left : List E) (waits : ℕ → List E) : Type 0 where
    pub rest : (r : ℕ) → insert_all m (only m r left) (waits r) ≡ dealt m events r

  pub one_dealt : (events left : List E) (waits : ℕ → List E) (e : E) → AreLeft events (e ∷ left) waits → AreLeft events left (changed (m.dst e) (insert_all m (only m (m.dst e) (e ∷ [])) (waits (m.dst e))) waits)
  one_dealt events left waits e are = record {
    rest = λ r. elim (cases_Bool (r == m.dst e)) [
      | inl b ↦ (let same : r ≡ m.dst e = eqb-true r (m.dst e) b in
          rw b (ap (λ k. insert_all m (only m r left) (insert_all m (only m k (e ∷ [])) (waits k))) (sym same) ∙ (sym (next m r e left (waits r)) ∙ are.rest r)))
      | inr b ↦ rw b (ap (insert_all m (only m r left)) (passed m r e (waits r) (λ is. differ r (m.dst e) b (sym is))) ∙ (sym (next m r e left (waits r)) ∙ are.rest r))
    ];
  }

  -- ---- the bound is raised

  pub one_raised : (waits : ℕ → List E) (bound : ℕ) (xs : List (Mailed M E)) (k : ℕ) (x : Mailed M E) → run.stop ≡ bound → slice_get xs k ≡ Some x → AreCommitted m run waits xs
      → AreCommitted m run waits (set xs k (raised bound x))
  one_raised waits bound xs k x stop at are =
      let was = are.each k x at in
      record {
        count = length-set xs k (raised bound x) ∙ are.count;
        each = set_others (λ r (z : Mailed M E). IsCommitted m run r z × (z.process.pending ≡ waits r)) xs k (raised bound x) (
          record {
            model = was.0.model;
            number = was.0.number;
            ahead = was.0.ahead;
            past = was.0.past;
            kept = was.0.kept;
            flight = was.0.flight;
            mail = was.0.mail;
            outbox = was.0.outbox;
            early = was.0.early;
            done = was.0.done;
            bound = (let le = was.0.bound in omega (arith, le, stop));
          },
          was.1,
        )
            (λ r z there apart. are.each r z there);
      }
