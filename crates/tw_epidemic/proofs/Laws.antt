-- What an epidemic keeps: contacts are stamped, go to cells that are there, and one opens.
use Rattle.std.proofs.Common.{◌≡◌, ℕ, ◌+◌, ◌-◌, ◌<◌, ◌≤◌, Bool, true, false, length, nat_lt, refl, sym, subst, inl, inr, arith}
use Rattle.std.proofs.lemmas.Bool.{cases_Bool, ltb-true, lt-ltb}
use Rattle.std.specs.declared.cmp.Ordering.{Ordering}
use Rattle.std.specs.declared.cmp.Ordering.TheVariants.{Equal}
use Rattle.std.specs.Ordering.{is_eq}
use Rattle.tw_process.specs.Behaviour.{IsBehaved, simulation_of}
use Rattle.tw_process.specs.Order.{event_parts}
use Rattle.tw_process.proofs.Plain as plain
use Rattle.tw_process.proofs.Plain.{AreStamped, IsPlain}
use Rattle.tw_sim.proofs.Members.{In}
use Rattle.tw_sim.specs.Simulation.{IsNumbered}
use Rattle.tw_epidemic.specs.Epidemic.{Contact, behaviour_of, beyond, contacts, first_contact}
use Rattle.tw_epidemic.specs.declared.epidemic.Cell.{Cell}
use Rattle.tw_epidemic.specs.declared.epidemic.Epidemic.{Epidemic}

module _ (m : Epidemic) where
  there : (here places : ℕ) → nat_lt (beyond m here places) m.cells ≡ true
  there here places = let some = m.here in lt-ltb _ _ (omega arith)

  -- each contact is for a cell that is there
  all_there : (e x : Contact) → In x (contacts m e) → nat_lt x.dst m.cells ≡ true
  all_there e x (inl is) = subst (λ z. nat_lt z.dst m.cells ≡ true) (sym is) (there e.dst 1)
  all_there e x (inr (inl is)) = subst (λ z. nat_lt z.dst m.cells ≡ true) (sym is) (there e.dst (m.cells - 1))
  all_there e x (inr (inr (inl is))) = subst (λ z. nat_lt z.dst m.cells ≡ true) (sym is) (there e.dst m.width)
  all_there e x (inr (inr (inr (inl is)))) = subst (λ z. nat_lt z.dst m.cells ≡ true) (sym is) (there e.dst (m.cells - m.width))
  all_there e x (inr (inr (inr (inr nothing)))) = absurd nothing

  stamped : (infected : Bool) (s : Cell) (e : Contact) → s.infected ≡ infected → AreStamped event_parts 1 e.time e.dst ((behaviour_of m).number s) ((behaviour_of m).sends s e)
  stamped true s e h = rw h tt
  stamped false s e h = rw h ((omega arith, refl, refl, (omega arith, refl, refl, (omega arith, refl, refl, (omega arith, refl, refl, tt)))))

  counted : (infected : Bool) (s : Cell) (e : Contact) → s.infected ≡ infected → 5 ≡ (behaviour_of m).number s + length ((behaviour_of m).sends s e)
  counted true s e h = rw h refl
  counted false s e h = rw h refl

  few : (infected : Bool) (s : Cell) (e : Contact) → s.infected ≡ infected → length ((behaviour_of m).sends s e) ≤ 4
  few true s e h = rw h (omega arith)
  few false s e h = rw h (omega arith)

  suited : (infected : Bool) (s : Cell) (e x : Contact) → s.infected ≡ infected → In x ((behaviour_of m).sends s e) → nat_lt x.dst m.cells ≡ true
  suited true s e x h k = absurd (rw h at k)
  suited false s e x h k = all_there e x (rw h at k)

  above_none : (infected : Bool) (s : Cell) → s.infected ≡ infected → 0 < (behaviour_of m).number s
  above_none true s h = rw h (omega arith)
  above_none false s h = rw h (omega arith)

  module _ (cmp : Contact → Contact → Ordering) (exact : (x y : Contact) → cmp x y ≡ Equal → x ≡ y) where
    keeps : IsPlain event_parts cmp (behaviour_of m)
    keeps = record {
      positive = omega arith;
      stamped = λ s e. stamped s.infected s e refl;
      counted = λ s e. counted s.infected s e refl;
      few = λ s e. few s.infected s e refl;
      within = λ s e h. omega arith;
      receiver = λ e h. ltb-true _ _ h;
      suited = λ s e x _ k. suited s.infected s e x refl k;
      opens_suited = λ x k. elim k [ inl is ↦ subst (λ z. nat_lt z.dst m.cells ≡ true) (sym is) (lt-ltb _ _ m.here) | inr nothing ↦ absurd nothing ];
      opens_here = λ x k. elim k [ inl is ↦ subst (λ z. z.src < m.cells) (sym is) m.here | inr nothing ↦ absurd nothing ];
      opens_first = λ x k s. elim k [ inl is ↦ subst (λ z. z.seq < (behaviour_of m).number s) (sym is) (above_none s.infected s refl) | inr nothing ↦ absurd nothing ];
      opens_once = λ x. elim (cases_Bool (is_eq (cmp x (first_contact m)))) [ inl b ↦ rw b (omega arith) | inr b ↦ rw b (omega arith) ];
    }

    pub behaved : IsBehaved (simulation_of event_parts cmp (behaviour_of m)) 1
    behaved = plain.behaved event_parts cmp (behaviour_of m) exact keeps

    pub numbered : IsNumbered (simulation_of event_parts cmp (behaviour_of m))
    numbered = plain.numbered event_parts cmp (behaviour_of m) exact keeps
