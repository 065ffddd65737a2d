-- What PHOLD keeps: jobs are stamped, go to processes that are there, and open once.
use Rattle.std.proofs.Common.{◌≡◌, ℕ, ◌+◌, ◌*◌, ◌/◌, ◌%◌, ◌<◌, true, nat_lt, refl, ap, sym, subst, inl, inr, arith}
use Rattle.std.proofs.lemmas.Bool.{cases_Bool, ltb-true, lt-ltb, false≢true}
use Rattle.std.specs.declared.cmp.Ordering.{Ordering}
use Rattle.std.specs.declared.cmp.Ordering.TheVariants.{Equal}
use Rattle.tw_process.specs.Behaviour.{IsBehaved, simulation_of}
use Rattle.tw_process.specs.Order.{event_parts}
use Rattle.tw_process.proofs.First.{first_once, in_first}
use Rattle.tw_process.proofs.Plain as plain
use Rattle.tw_process.proofs.Plain.{IsPlain}
use Rattle.tw_sim.specs.Simulation.{IsNumbered}
use Rattle.tw_phold.specs.Phold.{Job, behaviour_of, opening_job, target_by}
use Rattle.tw_phold.specs.declared.phold.Phold.{Phold}
use Rattle.tw_phold.specs.declared.state.TheConstants.{MOST_HANDLED}

module _ (m : Phold) where
  -- a job goes to a process that is there
  target_there : (here choice word : ℕ) → here < m.processes → nat_lt (target_by m here choice word) m.processes ≡ true
  target_there here choice word h =
      let some = m.some in
      elim (cases_Bool (nat_lt (choice % 1000) m.remote)) [
        | inl b ↦ rw b (lt-ltb _ _ (omega arith))
        | inr b ↦ rw b (lt-ltb _ _ h)
      ]

  -- the number of an opening job is below that of the jobs of a process
  few_each : (i : ℕ) → i < m.processes * m.jobs → i / m.processes < m.jobs
  few_each i h = let some = m.some in grind arith

  -- an opening job tells its place
  apart : (i j : ℕ) → opening_job m i ≡ opening_job m j → i ≡ j
  apart i j e =
      let home : i % m.processes ≡ j % m.processes = ap (λ x. x.dst) e in
      let number : i / m.processes ≡ j / m.processes = ap (λ x. x.seq) e in
      let some = m.some in
      let here : m.processes * (i / m.processes) ≡ m.processes * (j / m.processes) = ap (λ k. m.processes * k) number in
      omega arith

  module _ (cmp : Job → Job → Ordering) (exact : (x y : Job) → cmp x y ≡ Equal → x ≡ y) where
    keeps : IsPlain event_parts cmp (behaviour_of m)
    keeps = record {
      positive = m.late;
      stamped = λ s e. (omega arith, refl, refl, tt);
      counted = λ s e. omega arith;
      few = λ s e. omega arith;
      within = λ s e h.
          elim (cases_Bool (nat_lt s.handled MOST_HANDLED)) [
            | inl b ↦ let k = ltb-true _ _ b in omega arith
            | inr b ↦ absurd (false≢true (sym (rw b at h)))
          ];
      receiver = λ e h. ltb-true _ _ h;
      suited = λ s e x h there.
          elim there [
            | inl is ↦ subst (λ z. nat_lt z.dst m.processes ≡ true) (sym is) (target_there _ _ _ (ltb-true _ _ h))
            | inr nothing ↦ absurd nothing
          ];
      opens_suited = λ x there.
          let at = in_first (opening_job m) _ x there in
          let some = m.some in
          subst (λ z. nat_lt z.dst m.processes ≡ true) (sym at.2) (lt-ltb _ _ (omega arith));
      opens_here = λ x there.
          let at = in_first (opening_job m) _ x there in
          let some = m.some in
          subst (λ z. z.src < m.processes) (sym at.2) (omega arith);
      opens_first = λ x there s.
          let at = in_first (opening_job m) _ x there in
          let k = few_each at.0 at.1 in
          subst (λ z. z.seq < m.jobs + s.handled) (sym at.2) (omega arith);
      opens_once = first_once (simulation_of event_parts cmp (behaviour_of m)) (plain.same_is event_parts cmp (behaviour_of m) exact) (opening_job m) _ (λ i j _ _. apart i j);
    }

    pub behaved : IsBehaved (simulation_of event_parts cmp (behaviour_of m)) m.lookahead
    behaved = plain.behaved event_parts cmp (behaviour_of m) exact keeps

    pub numbered : IsNumbered (simulation_of event_parts cmp (behaviour_of m))
    numbered = plain.numbered event_parts cmp (behaviour_of m) exact keeps
