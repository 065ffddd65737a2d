-- A shorter list of laws, for a model whose processes number what they send as it goes out: where it keeps these, it keeps what
-- every model keeps.
use Rattle.std.proofs.Common.{◌≡◌, ℕ, ◌+◌, ◌<◌, ◌≤◌, true, false, List, [], ◌∷◌, length, ap, sym, ◌∙◌, subst, inl, inr, arith}
use Rattle.std.proofs.lemmas.Bool.{cases_Bool}
use Rattle.std.specs.Ordering.{is_eq}
use Rattle.std.specs.declared.cmp.Ordering.{Ordering}
use Rattle.std.specs.declared.cmp.Ordering.TheVariants.{Equal}
use Rattle.tw_process.specs.Behaviour.{Behaviour, IsBehaved, simulation_of}
use Rattle.tw_process.specs.Parts.{Parts}
use Rattle.tw_process.proofs.Lawful.{eq_equal}
use Rattle.tw_sim.specs.Simulation.{Simulation, IsNumbered, state, times}
use Rattle.tw_sim.proofs.Counts.{none}
use Rattle.tw_sim.proofs.Members.{In, in_times}

-- what process r sends at time t: each event at least so much later, from r, and numbered from n on
abbrev pub AreStamped : {E : Type 0} → Parts E → ℕ → ℕ → ℕ → ℕ → List E → Type 0
AreStamped parts ahead t r n [] = Unit {0}
AreStamped parts ahead t r n (x ∷ xs) = (t + ahead ≤ parts.time x) × (parts.src x ≡ r) × (parts.seq x ≡ n) × AreStamped parts ahead t r (n + 1) xs

module _ {S E : Type 0} (parts : Parts E) (cmp : E → E → Ordering) (b : Behaviour S E) where
  -- the simulation of the model
  abbrev pub sim : Simulation S E
  sim = simulation_of parts cmp b

  pub record IsPlain : Type 0 where
    -- a delay is never 0
    pub positive : 0 < b.lookahead
    -- what is sent is stamped, from the process's count on, and the count goes up by as many
    pub stamped : (s : S) (e : E) → AreStamped parts b.lookahead (parts.time e) (parts.dst e) (b.number s) (b.sends s e)
    pub counted : (s : S) (e : E) → b.number (b.after s e) ≡ b.number s + length (b.sends s e)
    pub few : (s : S) (e : E) → length (b.sends s e) ≤ b.most
    pub within : (s : S) (e : E) → b.full s e ≡ false → b.number (b.after s e) ≤ b.limit
    -- what suits is for a process that is there, and what an event sends that suits suits too
    pub receiver : (e : E) → b.suits e ≡ true → parts.dst e < b.processes
    pub suited : (s : S) (e x : E) → b.suits e ≡ true → In x (b.sends s e) → b.suits x ≡ true
    -- an opening event suits, comes from a process that is there, has a number below every count, and opens once
    pub opens_suited : (x : E) → In x b.opening → b.suits x ≡ true
    pub opens_here : (x : E) → In x b.opening → parts.src x < b.processes
    pub opens_first : (x : E) → In x b.opening → (s : S) → parts.seq x < b.number s
    pub opens_once : (x : E) → times sim x b.opening ≤ 1

  module _ (exact : (x y : E) → cmp x y ≡ Equal → x ≡ y) where
    -- events that are the same are equal
    pub same_is : (x y : E) → is_eq (cmp x y) ≡ true → x ≡ y
    same_is x y h = exact x y (eq_equal (cmp x y) h)

    -- what is counted stands there
    pub stands : (x : E) (xs : List E) → 0 < times sim x xs → In x xs
    stands x xs h = in_times sim same_is x xs h

    in_stamped : (ahead t r n : ℕ) (xs : List E) → AreStamped parts ahead t r n xs → (x : E) → In x xs
        → (t + ahead ≤ parts.time x) × (parts.src x ≡ r) × (n ≤ parts.seq x) × (parts.seq x < n + length xs)
    in_stamped ahead t r n [] st x h = absurd h
    in_stamped ahead t r n (y ∷ ys) st x (inl e) =
        (subst (λ z. t + ahead ≤ parts.time z) (sym e) st.0, ap parts.src e ∙ st.1, (let k = ap parts.seq e ∙ st.2 in omega arith), (let k = ap parts.seq e ∙ st.2 in omega arith))
    in_stamped ahead t r n (y ∷ ys) st x (inr h) =
        let k = in_stamped ahead t r (n + 1) ys st.3 x h in
        (k.0, k.1, omega (arith, k.2), omega (arith, k.3))

    stamped_once : (ahead t r n : ℕ) (xs : List E) → AreStamped parts ahead t r n xs → (x : E) → times sim x xs ≤ 1
    stamped_once ahead t r n [] st x = omega arith
    stamped_once ahead t r n (y ∷ ys) st x =
        let h = stamped_once ahead t r (n + 1) ys st.3 x in
        elim (cases_Bool (is_eq (cmp x y))) [
          | inl q ↦ (
              let others : times sim x ys ≡ 0 = none _ (λ more.
              let k = in_stamped ahead t r (n + 1) ys st.3 x (stands x ys more) in
              let e : parts.seq x ≡ n = ap parts.seq (same_is x y q) ∙ st.2 in
              omega (arith, k.2)) in
              rw q (omega arith))
          | inr q ↦ rw q (omega arith)
        ]

    -- such a model keeps what every model keeps
    pub behaved : IsPlain → IsBehaved sim b.lookahead
    behaved is = record {
      positive = is.positive;
      ahead = λ s e x h. (in_stamped _ _ _ _ _ (is.stamped s e) x (stands x _ h)).0;
      sender = λ s e x h. (in_stamped _ _ _ _ _ (is.stamped s e) x (stands x _ h)).1;
      few = is.few;
      suit_opening = λ e h. is.opens_suited e (stands e _ h);
      suit_sends = λ e x older all suit h. is.suited (state sim (parts.dst e) older) e x suit (stands x _ h);
      receiver = is.receiver;
      opener = λ e h. is.opens_here e (stands e _ h);
    }

    -- and numbers what it sends
    pub numbered : IsPlain → IsNumbered sim
    numbered is = record {
      numbered = λ s e x h.
          (let k = in_stamped _ _ _ _ _ (is.stamped s e) x (stands x _ h) in let c = is.counted s e in (k.2, omega (arith, k.3)));
      rising = λ s e. (let c = is.counted s e in omega arith);
      within = is.within;
      once = λ s e x. stamped_once _ _ _ _ _ (is.stamped s e) x;
      opening_once = is.opens_once;
      strange = λ s e x h.
          none _ (λ more.
          let k = in_stamped _ _ _ _ _ (is.stamped s e) x (stands x _ h) in
          let first = is.opens_first x (stands x _ more) s in
          omega (arith, k.2));
    }
