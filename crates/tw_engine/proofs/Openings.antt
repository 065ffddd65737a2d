-- The opening events of a process.
use Rattle.std.proofs.Common.{◌≡◌, ℕ, ◌+◌, ◌<◌, ◌==◌, true, List, [], ◌∷◌, drop, get_or, length, refl, sym, subst, inl, inr}
use Rattle.std.proofs.lemmas.Bool.{cases_Bool, eq-eqb, ne_eqb}
use Rattle.std.specs.List.{AllByRecursion}
use Rattle.tw_sim.specs.Simulation.{Simulation, IsLawful, only}
use Rattle.tw_sim.specs.Seq.{insert, insert_all}
use Rattle.tw_engine.specs.Process.{AreOwn}
use Rattle.tw_pending.proofs.Walks.{split}
use Rattle.tw_sim.proofs.Counts.{is_order}
use Rattle.tw_sim.proofs.Ordered.{all-insert, all_counted}

-- each suits its receiver
abbrev pub AreSuited : {S E : Type 0} → Simulation S E → List E → Type 0
AreSuited m events = AllByRecursion (λ e. m.suits e ≡ true) events

module _ {S E : Type 0} (m : Simulation S E) where
  pub opening_suited : IsLawful m → AreSuited m m.opening
  opening_suited law = all_counted m.before m.same (is_order m law) (λ e. m.suits e ≡ true) m.opening law.suit_opening

  -- one after the other
  pub next : (r : ℕ) (x : E) (xs pending : List E) → insert_all m (only m r (x ∷ xs)) pending ≡ insert_all m (only m r xs) (insert_all m (only m r (x ∷ [])) pending)
  next r x xs pending = elim (cases_Bool (m.dst x == r)) [ inl b ↦ rw b refl | inr b ↦ rw b refl ]

  -- one that is for the process goes into its place
  pub taken : (r : ℕ) (x : E) (pending : List E) → m.dst x ≡ r → insert m x pending ≡ insert_all m (only m r (x ∷ [])) pending
  taken r x pending h = rw (eq-eqb (m.dst x) r h) refl

  -- and those that wait are its own still
  pub own_inserted : (r : ℕ) (x : E) (xs ys : List E) → ys ≡ insert m x xs → m.dst x ≡ r → m.suits x ≡ true → AreOwn m r xs → AreOwn m r ys
  own_inserted r x xs ys is own suits all = subst (AreOwn m r) (sym is) (all-insert m.before (λ e. (m.dst e ≡ r) × (m.suits e ≡ true)) x xs (own, suits) all)

  -- another does not
  pub passed : (r : ℕ) (x : E) (pending : List E) → (m.dst x ≡ r → ⊥) → pending ≡ insert_all m (only m r (x ∷ [])) pending
  passed r x pending h = rw (ne_eqb (m.dst x) r h) refl

-- the next of a list, and what is behind it
pub step : {E : Type 0} (P : E → Type 0) (xs : List E) (i : ℕ) (x : E) → i < length xs → x ≡ get_or xs i x → AllByRecursion P (drop i xs) → (drop i xs ≡ x ∷ drop (i + 1) xs) × P x × AllByRecursion P (drop (i + 1) xs)
step P xs i x l is h =
    let all = subst (AllByRecursion P) (split xs i x l is) h in
    (split xs i x l is, all.0, all.1)
