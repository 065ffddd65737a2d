-- Orders that tell any two values apart.
use Rattle.std.specs.Prelude.{◌≡◌, ◌≤◌, ℕ, refl}
use Rattle.std.proofs.Common.{arith}
use Rattle.std.proofs.lemmas.Cmp.{ranked}
use Rattle.std.proofs.lemmas.Map.Lookups.{exact_unsigned}
use Rattle.std.specs.Ordering.{nat_cmp, ordering_then}
use Rattle.std.specs.declared.cmp.Ordering.{Ordering}
use Rattle.std.specs.declared.cmp.Ordering.TheVariants.{Less, Equal, Greater}
use Rattle.tw_process.specs.Order.{event_cmp}
use Rattle.tw_process.specs.declared.event.Event.{Event}

-- there is but one value
pub exact_unit : (a b : Unit {0}) → Equal ≡ Equal → a ≡ b
exact_unit a b h = refl

then_equal : (a b : Ordering) → ordering_then a b ≡ Equal → (a ≡ Equal) × (b ≡ Equal)
then_equal Less b h = cc
then_equal Equal b h = (refl, h)
then_equal Greater b h = cc

module _ {B : Type 0} (cmp : B → B → Ordering) where
  event_of : ℕ → ℕ → ℕ → ℕ → B → Event B
  event_of t r s n b = record { time = t; dst = r; src = s; seq = n; body = b }

  same_parts : (t u r q s p n m : ℕ) (b c : B) → t ≡ u → r ≡ q → s ≡ p → n ≡ m → b ≡ c → event_of t r s n b ≡ event_of u q p m c
  same_parts t u r q s p n m b c v w x y z = cc

  -- events whose bodies are told apart are told apart
  pub event_exact : ((b c : B) → cmp b c ≡ Equal → b ≡ c) → (d e : Event B) → event_cmp cmp d e ≡ Equal → d ≡ e
  unfolding event_of
  event_exact exact d e h =
      let time = then_equal _ _ h in
      let dst = then_equal _ _ time.1 in
      let src = then_equal _ _ dst.1 in
      let seq = then_equal _ _ src.1 in
      same_parts d.time e.time d.dst e.dst d.src e.src d.seq e.seq d.body e.body (exact_unsigned _ _ time.0) (exact_unsigned _ _ dst.0)
      (exact_unsigned _ _ src.0) (exact_unsigned _ _ seq.0) (exact _ _ seq.1)

  not_later : (m n : ℕ) (o : Ordering) → o ≡ nat_cmp m n → (p : Ordering) → ordering_then o p ≡ Less → m ≤ n
  not_later m n Less e p h = omega (arith, ranked m n Less e)
  not_later m n Equal e p h = omega (arith, ranked m n Equal e)
  not_later m n Greater e p h = cc

  -- an event is no later than those that it comes before
  pub event_timely : (d e : Event B) → event_cmp cmp d e ≡ Less → d.time ≤ e.time
  event_timely d e h = not_later d.time e.time (nat_cmp d.time e.time) refl _ h
