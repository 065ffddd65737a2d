-- Laws of the order of events.
use Rattle.std.specs.Prelude.{◌≡◌, ℕ, ◌≤◌, true, false, refl}
use Rattle.std.proofs.Common.{sym, ap, ◌∙◌, arith}
use Rattle.std.proofs.lemmas.Bool.{false≢true}
use Rattle.std.specs.Cmp.{IsTotalOrder}
use Rattle.std.specs.Ordering.{nat_cmp, ordering_then, ordering_reverse, on, then_cmp, is_lt, is_eq}
use Rattle.std.specs.declared.cmp.Ordering.{Ordering}
use Rattle.std.specs.declared.cmp.Ordering.TheVariants.{Less, Equal, Greater}
use Rattle.std.proofs.lemmas.Cmp.{tied_itself, ranked, nat_cmp_total, on_total, then_total}
use Rattle.std.proofs.lemmas.Map.Lookups.{CmpEqualImpliesEq, exact_unsigned}
use Rattle.tw_event.specs.declared.event.Body.{Body}
use Rattle.tw_event.specs.declared.event.Body.TheVariants as body
use Rattle.tw_event.specs.declared.event.Event.{Event}
use Rattle.tw_event.specs.declared.event.PathNo.{PathNo}
use Rattle.tw_event.specs.contracts.event.EventOrd.TheImpl as event_ord
use Rattle.tw_event.specs.contracts.event.EventOrd.TheImpl.Laws as event_laws
use Rattle.tw_event.specs.contracts.event.EventPartialEq.TheImpl as event_eqs
use Rattle.tw_event.specs.Order.{event_cmp, event_before, event_same, body_cmp, class_of, place_of}

-- a body as its class and two numbers
first : Body → ℕ
first body.Start = 0
first (body.Fail w) = w
first (body.Restore w) = w
first (body.Swap i j) = i
first (body.Forbid k) = k
first (body.Allow k) = k
first (body.Update p n) = p.0

second : Body → ℕ
second (body.Swap i j) = j
second (body.Update p n) = n
second _ = 0

numbers_cmp : Event → Event → Ordering
numbers_cmp =
    then_cmp (on (λ e. e.time) nat_cmp)
    (then_cmp (on (λ e. e.dst) nat_cmp)
    (then_cmp (on (λ e. place_of (class_of e.body)) nat_cmp)
    (then_cmp (on (λ e. e.src) nat_cmp)
    (then_cmp (on (λ e. e.seq) nat_cmp)
    (then_cmp (on (λ e. first e.body) nat_cmp) (on (λ e. second e.body) nat_cmp))))))

numbers_total : IsTotalOrder numbers_cmp
unfolding numbers_cmp
numbers_total =
    then_total (on_total (λ e. e.time) nat_cmp_total)
    (then_total (on_total (λ e. e.dst) nat_cmp_total)
    (then_total (on_total (λ e. place_of (class_of e.body)) nat_cmp_total)
    (then_total (on_total (λ e. e.src) nat_cmp_total)
    (then_total (on_total (λ e. e.seq) nat_cmp_total)
    (then_total (on_total (λ e. first e.body) nat_cmp_total) (on_total (λ e. second e.body) nat_cmp_total))))))

then_nothing : (o : Ordering) → ordering_then o Equal ≡ o
then_nothing Less = refl
then_nothing Equal = refl
then_nothing Greater = refl

-- by class, then as s, n and o say
abbrev by_class : Body → Body → Ordering → Ordering → Ordering → Ordering
by_class a b s n o = ordering_then (nat_cmp (place_of (class_of a)) (place_of (class_of b))) (ordering_then s (ordering_then n o))

body_numbers : (a b : Body) (s n : Ordering) → by_class a b s n (ordering_then (nat_cmp (first a) (first b)) (nat_cmp (second a) (second b))) ≡ by_class a b s n (body_cmp a b)
unfolding first second
body_numbers body.Start body.Start s n = refl
body_numbers (body.Swap i j) (body.Swap k l) s n = refl
body_numbers (body.Update p i) (body.Update q j) s n = refl
body_numbers (body.Fail w) (body.Fail x) s n = ap (λ o. ordering_then s (ordering_then n o)) (then_nothing (nat_cmp w x))
body_numbers (body.Restore w) (body.Restore x) s n = ap (λ o. ordering_then s (ordering_then n o)) (then_nothing (nat_cmp w x))
body_numbers (body.Forbid k) (body.Forbid l) s n = ap (λ o. ordering_then s (ordering_then n o)) (then_nothing (nat_cmp k l))
body_numbers (body.Allow k) (body.Allow l) s n = ap (λ o. ordering_then s (ordering_then n o)) (then_nothing (nat_cmp k l))
body_numbers _ _ s n = refl

same_order : (d e : Event) → numbers_cmp d e ≡ event_cmp d e
unfolding numbers_cmp
same_order d e =
    ap (λ o. ordering_then (nat_cmp d.time e.time) (ordering_then (nat_cmp d.dst e.dst) o)) (body_numbers d.body e.body (nat_cmp d.src e.src) (nat_cmp d.seq e.seq))

-- events have a total order
pub event_total : IsTotalOrder event_cmp
event_total = record {
  antisymm = λ x y. sym (same_order x y) ∙ numbers_total.antisymm x y ∙ ap ordering_reverse (same_order y x);
  trans = λ x y z p q. sym (same_order x z) ∙ numbers_total.trans x y z (same_order x y ∙ p) (same_order y z ∙ q);
  congr = λ x y z p. sym (same_order x z) ∙ numbers_total.congr x y z (same_order x y ∙ p) ∙ same_order y z;
}

then_equal : (a b : Ordering) → ordering_then a b ≡ Equal → (a ≡ Equal) × (b ≡ Equal)
then_equal Less b h = cc
then_equal Equal b h = (refl, h)
then_equal Greater b h = cc

body_exact : (a b : Body) → nat_cmp (place_of (class_of a)) (place_of (class_of b)) ≡ Equal → body_cmp a b ≡ Equal → a ≡ b
body_exact body.Start body.Start p h = refl
body_exact (body.Fail w) (body.Fail x) p h = ap body.Fail (exact_unsigned w x h)
body_exact (body.Restore w) (body.Restore x) p h = ap body.Restore (exact_unsigned w x h)
body_exact (body.Swap i j) (body.Swap k l) p h =
    let t = then_equal (nat_cmp i k) (nat_cmp j l) h in
    let a = exact_unsigned i k t.0 in
    let b = exact_unsigned j l t.1 in
    cc
body_exact (body.Forbid k) (body.Forbid l) p h = ap body.Forbid (exact_unsigned k l h)
body_exact (body.Allow k) (body.Allow l) p h = ap body.Allow (exact_unsigned k l h)
body_exact (body.Update p n) (body.Update q m) s h =
    let t = then_equal (nat_cmp p.0 q.0) (nat_cmp n m) h in
    let path : ℕ → PathNo = λ k. record { 0 = k } in
    let a : path p.0 ≡ path q.0 = ap path (exact_unsigned p.0 q.0 t.0) in
    let b = exact_unsigned n m t.1 in
    ap (λ r. body.Update r n) a ∙ ap (body.Update q) b
body_exact _ _ p h = cc

event_of : ℕ → ℕ → ℕ → ℕ → Body → Event
event_of t r s n b = record { time = t; dst = r; src = s; seq = n; body = b }

same_parts : (t u r q s p n m : ℕ) (b c : Body) → t ≡ u → r ≡ q → s ≡ p → n ≡ m → b ≡ c → event_of t r s n b ≡ event_of u q p m c
same_parts t u r q s p n m b c v w x y z = cc

-- only the same event ties with an event
pub event_exact : CmpEqualImpliesEq event_cmp
unfolding event_of
event_exact d e h =
    let time = then_equal _ _ h in
    let dst = then_equal _ _ time.1 in
    let class = then_equal _ _ dst.1 in
    let src = then_equal _ _ class.1 in
    let seq = then_equal _ _ src.1 in
    same_parts d.time e.time d.dst e.dst d.src e.src d.seq e.seq d.body e.body (exact_unsigned _ _ time.0) (exact_unsigned _ _ dst.0)
    (exact_unsigned _ _ src.0) (exact_unsigned _ _ seq.0) (body_exact d.body e.body class.0 seq.1)

lt_less : (o : Ordering) → is_lt o ≡ true → o ≡ Less
lt_less Less h = refl
lt_less Equal h = cc
lt_less Greater h = cc

-- no event is before itself
pub before_not_self : (e : Event) → event_before e e ≡ false
before_not_self e = ap is_lt (tied_itself event_total e)

-- what is before an event is before what that is before
pub before_trans : (d e f : Event) → event_before d e ≡ true → event_before e f ≡ true → event_before d f ≡ true
before_trans d e f h k =
    ap is_lt (event_total.trans d e f (lt_less (event_cmp d e) h) (lt_less (event_cmp e f) k))

neither : (o p : Ordering) → o ≡ ordering_reverse p → is_lt o ≡ false → is_lt p ≡ false → o ≡ Equal
neither Less p r h k = cc
neither Equal p r h k = refl
neither Greater Less r h k = cc
neither Greater Equal r h k = cc
neither Greater Greater r h k = cc

-- of two different events one is before the other
pub before_total : (d e : Event) → event_before d e ≡ false → event_before e d ≡ false → d ≡ e
before_total d e h k =
    event_exact d e (neither (event_cmp d e) (event_cmp e d) (event_total.antisymm d e) h k)

eq_equal : (o : Ordering) → is_eq o ≡ true → o ≡ Equal
eq_equal Less h = cc
eq_equal Equal h = refl
eq_equal Greater h = cc

-- events that tie are the same
pub same_is : (d e : Event) → event_same d e ≡ true → d ≡ e
same_is d e h = event_exact d e (eq_equal (event_cmp d e) h)

-- an event ties with itself
pub same_self : (e : Event) → event_same e e ≡ true
same_self e = ap is_eq (tied_itself event_total e)

not_later : (m n : ℕ) (o : Ordering) → o ≡ nat_cmp m n → (p : Ordering) → is_lt (ordering_then o p) ≡ true → m ≤ n
not_later m n Less e p h = omega (arith, ranked m n Less e)
not_later m n Equal e p h = omega (arith, ranked m n Equal e)
not_later m n Greater e p h = absurd (false≢true h)

-- what is before an event is no later
pub before_time : (d e : Event) → event_before d e ≡ true → d.time ≤ e.time
before_time d e h = not_later d.time e.time (nat_cmp d.time e.time) refl _ h

order_at : (t u r q s p n m : ℕ) (b c : Body) → event_ord.ghosts.cmp (event_of t r s n b) (event_of u q p m c) ≡ event_cmp (event_of t r s n b) (event_of u q p m c)
unfolding event_of
order_at t u r q s p n m body.Start body.Start = refl
order_at t u r q s p n m (body.Fail w) (body.Fail x) = refl
order_at t u r q s p n m (body.Restore w) (body.Restore x) = refl
order_at t u r q s p n m (body.Swap i j) (body.Swap k l) = refl
order_at t u r q s p n m (body.Forbid k) (body.Forbid l) = refl
order_at t u r q s p n m (body.Allow k) (body.Allow l) = refl
order_at t u r q s p n m (body.Update a k) (body.Update b l) = refl
order_at t u r q s p n m _ _ = refl

-- the comparison of the code
pub event_order : (d e : Event) → event_ord.ghosts.cmp d e ≡ event_cmp d e
unfolding event_of
event_order d e = order_at d.time e.time d.dst e.dst d.src e.src d.seq e.seq d.body e.body

-- the equality of the code
pub event_eq : (d e : Event) → event_eqs.ghosts.eq d e ≡ event_same d e
event_eq d e = event_laws.matches_eq-law d e ∙ ap is_eq (event_order d e)
