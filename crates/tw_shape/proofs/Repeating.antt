-- Where a shape comes again with updates pending alone, it comes again for ever, and something is always pending.
use Rattle.std.proofs.Common.{◌≡◌, ℕ, suc, zero, ◌+◌, ◌-◌, ◌*◌, ◌<◌, ◌≤◌, ◌==◌, Bool, true, false, ◌&&◌, not, List, [], ◌∷◌, length, map, refl, ap, sym, ◌∙◌, subst, inl, inr, arith}
use Rattle.std.specs.List.{list_all, range_with_len}
use Rattle.std.specs.Ordering.{is_lt, nat_cmp, ordering_then}
use Rattle.std.specs.declared.cmp.Ordering.{Ordering}
use Rattle.std.specs.declared.cmp.Ordering.TheVariants.{Less, Equal, Greater}
use Rattle.std.proofs.Math.Nat.{le-mul_of_pos_right}
use Rattle.std.proofs.lemmas.Bool.{and_parts, cases_lt}
use Rattle.std.proofs.lemmas.Map.Lookups.{exact_unsigned}
use Rattle.tw_event.specs.declared.event.Body.{Body}
use Rattle.tw_event.specs.declared.event.Event.{Event}
use Rattle.tw_event.specs.declared.event.PathNo.{PathNo}
use Rattle.tw_event.specs.Order.{body_cmp, class_of, event_cmp, place_of}
use Rattle.tw_model.specs.declared.state.Counters.{Counters}
use Rattle.tw_model.specs.declared.state.Row.{Row}
use Rattle.tw_model.specs.Case.{Case, IsCase, simulation}
use Rattle.tw_model.specs.Quiet.{IsQuiet}
use Rattle.tw_model.specs.State.{State}
use Rattle.tw_model.proofs.Lawful.{lawful}
use Rattle.tw_sim.specs.Simulation.{Simulation}
use Rattle.tw_sim.specs.Seq.{World, at, begin, rest, seq}
use Rattle.tw_sim.proofs.Members.{In, range_has}
use Rattle.tw_sim.proofs.Seq.{IsOver, finished_finished, finished_over}
use Rattle.tw_shape.specs.Shape.{Repeats, Shape, bare, can_repeat, is_update, seen_from, shape}
use Rattle.tw_shape.proofs.Shift.{AreShifted, Each, IsShift, shifted_on}
use Rattle.tw_shape.proofs.Alike.{AreAlike, IsUpdate, nat_cmp-add, react, shifted, updates_effect}
use Rattle.tw_shape.proofs.Waiting.{idle, pending_late, pending_number, sent_rises}

-- ---- the order of events

then_same : (o a b : Ordering) → (o ≡ Equal → a ≡ b) → ordering_then o a ≡ ordering_then o b
then_same Less a b h = refl
then_same Equal a b h = h refl
then_same Greater a b h = refl

cmp-shifted : (p : ℕ) (d : ℕ → ℕ) (x y : Event) → event_cmp (shifted p d x) (shifted p d y) ≡ event_cmp x y
cmp-shifted p d x y =
    let numbers : x.src ≡ y.src → nat_cmp (x.seq + d x.src) (y.seq + d y.src) ≡ nat_cmp x.seq y.seq
    = λ s. subst (λ r. nat_cmp (x.seq + d x.src) (y.seq + d r) ≡ nat_cmp x.seq y.seq) s (nat_cmp-add x.seq y.seq (d x.src)) in
    let bodies = body_cmp x.body y.body in
    let senders = then_same (nat_cmp x.src y.src) (ordering_then (nat_cmp (x.seq + d x.src) (y.seq + d y.src)) bodies) (ordering_then (nat_cmp x.seq y.seq) bodies)
    (λ e. ap (λ o. ordering_then o bodies) (numbers (exact_unsigned x.src y.src e))) in
    ap (λ o. ordering_then o (ordering_then (nat_cmp x.dst y.dst) (ordering_then (nat_cmp (place_of (class_of x.body)) (place_of (class_of y.body)))
    (ordering_then (nat_cmp x.src y.src) (ordering_then (nat_cmp (x.seq + d x.src) (y.seq + d y.src)) bodies))))) (nat_cmp-add x.time y.time p)
    ∙ ap (λ o. ordering_then (nat_cmp x.time y.time) (ordering_then (nat_cmp x.dst y.dst) (ordering_then (nat_cmp (place_of (class_of x.body)) (place_of (class_of y.body))) o))) senders

-- ---- lists

map_same : {X Y : Type 0} (f g : X → Y) (xs : List X) → ((x : X) → In x xs → f x ≡ g x) → map f xs ≡ map g xs
map_same f g [] h = refl
map_same f g (x ∷ xs) h = let head = h x (inl refl) in let tail = map_same f g xs (λ y k. h y (inr k)) in cc

map_back : {X Y : Type 0} (f g : X → Y) (xs : List X) → map f xs ≡ map g xs → (x : X) → In x xs → f x ≡ g x
map_back f g (y ∷ xs) h x (inl e) = let head : f y ≡ g y = cc in cc
map_back f g (y ∷ xs) h x (inr k) = map_back f g xs (let tail : map f xs ≡ map g xs = cc in tail) x k
map_back f g [] h x k = absurd k

-- ---- from shapes to runs and back

-- times of the same shape have the same bars
pub same_bars : (case : Case) (t u r : ℕ) → r < case.net.nodes → shape case t ≡ shape case u → (at (simulation case) t r).barred ≡ (at (simulation case) u r).barred
same_bars case t u r below same =
    ap (λ s. s.barred) (map_back (λ q. bare (at (simulation case) t q)) (λ q. bare (at (simulation case) u q)) (range_with_len 0 case.net.nodes)
    (ap (λ s. s.routers) same) r (range_has r 0 case.net.nodes (omega arith) (omega arith)))

state_of : PathNo → List Row → List PathNo → List Bool → Counters → State
state_of rib rows order barred c = record { rib = rib; rows = rows; order = order; barred = barred; counters = c }

-- two states that are the same but for their counters
same_but_counters : (s u : State) → bare u ≡ bare s → u ≡ record s { counters = u.counters }
unfolding state_of
same_but_counters s u h =
    let rib = ap (λ r. r.rib) h in
    let rows = ap (λ r. r.rows) h in
    let order = ap (λ r. r.order) h in
    let barred = ap (λ r. r.barred) h in
    let all : state_of u.rib u.rows u.order u.barred u.counters ≡ state_of s.rib s.rows s.order s.barred u.counters = cc in
    all

each_from_all : (f : Event → Event) (xs : List Event) → ((x : Event) → (f x).body ≡ x.body) → list_all (λ e. is_update e.body) (map f xs) ≡ true → Each IsUpdate xs
each_from_all f [] same h = tt
each_from_all f (x ∷ xs) same h =
    let both = and_parts (is_update (f x).body) (list_all (λ e. is_update e.body) (map f xs)) h in
    (ap is_update (sym (same x)) ∙ both.0, each_from_all f xs same both.1)

event_of : ℕ → ℕ → ℕ → ℕ → Body → Event
event_of t r s n b = record { time = t; dst = r; src = s; seq = n; body = b }

-- an event that is seen alike, p ticks later and after more messages, is the same one moved on
moved : (t p n k : ℕ) (d : ℕ → ℕ) (x y : Event) → seen_from (t + p) k y ≡ seen_from t n x → IsUpdate x → t ≤ x.time → t + p ≤ y.time
    → x.seq < n → (IsUpdate y → y.seq < k) → k ≡ n + d x.src → y ≡ shifted p d x
unfolding event_of
moved t p n k d x y h u xt yt xs ys more =
    let body : y.body ≡ x.body = ap (λ e. e.body) h in
    let uy : IsUpdate y = ap is_update body ∙ u in
    let time : y.time - (t + p) ≡ x.time - t = ap (λ e. e.time) h in
    let times : y.time ≡ x.time + p = omega arith in
    let seq = rw (uy, u) at (ap (λ e. e.seq) h) in
    let low = ys uy in
    let seqs : y.seq ≡ x.seq + d x.src = omega arith in
    let dst : y.dst ≡ x.dst = ap (λ e. e.dst) h in
    let src : y.src ≡ x.src = ap (λ e. e.src) h in
    let all : event_of y.time y.dst y.src y.seq y.body ≡ event_of (x.time + p) x.dst x.src (x.seq + d x.src) x.body = cc in
    all

module _ (case : Case) (is : IsCase case) where
  abbrev m : Simulation State Event
  m = simulation case

  -- how many messages router r has sent before time t
  abbrev sent_at : ℕ → ℕ → ℕ
  sent_at t r = (at m t r).counters.sent

  -- events as they are seen from time t
  abbrev seen : ℕ → List Event → List Event
  seen t xs = map (λ e. seen_from t (sent_at t e.src) e) xs

  module _ (p : ℕ) (d : ℕ → ℕ) where
    abbrev Like : ℕ → State → State → Type 0
    Like r s u = AreAlike (d r) s u

    is_shift : IsShift m p (shifted p d) Like IsUpdate
    is_shift = record {
      time = λ e. refl;
      dst = λ e. refl;
      before = λ x y. ap is_lt (cmp-shifted p d x y);
      after = λ s u e g a. (react case.net p d s u e g a).state;
      sends = λ s u e g a. (react case.net p d s u e g a).sends;
      good = λ s e g. updates_effect case.net p d s e g;
    }

    abbrev Shifted : World Event → World Event → Type 0
    Shifted u v = AreShifted m (shifted p d) Like IsUpdate u v

    moved_all : (t : ℕ) → ((r : ℕ) → sent_at (t + p) r ≡ sent_at t r + d r) → (xs ys : List Event)
        → ((e : Event) → In e xs → In e (rest m t)) → ((e : Event) → In e ys → In e (rest m (t + p)))
        → Each IsUpdate xs → seen (t + p) ys ≡ seen t xs → ys ≡ map (shifted p d) xs
    moved_all t more [] [] old new u h = refl
    moved_all t more [] (y ∷ ys) old new u h = cc
    moved_all t more (x ∷ xs) [] old new u h = cc
    moved_all t more (x ∷ xs) (y ∷ ys) old new u h =
        let head : seen_from (t + p) (sent_at (t + p) y.src) y ≡ seen_from t (sent_at t x.src) x = cc in
        let tail : seen (t + p) ys ≡ seen t xs = cc in
        let src : y.src ≡ x.src = ap (λ e. e.src) head in
        let first = moved t p (sent_at t x.src) (sent_at (t + p) y.src) d x y head u.0 (pending_late case is t x (old x (inl refl))) (pending_late case is (t + p) y (new y (inl refl)))
        (pending_number case is t x (old x (inl refl)) u.0) (pending_number case is (t + p) y (new y (inl refl))) (ap (sent_at (t + p)) src ∙ more x.src) in
        let others = moved_all t more xs ys (λ e k. old e (inr k)) (λ e k. new e (inr k)) u.1 tail in
        cc

    seen_moved : (t : ℕ) → ((r : ℕ) → sent_at (t + p) r ≡ sent_at t r + d r) → (xs : List Event) → Each IsUpdate xs → seen (t + p) (map (shifted p d) xs) ≡ seen t xs
    seen_moved t more [] u = refl
    seen_moved t more (x ∷ xs) u =
        let time : x.time + p - (t + p) ≡ x.time - t = omega arith in
        let seq : sent_at t x.src + d x.src - (x.seq + d x.src) ≡ sent_at t x.src - x.seq = omega arith in
        rw (u.0, more x.src, time, seq) (ap (λ l. record x { time = x.time - t; seq = sent_at t x.src - x.seq } ∷ l) (seen_moved t more xs u.1))

    shape_shifted : (t : ℕ) → Shifted (seq m t) (seq m (t + p)) → shape case (t + p) ≡ shape case t
    shape_shifted t w =
        let routers : map (λ r. bare (at m (t + p) r)) (range_with_len 0 case.net.nodes) ≡ map (λ r. bare (at m t r)) (range_with_len 0 case.net.nodes)
        = map_same (λ r. bare (at m (t + p) r)) (λ r. bare (at m t r)) (range_with_len 0 case.net.nodes) (λ r k. ap bare (w.states r).same) in
        let more : (r : ℕ) → sent_at (t + p) r ≡ sent_at t r + d r = λ r. ap (λ s. s.counters.sent) (w.states r).same ∙ (w.states r).sent in
        let pending : seen (t + p) (rest m (t + p)) ≡ seen t (rest m t) = ap (seen (t + p)) w.rest ∙ seen_moved t more (rest m t) w.good in
        shape_of routers pending where
          shape_of : map (λ r. bare (at m (t + p) r)) (range_with_len 0 case.net.nodes) ≡ map (λ r. bare (at m t r)) (range_with_len 0 case.net.nodes)
              → seen (t + p) (rest m (t + p)) ≡ seen t (rest m t) → shape case (t + p) ≡ shape case t
          shape_of r q = λ i. record { routers = r i; pending = q i }

  -- where the shape at a comes again p ticks later, the runs to these times differ by a shift
  module _ (a p : ℕ) (can : can_repeat (shape case a) ≡ true) (again : shape case (a + p) ≡ shape case a) where
    abbrev gain : ℕ → ℕ
    gain r = sent_at (a + p) r - sent_at a r

    gains : (r : ℕ) → sent_at (a + p) r ≡ sent_at a r + gain r
    gains r = let k = sent_rises case is a p r in omega arith

    updates_pending : Each IsUpdate (rest m a)
    updates_pending =
        each_from_all (λ e. seen_from a (sent_at a e.src) e) (rest m a) (λ e. refl)
        (and_parts (not (length (shape case a).pending == 0)) (list_all (λ e. is_update e.body) (shape case a).pending) can).1

    states_alike : (r : ℕ) → AreAlike (gain r) (at m a r) (at m (a + p) r)
    states_alike r = record {
      counters = (at m (a + p) r).counters;
      same = same_but_counters (at m a r) (at m (a + p) r) (elim (cases_lt r case.net.nodes) [
        | inl l ↦ map_back (λ q. bare (at m (a + p) q)) (λ q. bare (at m a q)) (range_with_len 0 case.net.nodes)
            (ap (λ s. s.routers) again) r (range_has r 0 case.net.nodes (omega arith) (omega arith))
        | inr out ↦ ap bare (idle case is (a + p) r out ∙ sym (idle case is a r out))
      ]);
      sent = gains r;
    }

    runs_shifted : Shifted p gain (seq m a) (seq m (a + p))
    runs_shifted = record {
      states = states_alike;
      rest = moved_all p gain a gains (rest m a) (rest m (a + p)) (λ e k. k) (λ e k. k) updates_pending (ap (λ s. s.pending) again);
      good = updates_pending;
    }

    step : (n : ℕ) → shape case (a + n * p + p) ≡ shape case (a + n * p)
    step n = shape_shifted p gain (a + n * p) (shifted_on m p (shifted p gain) (Like p gain) IsUpdate (is_shift p gain) (lawful case is) a (n * p) runs_shifted)

    -- the shape comes again for ever
    pub repeats : Repeats case a p
    repeats zero = ap (shape case) (omega arith)
    repeats (suc n) =
        let next : a + suc n * p ≡ a + n * p + p = omega arith in
        ap (shape case) next ∙ step n ∙ repeats n

    some_pending : (s : Shape) → can_repeat s ≡ true → s.pending ≡ [] → ⊥
    some_pending s h none = let k : can_repeat s ≡ false = ap (λ l. not (length l == 0) && list_all (λ e. is_update e.body) l) none in cc

    quiet_on : (t k : ℕ) → IsQuiet case t → IsQuiet case (t + k)
    quiet_on t k quiet =
        let whole = finished_finished m (lawful case is) t (t + k) (begin m) (omega arith) in
        let over = finished_over m (lawful case is) (t + k) (seq m t) (subst (IsOver m (t + k)) (sym quiet) tt) in
        ap (λ w. w.rest) (sym whole) ∙ ap (λ w. w.rest) over ∙ quiet

    -- something is pending at every time from a on
    pub never_quiet : 0 < p → (t : ℕ) → a ≤ t → IsQuiet case t → ⊥
    never_quiet more t later quiet =
        let many = le-mul_of_pos_right t more in
        let far : t ≤ a + t * p = omega arith in
        let quiet_then = quiet_on t (a + t * p - t) quiet in
        some_pending (shape case a) can (ap (λ s. s.pending) (sym (repeats t)) ∙ ap (seen (a + t * p)) (subst (λ k. rest m k ≡ []) (omega arith) quiet_then))
