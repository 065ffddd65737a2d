-- Workers that are joined one after the other.
use Rattle.std.proofs.Common.{◌≡◌, ◌⊎◌, inl, inr, ℕ, suc, zero, Bool, true, false, List, [], ◌∷◌, ◌++◌, Option, Some, None, length, map, refl, ap, sym, ◌∙◌, subst, append_assoc, arith, slice_get}
use Rattle.std.proofs.lemmas.List.{append-nil, map-append}
use Rattle.std.proofs.lemmas.Option.{none-some, same_Some}
use Rattle.std.specs.List.{AllByRecursion, AllZip}
use Rattle.tw_table.specs.Seats.{IsSeatOf, halted_at, share_at}
use Rattle.tw_table.specs.Shares.{Share}
use Rattle.tw_table.specs.declared.seat.Seat.{Seat}
use Rattle.tw_table.specs.declared.table.Table.{Table}
use Rattle.tw_threads.specs.Left.{IsLaterSeat, IsLeft}
use Rattle.tw_threads.specs.Started.{HaveLeft, IsSomeFull, IsSomeHalted, IsStarted, MaySit}
use Rattle.tw_threads.specs.declared.end_cause.EndCause.{EndCause}
use Rattle.tw_threads.specs.declared.end_cause.EndCause.TheVariants as cause
use Rattle.tw_threads.specs.declared.start.Started.{Started}
use Rattle.tw_threads.specs.declared.start.Started.TheVariants.{Aside, Here, Running}
use Rattle.tw_workers.proofs.Places.{same_again}
use Rattle.tw_workers.specs.declared.working.Leaving.{Leaving}
use Rattle.tw_workers.specs.declared.working.Leaving.TheVariants as leaving

-- one that left a seat had left the one before
pub left_again : (s : Share) (t : Table) (before seat after : Seat) (why : Leaving) → IsLaterSeat t before seat → IsLeft s t seat after why → IsLeft s t before after why
left_again s t before seat after why first then = record {
  left = record {
    seat = then.left.seat;
    stop = then.left.stop ∙ first.stop;
    bound = omega (arith, first.bound, then.left.bound);
    same = same_again (share_at before).shard (share_at seat).shard (share_at after).shard first.same then.left.same;
  };
  share = then.share;
  halts = then.halts;
  full = then.full;
}

module _ {X : Type 0} where
  -- an element is where it was
  pub get_left : (xs ys : List X) (i : ℕ) (x : X) → slice_get xs i ≡ Some x → slice_get (xs ++ ys) i ≡ Some x
  get_left [] ys i x e = absurd (none-some _ e)
  get_left (y ∷ xs) ys zero x e = e
  get_left (y ∷ xs) ys (suc i) x e = get_left xs ys i x e

  -- and one more is at the end
  pub get_last : (xs : List X) (x : X) → slice_get (xs ++ x ∷ []) (length xs) ≡ Some x
  get_last [] x = refl
  get_last (y ∷ xs) x = get_last xs x

other_cause : cause.Memory ≡ cause.CounterFull → ⊥
other_cause e = grind (arith, e)

one_cause : cause.Memory ≡ cause.NoThread → ⊥
one_cause e = grind (arith, e)

no_memory : cause.Memory ≡ cause.StopLower → ⊥
no_memory e = grind (arith, e)

halted_only : leaving.Halted ≡ leaving.Settled → ⊥
halted_only e = grind (arith, e)

module _ {W : Type 0} (share : W → Share) (stop : W → ℕ) where
  -- these workers are still to be joined, and those before them have left
  pub record AreJoined (t : Table) (before : List Seat) (rest : List (Started W)) (workers : List W) (seats : List Seat) (why : Option EndCause) : Type 0 where
    pub waiting : List Seat
    pub each : AllZip (IsStarted share stop t) waiting rest
    pub left : (more : List Seat) → AllZip (IsLaterSeat t) waiting more → AllZip (IsLaterSeat t) before (seats ++ more)
    pub shares : map share_at seats ≡ map share workers
    pub full : why ≡ Some cause.CounterFull → IsSomeFull seats
    pub thread : why ≡ Some cause.NoThread → IsSomeHalted seats
    pub lower : why ≡ Some cause.StopLower → ⊥

  may_sit : (t : Table) (s : Seat) (one : Started W) → IsStarted share stop t s one → MaySit share stop t one
  may_sit t s (Running h) is = tt
  may_sit t s (Here l) is = tt
  may_sit t s (Aside worker seat) is = is.1

  -- all that were started and wait have their seats
  pub all_may_sit : (t : Table) (before : List Seat) (started : List (Started W)) → AllZip (IsStarted share stop t) before started → AllByRecursion (MaySit share stop t) started
  all_may_sit t [] [] h = tt
  all_may_sit t [] (one ∷ rest) h = absurd h
  all_may_sit t (s ∷ before) [] h = absurd h
  all_may_sit t (s ∷ before) (one ∷ rest) h = (may_sit t s one h.0, all_may_sit t before rest h.1)

  pub none_joined : (t : Table) (before : List Seat) (rest : List (Started W)) → AllZip (IsStarted share stop t) before rest → AreJoined t before rest [] [] None
  none_joined t before rest each = record {
    waiting = before;
    each = each;
    left = λ more h. h;
    shares = refl;
    full = λ e. absurd (none-some _ e);
    thread = λ e. absurd (none-some _ e);
    lower = λ e. absurd (none-some _ e);
  }

  -- one that was full before is so after
  more_full : (seats more : List Seat) → IsSomeFull seats → IsSomeFull (seats ++ more)
  more_full seats more h = record { at = h.at; seat = h.seat; there = get_left seats more h.at h.seat h.there; full = h.full }

  next_full : (t : Table) (before : Seat) (seats : List Seat) (s : Share) (seat : Seat) (reason : Leaving) (why later : Option EndCause) → IsLeft s t before seat reason
      → (later ≡ Some cause.CounterFull → (why ≡ Some cause.CounterFull) ⊎ (reason ≡ leaving.CounterFull))
      → (why ≡ Some cause.CounterFull → IsSomeFull seats) → later ≡ Some cause.CounterFull → IsSomeFull (seats ++ seat ∷ [])
  next_full t before seats s seat reason why later is told full now =
      elim (told now) [
        | inl e ↦ more_full seats (seat ∷ []) (full e)
        | inr e ↦ record { at = length seats; seat = seat; there = get_last seats seat; full = is.full e }
      ]

  -- and so with one that was halted
  more_halted : (seats more : List Seat) → IsSomeHalted seats → IsSomeHalted (seats ++ more)
  more_halted seats more h = record { at = h.at; seat = h.seat; there = get_left seats more h.at h.seat h.there; halted = h.halted }

  next_halted : (t : Table) (before : Seat) (seats : List Seat) (s : Share) (seat : Seat) (reason : Leaving) (why later : Option EndCause) → IsLeft s t before seat reason
      → (later ≡ Some cause.NoThread → (why ≡ Some cause.NoThread) ⊎ (reason ≡ leaving.Halted))
      → (why ≡ Some cause.NoThread → IsSomeHalted seats) → later ≡ Some cause.NoThread → IsSomeHalted (seats ++ seat ∷ [])
  next_halted t before seats s seat reason why later is told halted now =
      elim (told now) [
        | inl e ↦ more_halted seats (seat ∷ []) (halted e)
        | inr e ↦ record { at = length seats; seat = seat; there = get_last seats seat; halted = is.halts (λ settled. halted_only (sym e ∙ settled)) }
      ]

  next_joined : (t : Table) (before waiting : List Seat) (one : Started W) (rest : List (Started W)) (workers : List W) (seats : List Seat) (why : Option EndCause)
      (w : W) (seat : Seat) (reason : Leaving) (later : Option EndCause)
      → AllZip (IsStarted share stop t) waiting (one ∷ rest)
      → ((more : List Seat) → AllZip (IsLaterSeat t) waiting more → AllZip (IsLaterSeat t) before (seats ++ more))
      → map share_at seats ≡ map share workers
      → (why ≡ Some cause.CounterFull → IsSomeFull seats)
      → (why ≡ Some cause.NoThread → IsSomeHalted seats)
      → (why ≡ Some cause.StopLower → ⊥)
      → ((s : Seat) → IsStarted share stop t s one → IsLeft (share w) t s seat reason)
      → (later ≡ Some cause.CounterFull → (why ≡ Some cause.CounterFull) ⊎ (reason ≡ leaving.CounterFull))
      → (later ≡ Some cause.NoThread → (why ≡ Some cause.NoThread) ⊎ (reason ≡ leaving.Halted))
      → (later ≡ Some cause.StopLower → why ≡ Some cause.StopLower)
      → AreJoined t before rest (workers ++ w ∷ []) (seats ++ seat ∷ []) later
  next_joined t before [] one rest workers seats why w seat reason later each left shares full thread lower is told refused none = absurd each
  next_joined t before (s ∷ waiting) one rest workers seats why w seat reason later each left shares full thread lower is told refused none =
      let mine : IsLeft (share w) t s seat reason = is s each.0 in
      record {
        waiting = waiting;
        each = each.1;
        left = λ more h. subst (AllZip (IsLaterSeat t) before) (sym (append_assoc seats (seat ∷ []) more)) (left (seat ∷ more) (mine.left, h));
        shares = map-append share_at seats (seat ∷ []) ∙ ((λ i. shares i ++ mine.share i ∷ []) ∙ sym (map-append share workers (w ∷ [])));
        full = next_full t s seats (share w) seat reason why later mine told full;
        thread = next_halted t s seats (share w) seat reason why later mine refused thread;
        lower = λ e. lower (none e);
      }

  pub one_joined : (t : Table) (before : List Seat) (one : Started W) (rest : List (Started W)) (workers next : List W) (seats after : List Seat) (why : Option EndCause)
      (w : W) (seat : Seat) (reason : Leaving) (later : Option EndCause)
      → AreJoined t before (one ∷ rest) workers seats why
      → next ≡ workers ++ w ∷ [] → after ≡ seats ++ seat ∷ []
      → ((s : Seat) → IsStarted share stop t s one → IsLeft (share w) t s seat reason)
      → (later ≡ Some cause.CounterFull → (why ≡ Some cause.CounterFull) ⊎ (reason ≡ leaving.CounterFull))
      → (later ≡ Some cause.NoThread → (why ≡ Some cause.NoThread) ⊎ (reason ≡ leaving.Halted))
      → (later ≡ Some cause.StopLower → why ≡ Some cause.StopLower)
      → AreJoined t before rest next after later
  one_joined t before one rest workers next seats after why w seat reason later h to too is told refused none =
      subst (λ ws. AreJoined t before rest ws after later) (sym to)
      (subst (λ ss. AreJoined t before rest (workers ++ w ∷ []) ss later) (sym too)
      (next_joined t before h.waiting one rest workers seats why w seat reason later h.each h.left h.shares h.full h.thread h.lower is told refused none))

  all_waited : (t : Table) (before waiting seats : List Seat) → AllZip (IsStarted share stop t) waiting []
      → ((more : List Seat) → AllZip (IsLaterSeat t) waiting more → AllZip (IsLaterSeat t) before (seats ++ more)) → AllZip (IsLaterSeat t) before seats
  all_waited t before [] seats each left = subst (AllZip (IsLaterSeat t) before) (append-nil seats) (left [] tt)
  all_waited t before (s ∷ waiting) seats each left = absurd each

  pub all_joined : (t : Table) (before : List Seat) (workers : List W) (seats : List Seat) (why : Option EndCause) → AreJoined t before [] workers seats why
      → HaveLeft share t before seats workers why
  all_joined t before workers seats why h = record { left = all_waited t before h.waiting seats h.each h.left; shares = h.shares; full = h.full; thread = h.thread; lower = h.lower }

module _ {W : Type 0} (share : W → Share) where
  stay : (t : Table) (seats : List Seat) → AllByRecursion (IsSeatOf t) seats → AllZip (IsLaterSeat t) seats seats
  stay t [] h = tt
  stay t (s ∷ seats) h = (record { seat = h.0; stop = refl; bound = omega arith; same = record { terms = refl; routers = refl } }, stay t seats h.1)

  -- workers that took no turn have left as they were
  pub have_stayed : (t : Table) (before after : List Seat) (were are : List W) (why : Option EndCause) → after ≡ before → are ≡ were → why ≡ Some cause.Memory
      → AllByRecursion (IsSeatOf t) before → map share_at before ≡ map share were → HaveLeft share t before after are why
  have_stayed t before after were are why seats workers is mine shares = record {
    left = subst (AllZip (IsLaterSeat t) before) (sym seats) (stay t before mine);
    shares = ap (map share_at) seats ∙ (shares ∙ ap (map share) (sym workers));
    full = λ e. absurd (other_cause (same_Some _ _ (sym is ∙ e)));
    thread = λ e. absurd (one_cause (same_Some _ _ (sym is ∙ e)));
    lower = λ e. no_memory (same_Some _ _ (sym is ∙ e));
  }
