-- What is so once all workers have left.
use Rattle.std.proofs.Common.{◌≡◌, ℕ, suc, zero, ◌≤◌, Bool, true, List, [], ◌∷◌, Some, length, map, refl, ap, sym, ◌∙◌, subst, arith, slice_get}
use Rattle.std.proofs.lemmas.Option.{none-some, same_Some, slice_get-map}
use Rattle.std.specs.List.{AllByRecursion, AllZip}
use Rattle.std.specs.Option.{option_map}
use Rattle.tw_shard.specs.Shard.{IsSameShare}
use Rattle.tw_table.specs.Seats.{IsSeatOf, bound_at, halted_at, share_at, stop_at, workers_at}
use Rattle.tw_table.specs.Shares.{Share}
use Rattle.tw_table.specs.declared.seat.Seat.{Seat}
use Rattle.tw_table.specs.declared.table.Table.{Table}
use Rattle.tw_threads.specs.Left.{IsFullAhead, IsLaterSeat}
use Rattle.tw_threads.specs.Started.{IsSomeFull, IsSomeHalted}
use Rattle.tw_workers.specs.Seated.{HasTurned, IsSeated}
use Rattle.tw_workers.specs.Work.{AreSameShares, IsFull, Worker}

all_get : {X : Type 0} (P : X → Type 0) (xs : List X) (i : ℕ) (x : X) → AllByRecursion P xs → slice_get xs i ≡ Some x → P x
all_get P [] i x h e = absurd (none-some x e)
all_get P (y ∷ xs) zero x h e = subst P (same_Some y x e) h.0
all_get P (y ∷ xs) (suc i) x h e = all_get P xs i x h.1 e

pub seats_after : (t : Table) (before after : List Seat) → AllZip (IsLaterSeat t) before after → AllByRecursion (IsSeatOf t) after
seats_after t [] [] h = tt
seats_after t [] (u ∷ after) h = absurd h
seats_after t (s ∷ before) [] h = absurd h
seats_after t (s ∷ before) (u ∷ after) h = (h.0.seat, seats_after t before after h.1)

pub as_many : (t : Table) (before after : List Seat) → AllZip (IsLaterSeat t) before after → length after ≡ length before
as_many t [] [] h = refl
as_many t [] (u ∷ after) h = absurd h
as_many t (s ∷ before) [] h = absurd h
as_many t (s ∷ before) (u ∷ after) h = ap suc (as_many t before after h.1)

-- a worker that has turned has left so
pub left_turned : (t : Table) (before after : Seat) (v w : Worker) → IsSeated t before v.share v.stop → HasTurned t before after v w → IsLaterSeat t before after
left_turned t before after v w seated turned = record {
  seat = turned.seated.seat;
  stop = turned.seated.stop ∙ (turned.same.stop ∙ sym seated.stop);
  bound = turned.bound;
  same = subst (λ (s : Share). IsSameShare s.shard (share_at after).shard) (sym seated.share)
      (subst (λ (s : Share). IsSameShare v.share.shard s.shard) (sym turned.seated.share) turned.same.shard);
}

same_after : (t : Table) (before after : List Seat) → AllZip (IsLaterSeat t) before after → AreSameShares (map share_at before) (map share_at after)
same_after t [] [] h = tt
same_after t [] (u ∷ after) h = absurd h
same_after t (s ∷ before) [] h = absurd h
same_after t (s ∷ before) (u ∷ after) h = (h.0.same, same_after t before after h.1)

-- so what the workers have is the same workers' later
pub all_same : {W : Type 0} (share : W → Share) (t : Table) (before after : List Seat) (were are : List W) → AllZip (IsLaterSeat t) before after
    → map share_at before ≡ map share were → map share_at after ≡ map share are → AreSameShares (map share were) (map share are)
all_same share t before after were are left old now =
    subst (λ ss. AreSameShares ss (map share are)) old (subst (AreSameShares (map share_at before)) now (same_after t before after left))

-- what holds of seats after, and so of those before
all_before : (t : Table) (P Q : Seat → Type 0) → ((s u : Seat) → IsLaterSeat t s u → Q u → P s) → (before after : List Seat) → AllZip (IsLaterSeat t) before after
    → AllByRecursion Q after → AllByRecursion P before
all_before t P Q f [] [] h q = tt
all_before t P Q f [] (u ∷ after) h q = absurd h
all_before t P Q f (s ∷ before) [] h q = absurd h
all_before t P Q f (s ∷ before) (u ∷ after) h q = (f s u h.0 q.0, all_before t P Q f before after h.1 q.1)

pub stops_before : (t : Table) (stop : ℕ) (before after : List Seat) → AllZip (IsLaterSeat t) before after → AllByRecursion (λ s. stop_at s ≡ stop) after
    → AllByRecursion (λ s. stop_at s ≡ stop) before
stops_before t stop before after left h = all_before t (λ s. stop_at s ≡ stop) (λ s. stop_at s ≡ stop) (λ s u is e. sym is.stop ∙ e) before after left h

pub bounds_before : (t : Table) (bound : ℕ) (before after : List Seat) → AllZip (IsLaterSeat t) before after → AllByRecursion (λ s. bound_at s ≤ bound) after
    → AllByRecursion (λ s. bound_at s ≤ bound) before
bounds_before t bound before after left h = all_before t (λ s. bound_at s ≤ bound) (λ s. bound_at s ≤ bound) (λ s u is e. omega (arith, is.bound, e)) before after left h

-- a full counter of a worker, told of the workers' shares
pub full_after : {W : Type 0} (share : W → Share) (stop : ℕ) (after : List Seat) (are : List W) → map share_at after ≡ map share are → AllByRecursion (λ s. stop_at s ≡ stop) after
    → IsSomeFull after → IsFullAhead stop (map share are)
full_after share stop after are now stops h =
    let same : stop_at h.seat ≡ stop = all_get (λ s. stop_at s ≡ stop) after h.at h.seat stops h.there in
    subst (IsFullAhead stop) now record {
      at = h.at;
      share = share_at h.seat;
      there = slice_get-map share_at after h.at ∙ ap (option_map share_at) h.there;
      full = subst (λ n. IsFull n (share_at h.seat).shard) same h.full;
    }

-- where some seat was left halted, so is the exchange
pub halted_after : (halted : Bool) (seats : List Seat) → AllByRecursion (λ s. halted_at s ≡ true → halted ≡ true) seats → IsSomeHalted seats → halted ≡ true
halted_after halted seats all h = all_get (λ s. halted_at s ≡ true → halted ≡ true) seats h.at h.seat all h.there h.halted

-- as many have left as the table has workers
pub all_left : (t : Table) (before after : List Seat) (n : ℕ) → AllZip (IsLaterSeat t) before after → length before ≡ n → n ≡ workers_at t → length after ≡ workers_at t
all_left t before after n left long all = as_many t before after left ∙ (long ∙ all)
