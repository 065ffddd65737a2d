-- A run after its workers have left a table.
use Rattle.std.proofs.Common.{◌≡◌, ℕ, suc, ◌<◌, ◌≤◌, Bool, true, List, [], ◌∷◌, length, map, refl, ap, sym, ◌∙◌, subst, arith}
use Rattle.std.specs.List.{AllByRecursion, range_with_len}
use Rattle.tw_exchange.specs.Board.{Board, workers}
use Rattle.tw_model.specs.Case.{Case}
use Rattle.tw_parallel.specs.Sim.{AreOf, GoesOn, IsSim, Sim}
use Rattle.tw_shard.specs.Roster.{has}
use Rattle.tw_shard.specs.Shard.{IsSameShare, Shard}
use Rattle.tw_sim.specs.declared.machine.Cancel.{Cancel}
use Rattle.tw_table.specs.Seats.{bound_at, share_at, stop_at}
use Rattle.tw_table.specs.Shares.{AreGoodTogether, IsRuled, Share}
use Rattle.tw_table.specs.declared.seat.Seat.{Seat}
use Rattle.tw_workers.specs.Work.{AreSameShares}

-- ---- what the workers have is the same workers' later

same_map : {A : Type 0} (f : Shard → A) → ((s t : Shard) → IsSameShare s t → f t ≡ f s) → (xs ys : List Share) → AreSameShares xs ys
    → map (λ (t : Share). f t.shard) ys ≡ map (λ (t : Share). f t.shard) xs
same_map f each [] [] h = refl
same_map f each [] (y ∷ ys) h = absurd h
same_map f each (x ∷ xs) [] h = absurd h
same_map f each (x ∷ xs) (y ∷ ys) h = λ i. each x.shard y.shard h.0 i ∷ same_map f each xs ys h.1 i

-- there are as many
pub as_long : (xs ys : List Share) → AreSameShares xs ys → length ys ≡ length xs
as_long [] [] h = refl
as_long [] (y ∷ ys) h = absurd h
as_long (x ∷ xs) [] h = absurd h
as_long (x ∷ xs) (y ∷ ys) h = ap suc (as_long xs ys h.1)

-- of one case
one_case : (c d : Case) (xs ys : List Share) → 0 < length xs → AreSameShares xs ys → AllByRecursion (λ s. s.shard.terms.case ≡ c) xs → AllByRecursion (λ s. s.shard.terms.case ≡ d) ys → d ≡ c
one_case c d [] ys some same h k = absurd (omega (arith, some))
one_case c d (x ∷ xs) [] some same h k = absurd same
one_case c d (x ∷ xs) (y ∷ ys) some same h k = sym k.0 ∙ (ap (λ x. x.case) same.0.terms ∙ h.0)

-- and retain their events as before
still_retain : (xs ys : List Share) → AreSameShares xs ys → AllByRecursion (λ (t : Share). t.shard.terms.retains ≡ true) xs → AllByRecursion (λ (t : Share). t.shard.terms.retains ≡ true) ys
still_retain [] [] same h = tt
still_retain [] (y ∷ ys) same h = absurd same
still_retain (x ∷ xs) [] same h = tt
still_retain (x ∷ xs) (y ∷ ys) same h = (ap (λ x. x.retains) same.0.terms ∙ h.0, still_retain xs ys same.1 h.1)

-- the routers that they have are of the case as before
still_known : (c : Case) (xs ys : List Share) → AreSameShares xs ys → AllByRecursion (AreOf c) xs → AllByRecursion (AreOf c) ys
still_known c [] [] same h = tt
still_known c [] (y ∷ ys) same h = absurd same
still_known c (x ∷ xs) [] same h = tt
still_known c (x ∷ xs) (y ∷ ys) same h = (λ r own. h.0 r (ap (λ rs. has rs r) (sym same.0.routers) ∙ own), still_known c xs ys same.1 h.1)

-- and retain their events and take back alike
still_alike : (retains : Bool) (cancel : Cancel) (xs ys : List Share) → AreSameShares xs ys → AllByRecursion (λ (t : Share). (t.shard.terms.retains ≡ retains) × (t.shard.terms.cancel ≡ cancel)) xs
    → AllByRecursion (λ (t : Share). (t.shard.terms.retains ≡ retains) × (t.shard.terms.cancel ≡ cancel)) ys
still_alike retains cancel [] [] same h = tt
still_alike retains cancel [] (y ∷ ys) same h = absurd same
still_alike retains cancel (x ∷ xs) [] same h = tt
still_alike retains cancel (x ∷ xs) (y ∷ ys) same h = ((ap (λ x. x.retains) same.0.terms ∙ h.0.0, ap (λ x. x.cancel) same.0.terms ∙ h.0.1), still_alike retains cancel xs ys same.1 h.1)

-- ---- so the run goes on

same_workers : (s : Sim) (y : Board) (shares : List Share) → IsSim s → AreGoodTogether y shares → AreSameShares s.shares shares → workers y ≡ workers s.board
same_workers s y shares is whole same = sym whole.ruled.count ∙ (as_long s.shares shares same ∙ is.ruled.count)

pub still_sim : (s : Sim) (y : Board) (shares : List Share) → IsSim s → AreGoodTogether y shares → AreSameShares s.shares shares → y.stop ≡ s.board.stop
    → IsSim (record { case = s.case; board = y; shares = shares })
still_sim s y shares is whole same stop =
    let long = same_workers s y shares is whole same in
    let some : 0 < length s.shares = (let n = is.some in let m = is.ruled.count in omega (arith, n, m)) in
    let case = one_case s.case whole.case s.shares shares some same is.ruled.cases whole.ruled.cases in
    record {
      some = (let n = is.some in omega (arith, n, long));
      order = same_map (λ t. t.terms.worker) (λ t u is. ap (λ x. x.worker) is.terms) s.shares shares same ∙ (is.order ∙ ap (range_with_len 0) (sym long));
      ruled = subst (λ c. IsRuled c y shares) case whole.ruled;
      known = still_known s.case s.shares shares same is.known;
      alike = record {
        retains = is.alike.retains;
        cancel = is.alike.cancel;
        each = still_alike is.alike.retains is.alike.cancel s.shares shares same is.alike.each;
      };
      stop = (let n = is.stop in omega (arith, n, stop));
    }

pub goes_on : (s : Sim) (y : Board) (shares : List Share) → IsSim s → AreGoodTogether y shares → AreSameShares s.shares shares → s.board.bound ≤ y.bound
    → GoesOn s (record { case = s.case; board = y; shares = shares })
goes_on s y shares is whole same bound = record {
  case = refl;
  workers = same_workers s y shares is whole same;
  retains = still_retain s.shares shares same;
  cancels = same_map (λ (t : Shard). t.terms.cancel) (λ t u is. ap (λ x. x.cancel) is.terms) s.shares shares same;
  bound = bound;
}

pub goes_on_both : (s t u : Sim) → GoesOn s t → GoesOn t u → GoesOn s u
goes_on_both s t u one two = record {
  case = two.case ∙ one.case;
  workers = two.workers ∙ one.workers;
  retains = λ all. two.retains (one.retains all);
  cancels = two.cancels ∙ one.cancels;
  bound = (let a = one.bound in let b = two.bound in omega (arith, a, b));
}

pub same_numbers : {A B : Type 0} (f : A → ℕ) (g : B → ℕ) (n : ℕ) (xs : List A) (ys : List B) → length xs ≡ length ys → AllByRecursion (λ x. f x ≡ n) xs
    → AllByRecursion (λ y. g y ≡ n) ys → map f xs ≡ map g ys
same_numbers f g n [] [] e h k = refl
same_numbers f g n [] (y ∷ ys) e h k = absurd (omega (arith, e))
same_numbers f g n (x ∷ xs) [] e h k = absurd (omega (arith, e))
same_numbers f g n (x ∷ xs) (y ∷ ys) e h k = λ i. (h.0 ∙ sym k.0) i ∷ same_numbers f g n xs ys (omega (arith, e)) h.1 k.1 i

-- what all seats of a run know of its stop before and after is one number
pub same_stop : (s : Sim) (stop : ℕ) (seats : List Seat) → IsSim s → map share_at seats ≡ s.shares → AllByRecursion (λ u. stop_at u ≡ s.board.stop) seats
    → AllByRecursion (λ u. stop_at u ≡ stop) seats → stop ≡ s.board.stop
same_stop s stop [] is own h k = absurd (let none = ap length own in let some = is.some in let all = is.ruled.count in omega (arith, none, some, all))
same_stop s stop (u ∷ seats) is own h k = sym k.0 ∙ h.0

-- and the bound is not below the one that they knew
pub not_below : (s : Sim) (bound : ℕ) (seats : List Seat) → IsSim s → map share_at seats ≡ s.shares → AllByRecursion (λ u. bound_at u ≡ s.board.bound) seats
    → AllByRecursion (λ u. bound_at u ≤ bound) seats → s.board.bound ≤ bound
not_below s bound [] is own h k = absurd (let none = ap length own in let some = is.some in let all = is.ruled.count in omega (arith, none, some, all))
not_below s bound (u ∷ seats) is own h k = (let e : bound_at u ≡ s.board.bound = h.0 in let l : bound_at u ≤ bound = k.0 in omega (arith, e, l))
