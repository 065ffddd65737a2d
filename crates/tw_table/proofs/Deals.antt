-- A pass that is cut into seats, one by one.
use Rattle.std.proofs.Common.{◌≡◌, ℕ, zero, suc, ◌+◌, ◌<◌, ◌≤◌, Bool, false, List, [], ◌∷◌, ◌++◌, Option, drop, get_or, length, map, take, refl, ap, sym, ◌∙◌, subst, arith}
use Rattle.crossbeam_queue.specs.Passes.{Pass, view}
use Rattle.std.specs.List.{AllByRecursion}
use Rattle.tw_core.proofs.Sums.{all_map}
use Rattle.tw_exchange.specs.Board.{Board, workers}
use Rattle.tw_table.proofs.Joins.{only_share}
use Rattle.tw_table.proofs.Lists.{all_append}
use Rattle.tw_table.proofs.Seats.{worker_of}
use Rattle.tw_table.specs.declared.rule.View.{View}
use Rattle.tw_table.specs.declared.seat.Seat.{Seat}
use Rattle.tw_table.specs.Seats.{bound_at, halted_at, share_at, stop_at}
use Rattle.tw_shard.specs.Shard.{Shard}
use Rattle.tw_table.specs.declared.hand.Hand.{Hand}
use Rattle.tw_table.specs.Shares.{Share, shares_of}
use Rattle.tw_table.specs.Views.{opened}

module _ {X : Type 0} where
  drop_none : (xs : List X) → drop 0 xs ≡ xs
  drop_none [] = refl
  drop_none (x ∷ xs) = refl

  drop_suc : (k : ℕ) (xs : List X) → drop (suc k) xs ≡ drop 1 (drop k xs)
  drop_suc zero xs = ap (drop 1) (sym (drop_none xs))
  drop_suc (suc k) [] = refl
  drop_suc (suc k) (x ∷ xs) = drop_suc k xs

  take_suc : (k : ℕ) (xs : List X) → take (suc k) xs ≡ take k xs ++ take 1 (drop k xs)
  take_suc zero [] = refl
  take_suc zero (x ∷ xs) = refl
  take_suc (suc k) [] = refl
  take_suc (suc k) (x ∷ xs) = ap (λ l. x ∷ l) (take_suc k xs)

  -- one more is dropped, and one more taken
  drop_more : (k : ℕ) (xs : List X) → drop (k + 1) xs ≡ drop 1 (drop k xs)
  drop_more k xs = let e : k + 1 ≡ suc k = omega arith in ap (λ n. drop n xs) e ∙ drop_suc k xs

  take_more : (k : ℕ) (xs : List X) → take (k + 1) xs ≡ take k xs ++ take 1 (drop k xs)
  take_more k xs = let e : k + 1 ≡ suc k = omega arith in ap (λ n. take n xs) e ∙ take_suc k xs

  pub take_none : (xs : List X) → take 0 xs ≡ []
  take_none [] = refl
  take_none (x ∷ xs) = refl

  take_all : (k : ℕ) (xs : List X) → length xs ≤ k → take k xs ≡ xs
  take_all zero [] h = refl
  take_all zero (x ∷ xs) h = absurd (omega arith)
  take_all (suc k) [] h = refl
  take_all (suc k) (x ∷ xs) h = ap (λ l. x ∷ l) (take_all k xs (omega arith))

  pub long_take : (n : ℕ) (xs : List X) → n ≤ length xs → length (take n xs) ≡ n
  long_take zero xs h = ap length (take_none xs)
  long_take (suc n) [] h = absurd (omega arith)
  long_take (suc n) (x ∷ xs) h = ap suc (long_take n xs (omega arith))

pub long_map : {X Y : Type 0} (f : X → Y) (xs : List X) → length (map f xs) ≡ length xs
long_map f [] = refl
long_map f (x ∷ xs) = let s = long_map f xs in omega arith

-- a shard with a hand is in the share at its place
worker_at : (shards : List Shard) (hands : List Hand) (n k : ℕ) (s : Shard) → n ≤ length (shares_of shards hands) → k < length (take n shards) → s ≡ get_or (take n shards) k s
    → map worker_of (take 1 (drop k (shares_of shards hands))) ≡ s.terms.worker ∷ []
worker_at shards hands zero k s most h there = absurd (let none = ap length (take_none shards) in omega arith)
worker_at [] hands (suc n) k s most h there = absurd (omega arith)
worker_at (u ∷ shards) [] (suc n) k s most h there = absurd (omega arith)
worker_at (u ∷ shards) (g ∷ hands) (suc n) zero s most h there = ap (λ (v : Shard). v.terms.worker ∷ []) (sym there)
worker_at (u ∷ shards) (g ∷ hands) (suc n) (suc k) s most h there = worker_at shards hands n k s (omega arith) (omega arith) there

-- there are no more shares than shards
pub enough : (shards : List Shard) (hands : List Hand) → length (shares_of shards hands) ≤ length shards
enough [] hands = omega arith
enough (s ∷ shards) [] = omega arith
enough (s ∷ shards) (h ∷ hands) = let more = enough shards hands in omega arith

-- a new seat
pub record IsNew (Of : Pass Board View → Type 0) (n bound stop : ℕ) (owners : Option (List ℕ)) (halted : Bool) (s : Seat) : Type 0 where
  pub pass : Of s.pass
  pub workers : (view s.pass).workers ≡ n
  pub bound_is : s.bound ≡ bound
  pub stop_is : (view s.pass).stop ≡ stop
  pub owners_are : (view s.pass).owners ≡ owners
  pub halted_is : s.halted ≡ halted

-- the first k of all shares have seats, and a pass stands for the others
pub record IsDealt (Of : Pass Board View → Type 0) (n bound stop : ℕ) (owners : Option (List ℕ)) (halted : Bool) (all : List Share) (k : ℕ) (p : Pass Board View) (seats : List Seat) : Type 0 where
  pub pass : Of p
  pub begun : (view p).opening ≡ false
  pub empty : (view p).held ≡ []
  pub seen : (view p).seen ≡ bound
  pub workers : (view p).workers ≡ n
  pub stop_is : (view p).stop ≡ stop
  pub owners_are : (view p).owners ≡ owners
  pub halted_is : (view p).halted ≡ halted
  pub left : (view p).shares ≡ drop k all
  pub dealt : map share_at seats ≡ take k all
  pub each : AllByRecursion (IsNew Of n bound stop owners halted) seats

pub next_worker : (Of : Pass Board View → Type 0) (n bound stop : ℕ) (owners : Option (List ℕ)) (halted : Bool) (shards : List Shard) (hands : List Hand) (k : ℕ) (p : Pass Board View) (seats : List Seat) (s : Shard)
    → IsDealt Of n bound stop owners halted (shares_of shards hands) k p seats → length (shares_of shards hands) ≡ n → k < length (take n shards) → s ≡ get_or (take n shards) k s
    → map worker_of (take 1 (view p).shares) ≡ s.terms.worker ∷ []
next_worker Of n bound stop owners halted shards hands k p seats s is many h there = ap (λ l. map worker_of (take 1 l)) is.left ∙ worker_at shards hands n k s (omega arith) h there

map_append : {X Y : Type 0} (f : X → Y) (xs ys : List X) → map f (xs ++ ys) ≡ map f xs ++ map f ys
map_append f [] ys = refl
map_append f (x ∷ xs) ys = ap (λ l. f x ∷ l) (map_append f xs ys)

pub deals_next : (Of : Pass Board View → Type 0) (n bound stop : ℕ) (owners : Option (List ℕ)) (halted : Bool) (all : List Share) (k : ℕ) (p q : Pass Board View) (seats : List Seat) (s : Seat) → IsDealt Of n bound stop owners halted all k p seats
    → Of q → Of s.pass → view q ≡ record (view p) { shares = drop 1 (view p).shares } → view s.pass ≡ record (view p) { shares = take 1 (view p).shares; held = [] } → s.bound ≡ bound → s.halted ≡ halted
    → IsDealt Of n bound stop owners halted all (k + 1) q (seats ++ s ∷ [])
deals_next Of n bound stop owners halted all k p q seats s is of_q of_s others first same told = record {
  pass = of_q;
  begun = ap (λ (v : View). v.opening) others ∙ is.begun;
  empty = ap (λ (v : View). v.held) others ∙ is.empty;
  seen = ap (λ (v : View). v.seen) others ∙ is.seen;
  workers = ap (λ (v : View). v.workers) others ∙ is.workers;
  stop_is = ap (λ (v : View). v.stop) others ∙ is.stop_is;
  owners_are = ap (λ (v : View). v.owners) others ∙ is.owners_are;
  halted_is = ap (λ (v : View). v.halted) others ∙ is.halted_is;
  left = ap (λ (v : View). v.shares) others ∙ (ap (drop 1) is.left ∙ sym (drop_more k all));
  dealt = map_append share_at seats (s ∷ [])
      ∙ (ap (λ l. l ++ share_at s ∷ []) is.dealt
      ∙ (ap (λ l. take k all ++ l) (sym (only_share s) ∙ (ap (λ (v : View). v.shares) first ∙ ap (take 1) is.left)) ∙ sym (take_more k all)));
  each = all_append (IsNew Of n bound stop owners halted) seats (s ∷ []) is.each
      (record { pass = of_s; workers = ap (λ (v : View). v.workers) first ∙ is.workers; bound_is = same; stop_is = ap (λ (v : View). v.stop) first ∙ is.stop_is; owners_are = ap (λ (v : View). v.owners) first ∙ is.owners_are; halted_is = told }, tt);
}

-- once all shards are gone over, all shares have seats
pub all_dealt : (Of : Pass Board View → Type 0) (n bound stop : ℕ) (owners : Option (List ℕ)) (halted : Bool) (shards : List Shard) (hands : List Hand) (k : ℕ) (p : Pass Board View) (seats : List Seat)
    → IsDealt Of n bound stop owners halted (shares_of shards hands) k p seats → length (shares_of shards hands) ≡ n → length (take n shards) ≤ k → map share_at seats ≡ shares_of shards hands
all_dealt Of n bound stop owners halted shards hands k p seats is many h =
    let most = enough shards hands in
    let long = long_take n shards (omega arith) in
    is.dealt ∙ take_all k (shares_of shards hands) (omega arith)

-- and each of them is a new one
pub new_bounds : (Of : Pass Board View → Type 0) (n bound stop : ℕ) (owners : Option (List ℕ)) (halted : Bool) (seats : List Seat) → AllByRecursion (IsNew Of n bound stop owners halted) seats → AllByRecursion (λ s. bound_at s ≡ bound) seats
new_bounds Of n bound stop owners halted seats new = all_map (IsNew Of n bound stop owners halted) (λ s. bound_at s ≡ bound) (λ s is. is.bound_is) seats new

pub new_stops : (Of : Pass Board View → Type 0) (n bound stop : ℕ) (owners : Option (List ℕ)) (halted : Bool) (seats : List Seat) → AllByRecursion (IsNew Of n bound stop owners halted) seats → AllByRecursion (λ s. stop_at s ≡ stop) seats
new_stops Of n bound stop owners halted seats new = all_map (IsNew Of n bound stop owners halted) (λ s. stop_at s ≡ stop) (λ s is. is.stop_is) seats new

pub new_halted : (Of : Pass Board View → Type 0) (n bound stop : ℕ) (owners : Option (List ℕ)) (halted : Bool) (seats : List Seat) → AllByRecursion (IsNew Of n bound stop owners halted) seats
    → AllByRecursion (λ s. halted_at s ≡ halted) seats
new_halted Of n bound stop owners halted seats new = all_map (IsNew Of n bound stop owners halted) (λ s. halted_at s ≡ halted) (λ s is. is.halted_is) seats new

pub deals_none : (Of : Pass Board View → Type 0) (x : Board) (all : List Share) (p : Pass Board View) (seats : List Seat) → seats ≡ [] → Of p → view p ≡ opened all x
    → IsDealt Of (workers x) x.bound x.stop x.owners x.halted all 0 p seats
deals_none Of x all p seats none of_p told = record {
  pass = of_p;
  begun = ap (λ (v : View). v.opening) told;
  empty = ap (λ (v : View). v.held) told;
  seen = ap (λ (v : View). v.seen) told;
  workers = ap (λ (v : View). v.workers) told;
  stop_is = ap (λ (v : View). v.stop) told;
  owners_are = ap (λ (v : View). v.owners) told;
  halted_is = ap (λ (v : View). v.halted) told;
  left = ap (λ (v : View). v.shares) told ∙ sym (drop_none all);
  dealt = ap (map share_at) none ∙ sym (take_none all);
  each = subst (AllByRecursion (IsNew Of (workers x) x.bound x.stop x.owners x.halted)) (sym none) tt;
}
