-- Seats that become one.
use Rattle.std.proofs.Common.{◌≡◌, ℕ, ◌+◌, ◌<◌, ◌≤◌, ◌||◌, Bool, false, true, List, [], ◌∷◌, ◌++◌, length, map, max, refl, ap, sym, ◌∙◌, subst, append_assoc, arith}
use Rattle.crossbeam_queue.specs.Passes.{IsPassOf, IsSamePass, Pass, view}
use Rattle.std.proofs.lemmas.List.{length-append, nil_from_length}
use Rattle.std.specs.List.{AllByRecursion}
use Rattle.tw_exchange.specs.Board.{Board}
use Rattle.tw_table.proofs.Rules.{whole_of}
use Rattle.tw_table.proofs.Seats.{one_alone, worker_of}
use Rattle.tw_table.proofs.Views.{nil_right}
use Rattle.tw_table.specs.declared.rule.View.{View}
use Rattle.tw_table.specs.declared.seat.Seat.{Seat}
use Rattle.tw_table.specs.declared.table.Table.{Table}
use Rattle.tw_table.specs.Seats.{IsSeatOf, bound_at, halted_at, share_at, stop_at}
use Rattle.tw_table.specs.Shares.{AreGoodTogether, IsRuled, Share, no_share}
use Rattle.tw_table.specs.Views.{IsMet, Knows, joined}

or_true : (b : Bool) → (b || true) ≡ true
or_true true = refl
or_true false = refl

-- the share of a seat is its only one
pub only_share : (s : Seat) → (view s.pass).shares ≡ share_at s ∷ []
only_share s = one_alone worker_of no_share s.worker (view s.pass).shares s.waits.share

-- a pass stands for the seats that it has taken in, and so many are left
pub record IsJoined (t : Table) (all : List Seat) (p : Pass Board View) (left : List Seat) (n : ℕ) : Type 0 where
  pub queue : IsPassOf t.queue p
  pub workers : (view p).workers ≡ t.workers
  pub stop : (view p).stop ≡ t.stop
  pub begun : (view p).opening ≡ false
  pub empty : (view p).held ≡ []
  pub some : 0 < length (view p).shares
  pub shares : (view p).shares ++ map share_at left ≡ map share_at all
  pub seats : AllByRecursion (IsSeatOf t) left
  pub len : length left ≡ n
  -- it knows whether one of them has left the mark that halts the workers
  pub halted : (b : Bool) → ((view p).halted ≡ true → b ≡ true) → AllByRecursion (λ s. halted_at s ≡ true → b ≡ true) left → AllByRecursion (λ s. halted_at s ≡ true → b ≡ true) all
  -- and it has seen the greatest bound that those have seen
  pub seen : (b : ℕ) → (view p).seen ≤ b → AllByRecursion (λ s. bound_at s ≤ b) left → AllByRecursion (λ s. bound_at s ≤ b) all

pub joins_first : (t : Table) (all : List Seat) (s : Seat) (left : List Seat) (n : ℕ) → all ≡ s ∷ left → length all ≡ n + 1 → AllByRecursion (IsSeatOf t) all
    → IsJoined t all s.pass left n
joins_first t all s left n is long seats =
    let each : AllByRecursion (IsSeatOf t) (s ∷ left) = subst (AllByRecursion (IsSeatOf t)) is seats in
    record {
      queue = each.0.pass;
      workers = each.0.workers;
      stop = each.0.stop;
      begun = s.waits.begun;
      empty = s.waits.empty;
      some = (let l = ap length (only_share s) in omega arith);
      shares = ap (λ ss. ss ++ map share_at left) (only_share s) ∙ ap (map share_at) (sym is);
      seats = each.1;
      len = (let l = ap length is in omega arith);
      halted = λ b h others. subst (AllByRecursion (λ u. halted_at u ≡ true → b ≡ true)) (sym is) ((λ told. h (s.waits.left ∙ told)), others);
      seen = λ b h others. subst (AllByRecursion (λ u. bound_at u ≤ b)) (sym is) ((let same = s.waits.seen in omega arith), others);
    }

pub joins_next : (t : Table) (all : List Seat) (p q : Pass Board View) (s : Seat) (now left : List Seat) (n m : ℕ) → now ≡ s ∷ left → m + 1 ≡ n → IsJoined t all p now n
    → IsSamePass p q → view q ≡ joined (view p) (view s.pass) → IsJoined t all q left m
joins_next t all p q s now left n m is less old same told =
    let each : AllByRecursion (IsSeatOf t) (s ∷ left) = subst (AllByRecursion (IsSeatOf t)) is old.seats in
    record {
      queue = (same.0 ∙ old.queue.0, same.2 ∙ old.queue.1);
      workers = ap (λ (v : View). v.workers) told ∙ old.workers;
      stop = ap (λ (v : View). v.stop) told ∙ old.stop;
      begun = ap (λ (v : View). v.opening) told ∙ old.begun;
      empty = ap (λ (v : View). v.held) told ∙ old.empty;
      some = (let l = ap (λ (v : View). length v.shares) told in let a = length-append (view p).shares (view s.pass).shares in let b = old.some in omega arith);
      shares = ap (λ (v : View). v.shares ++ map share_at left) told
          ∙ (append_assoc (view p).shares (view s.pass).shares (map share_at left)
          ∙ (ap (λ ss. (view p).shares ++ (ss ++ map share_at left)) (only_share s) ∙ (ap (λ l. (view p).shares ++ map share_at l) (sym is) ∙ old.shares)));
      seats = each.1;
      len = (let l = ap length is in let k = old.len in omega arith);
      halted = λ b h others.
          let either : (view q).halted ≡ ((view p).halted || (view s.pass).halted) = ap (λ (v : View). v.halted) told in
          old.halted b (λ t. h (either ∙ ap (λ c. c || (view s.pass).halted) t))
          (subst (AllByRecursion (λ u. halted_at u ≡ true → b ≡ true)) (sym is) ((λ t. h (either ∙ (ap (λ c. (view p).halted || c) (s.waits.left ∙ t) ∙ or_true (view p).halted))), others));
      seen = λ b h others.
          let both : max (view p).seen (view s.pass).seen ≤ b = subst (λ (n : ℕ). n ≤ b) (ap (λ (v : View). v.seen) told) h in
          let same = s.waits.seen in
          old.seen b (omega arith) (subst (AllByRecursion (λ u. bound_at u ≤ b)) (sym is) ((omega arith), others));
    }

pub all_joined : (t : Table) (all : List Seat) (p : Pass Board View) (left : List Seat) → IsJoined t all p left 0 → (view p).shares ≡ map share_at all
all_joined t all p [] is = sym (nil_right (view p).shares) ∙ is.shares
all_joined t all p (s ∷ left) is = absurd (let l = is.len in omega arith)

-- where one of them has left the mark that halts the workers, it knows
pub all_halted : (t : Table) (all : List Seat) (p : Pass Board View) (left : List Seat) → IsJoined t all p left 0 → AllByRecursion (λ s. halted_at s ≡ true → (view p).halted ≡ true) all
all_halted t all p [] is = is.halted (view p).halted (λ told. told) tt
all_halted t all p (s ∷ left) is = absurd (let l = is.len in omega arith)

-- none of them has seen a bound beyond the one that it has seen
pub all_seen : (t : Table) (all : List Seat) (p : Pass Board View) (left : List Seat) → IsJoined t all p left 0 → AllByRecursion (λ s. bound_at s ≤ (view p).seen) all
all_seen t all p [] is = is.seen (view p).seen (omega arith) tt
all_seen t all p (s ∷ left) is = absurd (let l = is.len in omega arith)

-- where a pass stands for all workers, the exchange that it takes and their shares are a good state
pub closed : (x : Board) (v : View) (shares : List Share) (n : ℕ) → v.shares ≡ shares → v.workers ≡ n → length shares ≡ n → 0 < n → IsMet v.shares x → Knows x v → AreGoodTogether x shares
closed x v shares n is count long more met knows =
    let a = ap length is in
    let b = knows.workers (omega arith) in
    let c = met.ruled.count in
    let d = length-append v.shares met.others in
    let none : met.others ≡ [] = nil_from_length met.others (omega arith) in
    whole_of met.case x shares
    (subst (IsRuled met.case x) (ap (λ l. v.shares ++ l) none ∙ (nil_right v.shares ∙ is)) met.ruled)

-- its stop is the one that each seat knows
pub closed_stop : (x : Board) (t : Table) (all : List Seat) → x.stop ≡ t.stop → AllByRecursion (IsSeatOf t) all → AllByRecursion (λ s. stop_at s ≡ x.stop) all
closed_stop x t [] is seats = tt
closed_stop x t (s ∷ all) is seats = (seats.0.stop ∙ sym is, closed_stop x t all is seats.1)

-- and its bound is not below the one that any of them has seen
pub closed_bound : (x : Board) (seen : ℕ) (all : List Seat) → seen ≤ x.bound → AllByRecursion (λ s. bound_at s ≤ seen) all → AllByRecursion (λ s. bound_at s ≤ x.bound) all
closed_bound x seen [] le h = tt
closed_bound x seen (s ∷ all) le h = ((let one : bound_at s ≤ seen = h.0 in omega arith), closed_bound x seen all le h.1)

-- and it is halted where any of them has left it so
pub closed_halted : (x : Board) (halted : Bool) (all : List Seat) → (halted ≡ true → x.halted ≡ true) → AllByRecursion (λ s. halted_at s ≡ true → halted ≡ true) all
    → AllByRecursion (λ s. halted_at s ≡ true → x.halted ≡ true) all
closed_halted x halted [] stays h = tt
closed_halted x halted (s ∷ all) stays h = ((λ told. stays (h.0 told)), closed_halted x halted all stays h.1)

-- the stop of a pass that stands for some workers is the exchange's
pub met_stop : (x : Board) (v : View) (shares : List Share) (n : ℕ) → v.shares ≡ shares → length shares ≡ n → 0 < n → Knows x v → x.stop ≡ v.stop
met_stop x v shares n is long more knows = (let a = ap length is in sym (knows.stop (omega arith)))
