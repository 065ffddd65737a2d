use Rattle.std.proofs.Common.{◌≡◌, ◌≤◌, ◌/◌, ℕ, zero, suc, List, ◌∷◌, All, Contains, Some, fold, length, min, subst, sym, refl, arith}
use Rattle.std.specs.List.{reduce}
use Rattle.tw_lanes.proofs.Extremes.{absorbs, absorbs_first, fold_by_lanes, min-Joins, min-picks, picks_one}
use Rattle.tw_lanes.proofs.times.least_time.Goals as goal

least_bounds : (first : ℕ) (others : List ℕ) → All (λ time. fold min first others ≤ time) (first ∷ others)
least_bounds first others zero d lt = let absorbed = absorbs_first min min-Joins first others in omega arith
least_bounds first others (suc k) d lt = let absorbed = absorbs min min-Joins first others k d (omega arith) in omega arith

-- the least by `reduce` is no greater than any, and one of them
record IsLeast (times : List ℕ) (least : ℕ) : Type 0 where
  value : Some least ≡ reduce min times
  bound : All (λ time. least ≤ time) times
  reached : Contains times least

IsLeast-fold : (first : ℕ) (others times : List ℕ) → times ≡ first ∷ others → IsLeast times (fold min first others)
IsLeast-fold first others times split =
    subst (λ xs. IsLeast xs (fold min first others)) (sym split)
    (record { value = refl; bound = least_bounds first others; reached = picks_one min min-picks first others })

pub returns : goal.returns
returns c =
    let others = c.in_ok-first.others.now in
    let by_lanes = fold_by_lanes min min-Joins c.in_ok-first.first.now 8 (length others / 8) others (omega arith) in
    let value : c.least_of-2.result ≡ fold min c.in_ok-first.first.now others = cc in
    let least = subst (IsLeast c.args.times.now) (sym value) (IsLeast-fold c.in_ok-first.first.now others c.args.times.now c.in_ok-first.ensures.cases.0) in
    record { value = least.value; bound = least.bound; reached = least.reached }
