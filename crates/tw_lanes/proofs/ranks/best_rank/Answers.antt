use Rattle.std.proofs.Common.{◌≡◌, ◌<◌, ◌/◌, ℕ, List, [], ◌∷◌, Contains, fold, length, max, subst, sym, arith}
use Rattle.tw_lanes.proofs.Extremes.{absorbs, fold_by_lanes, max-Joins, max-picks, picks_one}
use Rattle.tw_lanes.proofs.ranks.best_rank.Goals as goal

pub returns-clause-value : goal.returns-clause-value
returns-clause-value c =
    let ranks = c.args.ranks.now in
    let by_lanes = fold_by_lanes max max-Joins 0 8 (length ranks / 8) ranks (omega arith) in
    cc

pub returns-clause-bound : goal.returns-clause-bound
returns-clause-bound c k d lt =
    let value = returns-clause-value c in
    let absorbed = absorbs max max-Joins 0 c.args.ranks.now k d lt in
    omega arith

reached : (ranks : List ℕ) → 0 < length ranks → Contains ranks (fold max 0 ranks)
reached [] some = absurd (omega arith)
reached (rank ∷ ranks) some = let first : max 0 rank ≡ rank = omega arith in subst (λ best. Contains (rank ∷ ranks) (fold max best ranks)) (sym first) (picks_one max max-picks rank ranks)

pub returns-clause-reached : goal.returns-clause-reached
returns-clause-reached c some = subst (Contains c.args.ranks.now) (sym (returns-clause-value c)) (reached c.args.ranks.now some)
