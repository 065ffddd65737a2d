-- Shards with a hand each: the share of each worker.
use Rattle.std.proofs.Common.{◌≡◌, ℕ, zero, suc, ◌+◌, ◌<◌, ◌↔◌, true, List, [], ◌∷◌, drop, get_or, length, map, slice_get, Some, refl, ap, arith}
use Rattle.std.proofs.lemmas.Bool.{and_parts}
use Rattle.std.specs.List.{AllByRecursion, list_all, range_with_len}
use Rattle.std.specs.Prelude.{replicate}
use Rattle.tw_shard.specs.Shard.{Shard}
use Rattle.tw_sim.specs.declared.machine.Cancel.{Cancel}
use Rattle.tw_table.specs.declared.hand.Hand.{Hand}
use Rattle.tw_table.specs.Shares.{Share, share, shares_of}
use Rattle.tw_warp.specs.Warp.{no_shard}

-- there are as many as shards
pub long_shares : (ss : List Shard) (hs : List Hand) → length hs ≡ length ss → length (shares_of ss hs) ≡ length ss
long_shares [] hs same = refl
long_shares (s ∷ ss) [] same = absurd (omega arith)
long_shares (s ∷ ss) (h ∷ hs) same = let more = long_shares ss hs (omega arith) in omega arith

-- that of worker k has its shard
pub share_there : (ss : List Shard) (hs : List Hand) (k : ℕ) (d : Shard) → length hs ≡ length ss → k < length ss
    → (h : Hand) × (slice_get (shares_of ss hs) k ≡ Some (share (get_or ss k d) h))
share_there [] hs k d same within = absurd (omega arith)
share_there (s ∷ ss) [] k d same within = absurd (omega arith)
share_there (s ∷ ss) (h ∷ hs) zero d same within = (h, refl)
share_there (s ∷ ss) (h ∷ hs) (suc k) d same within = share_there ss hs k d (omega arith) (omega arith)

-- and is that of worker k
pub worker_there : (from n k : ℕ) (ts : List Share) (t : Share) → map (λ (t : Share). t.shard.terms.worker) ts ≡ range_with_len from n → slice_get ts k ≡ Some t → t.shard.terms.worker ≡ from + k
worker_there from n k [] t order there = cc
worker_there from zero k (x ∷ ts) t order there = absurd (let long = ap length order in omega arith)
worker_there from (suc n) zero (x ∷ ts) t order there =
    let same : x ≡ t = cc in
    let first : x.shard.terms.worker ≡ from = ap (λ l. get_or l 0 0) order in
    let worker : x.shard.terms.worker ≡ t.shard.terms.worker = ap (λ (z : Share). z.shard.terms.worker) same in
    omega arith
worker_there from (suc n) (suc k) (x ∷ ts) t order there =
    let more = worker_there (from + 1) n k ts t (ap (drop 1) order) there in omega arith

-- shards that retain their events, with a hand each
pub all_retain : (ss : List Shard) (hs : List Hand) → ((k : ℕ) → k < length ss → (get_or ss k no_shard).terms.retains ≡ true) → AllByRecursion (λ (t : Share). t.shard.terms.retains ≡ true) (shares_of ss hs)
all_retain [] hs each = tt
all_retain (s ∷ ss) [] each = tt
all_retain (s ∷ ss) (h ∷ hs) each = (each 0 (omega arith), all_retain ss hs (λ k l. each (suc k) (omega arith)))

-- shards that take back at this time, with a hand each
pub all_take : (cancel : Cancel) (ss : List Shard) (hs : List Hand) → length hs ≡ length ss → ((k : ℕ) → k < length ss → (get_or ss k no_shard).terms.cancel ≡ cancel)
    → map (λ (t : Share). t.shard.terms.cancel) (shares_of ss hs) ≡ replicate (length ss) cancel
all_take cancel [] hs same each = refl
all_take cancel (s ∷ ss) [] same each = absurd (omega arith)
all_take cancel (s ∷ ss) (h ∷ hs) same each =
    λ i. each 0 (omega arith) i ∷ all_take cancel ss hs (omega arith) (λ k l. each (suc k) (omega arith)) i

-- all of them retain their events where each shard does
pub retain_all : (ss : List Shard) (hs : List Hand) → length hs ≡ length ss → (list_all (λ (s : Shard). s.terms.retains) ss ≡ true) ↔ AllByRecursion (λ (t : Share). t.shard.terms.retains ≡ true) (shares_of ss hs)
retain_all [] hs same = ((λ h. tt), (λ h. refl))
retain_all (s ∷ ss) [] same = absurd (omega arith)
retain_all (s ∷ ss) (h ∷ hs) same =
    let more = retain_all ss hs (omega arith) in (
      λ all. (let parts = and_parts s.terms.retains (list_all (λ (s : Shard). s.terms.retains) ss) all in (parts.0, more.0 parts.1)),
      λ each. rw each.0 (more.1 each.1),
    )
