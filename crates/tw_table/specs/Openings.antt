-- What workers have as they begin (own).
use Rattle.std.specs.Prelude.{ℕ, suc, ◌≡◌, ◌==◌, ◌&&◌, nat_lt, List, [], ◌∷◌}
use Rattle.tw_model.specs.Case.{Case}
use Rattle.tw_shard.specs.Shard.{opening_core, owns, shard_core}
use Rattle.tw_sim.specs.Owners.{owner}
use Rattle.tw_table.specs.Shares.{Share}

-- worker k's share, of so many: its shard as it opens, which takes back at once or late, and an empty hand
pub record IsNew (case : Case) (k workers : ℕ) (s : Share) : Type 0 where
  pub core_is : (stop : ℕ) → shard_core stop s.shard ≡ opening_core case k workers s.shard.terms.cancel stop
  pub case_is : s.shard.terms.case ≡ case
  pub worker : s.shard.terms.worker ≡ k
  -- it has the routers of the case that are this worker's
  pub owns_are : (r : ℕ) → owns s.shard r ≡ (nat_lt r case.net.nodes && (owner workers r == k))
  pub count : s.shard.terms.workers ≡ workers
  pub mail : s.mail ≡ []
  pub unsent : s.unsent ≡ []

-- those of the workers from k on
abbrev pub AreNew : Case → ℕ → ℕ → List Share → Type 0
AreNew case k workers [] = Unit {0}
AreNew case k workers (s ∷ shares) = IsNew case k workers s × AreNew case (suc k) workers shares
