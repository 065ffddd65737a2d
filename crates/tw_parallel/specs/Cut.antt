-- What the workers have where all of them stand at one time of the one-thread run, as they do at a stop that is reached (own).
use Rattle.std.specs.Prelude.{ℕ, suc, ◌≡◌, ◌<◌, Bool, List, [], ◌∷◌, length}
use Rattle.tw_exchange.specs.Board.{Board, who}
use Rattle.tw_model.specs.Case.{Case, IsCase}
use Rattle.tw_rule.specs.Cut.{IsCutBoard}
use Rattle.tw_shard.specs.Cut.{IsShardAt}
use Rattle.tw_sim.specs.declared.machine.Cancel.{Cancel}
use Rattle.tw_table.specs.Shares.{Share, board_of}

-- an exchange of so many workers, who have all reported that time, and which has no mail
abbrev pub IsExchangeAt : ℕ → ℕ → Board → Type 0
IsExchangeAt n time x = IsCutBoard n time (board_of x)

-- worker k's share: its shard, and an empty hand
pub record IsShareAt (case : Case) (who : ℕ → ℕ) (time k : ℕ) (retains : Bool) (cancel : Cancel) (t : Share) : Type 0 where
  pub shard : IsShardAt case who time k retains cancel t.shard
  pub mail : t.mail ≡ []
  pub unsent : t.unsent ≡ []

-- those of the workers from k on
abbrev pub AreSharesAt : Case → (ℕ → ℕ) → ℕ → ℕ → Bool → Cancel → List Share → Type 0
AreSharesAt case who time k retains cancel [] = Unit {0}
AreSharesAt case who time k retains cancel (t ∷ shares) = IsShareAt case who time k retains cancel t × AreSharesAt case who time (suc k) retains cancel shares

-- an exchange and the shares of all workers stand at that time of the run
pub record StandAt (case : Case) (time : ℕ) (retains : Bool) (cancel : Cancel) (x : Board) (shares : List Share) : Type 0 where
  pub is_case : IsCase case
  pub exchange : IsExchangeAt (length shares) time x
  pub each : AreSharesAt case (who x) time 0 retains cancel shares
  -- each router of the case has one of the workers
  pub routers : (r : ℕ) → r < case.net.nodes → who x r < length shares
