-- Safe and robust policies (Griffin, Shepherd, Wilfong 2002), said for all delays of links.
use Rattle.std.specs.Prelude.{ℕ, ◌≡◌, ◌≤◌}
use Rattle.tw_model.specs.Net.{Net}
use Rattle.tw_model.specs.Case.{Case, IsCase}
use Rattle.tw_model.specs.Quiet.{IsQuiet}
use Rattle.tw_policy.specs.Alike.{AreAlike, AreAlikeNets}
use Rattle.tw_policy.specs.OneList.{LeavesRanks}
use Rattle.tw_policy.specs.Standing.{standing}

-- from some time on nothing is pending
abbrev pub ComesToRest : Case → Type 0
ComesToRest case = (t : ℕ) × ((later : ℕ) → t ≤ later → IsQuiet case later)

-- a case that comes to rest whatever the delays of its links
abbrev pub IsSafe : Case → Type 0
IsSafe case = (other : Case) → IsCase other → AreAlike case other → ComesToRest other

-- an instance that comes to rest after every script that leaves the ranks as they are, whatever the delays
abbrev pub IsRobust : Net → Type 0
IsRobust net = (case : Case) → IsCase case → AreAlikeNets net case.net → LeavesRanks case → ComesToRest case

-- once their scripts are over, the routers of both rank their paths alike
abbrev pub RankAlike : Case → Case → Type 0
RankAlike case other = (v : ℕ) → (standing case v).order ≡ (standing other v).order
