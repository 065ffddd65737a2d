-- What the fields of a parallel run say, and what holds of them (own).
use Rattle.std.specs.Prelude.{◌≡◌, length}
use Rattle.tw_parallel.specs.declared.sim.Parts.{Parts}
use Rattle.tw_parallel.specs.declared.sim.Sim.TheInside.{Inside}
use Rattle.tw_parallel.specs.Sim.{IsSim, Sim}
use Rattle.tw_table.specs.Shares.{shares_of}

-- the run that the fields stand for
abbrev pub sim_of : Inside → Sim
sim_of a = record { case = a.case.now; board = a.exchange; shares = shares_of a.shards.items a.hands.items }

-- the rule holds, and there is a hand for each shard
pub record IsInside (a : Inside) : Type 0 where
  pub sim : IsSim (sim_of a)
  pub hands : length a.hands.items ≡ length a.shards.items

-- the run that parts stand for
abbrev pub sim_of_parts : Parts → Sim
sim_of_parts p = record { case = p.case.now; board = p.exchange; shares = shares_of p.shards.items p.hands.items }

-- there is a hand for each shard
abbrev pub HasHands : Parts → Type 0
HasHands p = length p.hands.items ≡ length p.shards.items
