use Rattle.std.proofs.Common.{subst}
use Rattle.tw_shard.specs.Roster.{IsRoster, room_of}
use Rattle.tw_shard.proofs.Rosters.{is_roster}
use Rattle.tw_shard.proofs.roster.Roster.routers.Goals as goal

pub returns-clause-roster : goal.returns-clause-roster
returns-clause-roster c = let a = c.self.inside in subst IsRoster c.self.view_is (is_roster a.routers.items a.places.items c.self.invariant (room_of a))
