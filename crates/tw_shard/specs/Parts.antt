-- A shard that is made of its parts (own).
use Rattle.std.specs.Prelude.{ℕ, List, []}
use Rattle.tw_event.specs.declared.event.Event.{Event}
use Rattle.tw_shard.specs.Shard.{Shard, Terms}
use Rattle.tw_shard.specs.Timeline.{Timeline}

-- a shard of these terms, this bound and these parts, which has sent nothing and holds nothing
abbrev pub quiet_shard : Terms → ℕ → List ℕ → List Timeline → List Event → List Event → Shard
quiet_shard terms bound routers timelines pending kept = record {
  terms = terms;
  routers = routers;
  timelines = timelines;
  pending = pending;
  kept = kept;
  outgoing = [];
  held = [];
  bound = bound;
}
