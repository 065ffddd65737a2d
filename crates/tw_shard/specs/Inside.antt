-- What the fields of a shard say, and what holds of them (own).
use Rattle.std.specs.Prelude.{ℕ, ◌≡◌, ◌≤◌, true}
use Rattle.std.specs.List.{AllByRecursion}
use Rattle.tw_shard.specs.declared.shard.Shard.TheInside.{Inside}
use Rattle.tw_shard.specs.Shard.{IsSoundShard, Shard, Terms, owns, timeline}
use Rattle.tw_shard.specs.Timeline.{history}

-- the terms that the fields stand for
abbrev pub terms_of : Inside → Terms
terms_of a = record { case = a.case.now; worker = a.worker; workers = a.workers; retains = a.retains; cancel = a.cancel }

-- the shard that the fields stand for
abbrev pub shard_of : Inside → Shard
shard_of a = record {
  terms = terms_of a;
  routers = a.roster.routers;
  timelines = a.timelines.items;
  pending = a.pending.events;
  kept = a.kept.events;
  outgoing = a.outgoing.items;
  held = a.held.events;
  bound = a.bound;
}

-- no event that its routers have handled and not undone is after this time
abbrev pub HasHandledTo : ℕ → Shard → Type 0
HasHandledTo time s = (r : ℕ) → owns s r ≡ true → AllByRecursion (λ e. e.time ≤ time) (history (timeline s r))

-- it is whole, and its routers, and those for which something waits, are of the case; and they have handled nothing after the latest time
pub record IsShard (a : Inside) : Type 0 where
  pub whole : IsSoundShard (shard_of a)
  pub roster : a.roster.count ≡ a.case.now.net.nodes
  pub pending : a.pending.routers ≡ a.case.now.net.nodes
  pub kept : a.kept.routers ≡ a.case.now.net.nodes
  pub held : a.held.routers ≡ a.case.now.net.nodes
  pub latest : HasHandledTo a.latest (shard_of a)
