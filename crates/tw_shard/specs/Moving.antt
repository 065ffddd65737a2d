-- A router that goes from one shard to another (own).
use Rattle.std.specs.Prelude.{ℕ, ◌≡◌, ◌==◌, ◌&&◌, ◌||◌, true, not, max}
use Rattle.tw_event.specs.Order.{event_before}
use Rattle.tw_held.specs.Held.{sent_by, sent_by_others}
use Rattle.tw_ordered.specs.Queue.{for_others, for_router}
use Rattle.tw_shard.specs.Shard.{Shard, owns, timeline}
use Rattle.tw_sim.specs.Ordered.{insert_all}

-- router r has moved out of s, which is t now: what waits for it and what is held for it is gone, and all else stays
pub record HasMovedOut (r : ℕ) (s t : Shard) : Type 0 where
  pub routers : (q : ℕ) → owns t q ≡ (owns s q && not (q == r))
  pub timelines : (q : ℕ) → owns t q ≡ true → timeline t q ≡ timeline s q
  pub pending : t.pending ≡ for_others r s.pending
  pub kept : t.kept ≡ for_others r s.kept
  pub held : t.held ≡ sent_by_others r s.held
  pub outgoing : t.outgoing ≡ s.outgoing
  pub bound : t.bound ≡ s.bound
  pub terms : t.terms ≡ s.terms

-- router r has moved from s into t, which is u now, with its timeline, what waits for it and what is held for it, and all else stays
pub record HasMovedIn (r : ℕ) (s t u : Shard) : Type 0 where
  pub routers : (q : ℕ) → owns u q ≡ (owns t q || (q == r))
  pub moved : timeline u r ≡ timeline s r
  pub others : (q : ℕ) → owns t q ≡ true → timeline u q ≡ timeline t q
  pub pending : u.pending ≡ insert_all event_before (for_router r s.pending) t.pending
  pub kept : u.kept ≡ insert_all event_before (for_router r s.kept) t.kept
  pub held : u.held ≡ insert_all event_before (sent_by r s.held) t.held
  pub outgoing : u.outgoing ≡ t.outgoing
  -- it knows the greater of the two bounds
  pub bound : u.bound ≡ max t.bound s.bound
  pub terms : u.terms ≡ t.terms
