-- That a shard's routers have handled nothing after a time.
use Rattle.std.proofs.Common.{◌≡◌, ℕ, ◌<◌, ◌≤◌, true, List, [], ◌∷◌, arith}
use Rattle.std.specs.List.{AllByRecursion}
use Rattle.tw_event.specs.declared.event.Event.{Event}
use Rattle.tw_shard.specs.Inside.{HasHandledTo}
use Rattle.tw_shard.specs.Shard.{IsSoundShard, Shard, owns, timeline}
use Rattle.tw_shard.specs.Timeline.{Timeline, history}
use Rattle.tw_shard.proofs.Shares.{changed, each_timeline}
use Rattle.tw_sim.specs.declared.machine.Signed.{Signed}

-- what is not after a time is not after a later one
pub until_later : (a b : ℕ) (events : List Event) → a ≤ b → AllByRecursion (λ (e : Event). e.time ≤ a) events → AllByRecursion (λ (e : Event). e.time ≤ b) events
until_later a b [] le all = tt
until_later a b (e ∷ events) le all = ((let early = all.0 in omega arith), until_later a b events le all.1)

-- and is before each time after it
pub all_before : (a b : ℕ) (events : List Event) → a < b → AllByRecursion (λ (e : Event). e.time ≤ a) events → AllByRecursion (λ (e : Event). e.time < b) events
all_before a b [] lt all = tt
all_before a b (e ∷ events) lt all = ((let early = all.0 in omega arith), all_before a b events lt all.1)

-- with another timeline of one of its routers
pub latest_changed : (s : Shard) (r : ℕ) (t : Timeline) (pending : List Event) (outgoing : List (Signed Event)) (held : List Event) → IsSoundShard s → owns s r ≡ true
    → (old new : ℕ) → old ≤ new → HasHandledTo old s → AllByRecursion (λ (e : Event). e.time ≤ new) (history t)
    → HasHandledTo new (changed s r t pending outgoing held)
latest_changed s r t pending outgoing held whole mine old new le all now =
    each_timeline s r t pending outgoing held whole mine (λ q line. AllByRecursion (λ (e : Event). e.time ≤ new) (history line)) now
    (λ q own. until_later old new (history (timeline s q)) le (all q own))
