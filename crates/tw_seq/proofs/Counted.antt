-- The events that a run has handled are as many as its routers have counted.
use Rattle.std.proofs.Common.{◌≡◌, ℕ, zero, suc, ◌+◌, ◌<◌, List, [], ◌∷◌, length, map, set, get_or, refl, arith}
use Rattle.tw_event.specs.declared.event.Event.{Event}
use Rattle.tw_model.specs.Net.{Net}
use Rattle.tw_model.specs.State.{Router, no_router, opening}
use Rattle.tw_model.proofs.Rises.{rises_acts}
use Rattle.tw_handlers.specs.Calls.{after_event}
use Rattle.tw_seq.specs.Thread.{handled_count}
use Rattle.tw_seq.specs.Turn.{receiver}

-- routers that begin have counted none
pub count_opening : (net : Net) (nodes : List ℕ) → handled_count (map (λ r. record { net = net; node = r; state = opening net r }) nodes) ≡ 0
count_opening net [] = refl
count_opening net (r ∷ nodes) = let others = count_opening net nodes in omega arith

-- one of the routers counts one event more
count_set : (routers : List Router) (r : ℕ) (e : Event) → r < length routers
    → handled_count (set routers r (after_event (get_or routers r no_router) e)) ≡ handled_count routers + 1
count_set [] r e within = absurd (omega arith)
count_set (x ∷ routers) zero e within = let one = (rises_acts x.net x.node x.state e e.body).handled in omega arith
count_set (x ∷ routers) (suc r) e within = let more = count_set routers r e (omega arith) in omega arith

pub count_handled : (routers : List Router) (e : Event) → e.dst < length routers
    → handled_count (set routers e.dst (after_event (receiver routers e) e)) ≡ handled_count routers + 1
count_handled routers e within = count_set routers e.dst e within
