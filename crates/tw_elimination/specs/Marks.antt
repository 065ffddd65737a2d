-- Which of its paths a router gets from its neighbours' paths, by their places in its order (own).
use Rattle.std.specs.Prelude.{ℕ, ◌+◌, ◌-◌, ◌==◌, Bool, true, ◌&&◌, List, [], ◌∷◌, fold, length, max, min, nat_lt, slice_set, if◌then◌else◌}
use Rattle.std.specs.List.{position_or_len, zip}
use Rattle.tw_event.specs.declared.event.PathNo.{PathNo}
use Rattle.tw_model.specs.declared.net.Hop.{Hop}
use Rattle.tw_model.specs.declared.state.Row.{Row}
use Rattle.tw_model.specs.Net.{empty_path, hops_of}
use Rattle.tw_model.specs.State.{Router, bars}
use Rattle.tw_policy.specs.Left.{allows}

-- what is kept of a neighbour over a link that is up, where it told this path
abbrev pub telling : PathNo → Row
telling p = record { heard = p; up = true; session = 0 }

-- where in the router's order the path stands that it gets by this path of a neighbour; the number of its paths where it gets none
abbrev pub place_given : Router → PathNo → ℕ
place_given r p = position_or_len (λ q. allows r.net (λ v. r.state) r.node q p) r.state.order

-- where in its order path q of the router stands; the number of its paths where it is barred
abbrev pub place_open : Router → PathNo → ℕ
place_open r q = if bars r.net r.node r.state.barred q then length r.state.order else position_or_len (λ p. p.0 == q.0) r.state.order

-- how many of its best paths hold the one that it gets, whichever of these paths a neighbour tells it
abbrev pub reach : Router → List PathNo → ℕ
reach r ps = fold (λ n p. max n (place_given r p + 1)) 0 ps

-- marks of places, and those of what it gets by these paths of a neighbour
abbrev pub marked : Router → List Bool → List PathNo → List Bool
marked r given ps = fold (λ g p. slice_set g (place_given r p) true) given ps

-- its neighbours, each with what it keeps of it
abbrev pub ends : Router → List (Hop × Row)
ends r = zip (hops_of r.net r.node) r.state.rows

-- how many of its best paths hold one that some neighbour, whose link is up, always gives it; one more than it has where none does
abbrev pub least_reach : Router → (ℕ → List PathNo) → ℕ
least_reach r left = fold (λ n p. if p.1.up then min n (reach r (left p.0.peer)) else n) (length r.state.order + 1) (ends r)

-- marks of places, and those of what it gets by these paths of its neighbours, where the links are up
abbrev pub all_marked : Router → (ℕ → List PathNo) → List Bool → List Bool
all_marked r left given = fold (λ g p. if p.1.up then marked r g (left p.0.peer) else g) given (ends r)

-- of the first n paths of an order those that are marked; and the empty path where the order has fewer
abbrev pub picked : List PathNo → List Bool → ℕ → List PathNo
picked [] given n = if nat_lt 0 n then empty_path ∷ [] else []
picked (q ∷ order) [] n = []
picked (q ∷ order) (g ∷ given) n = if g && nat_lt 0 n then q ∷ picked order given (n - 1) else picked order given (n - 1)
