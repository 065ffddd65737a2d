-- One event more, or one less, of those that led to the present state.
use Rattle.std.proofs.Common.{◌≡◌, ℕ, ◌+◌, ◌-◌, arith, length, get_or, take, ap₂, List, [], ◌∷◌, ◌++◌, sym, ap, ◌∙◌, refl, subst}
use Rattle.std.proofs.lemmas.List.{length_push, map_push, take_all, take_more}
use Rattle.tw_model.specs.Net.{Net}
use Rattle.tw_model.specs.State.{Router, State}
use Rattle.tw_model.specs.Effect.{effect}
use Rattle.tw_model.specs.History.{state_after, undone}
use Rattle.tw_handlers.specs.declared.trail.Done.{Done}
use Rattle.tw_handlers.specs.Record.{IsHandled}
use Rattle.tw_handlers.specs.Trail.{History, IsTrail, Leads, handled_events, history_of, state_at_start}
use Rattle.tw_handlers.specs.Undo.{state_before}
use Rattle.tw_handlers.proofs.Handled.{state_before-handled}
use Rattle.tw_handlers.proofs.Undone.{undone-last}

-- the present state is that after the events
pub state_after-leads : (net : Net) (v : ℕ) (s present : State) (steps : List Done)
    → Leads net v s steps present → state_after net v s (handled_events steps) ≡ present
state_after-leads net v s present [] h = h
state_after-leads net v s present (d ∷ steps) h = state_after-leads net v (effect net v s d.event).state present steps h.1

-- the records lead back to where it began
pub state_at_start-leads : (net : Net) (v : ℕ) (s present : State) (steps : List Done)
    → Leads net v s steps present → state_at_start net v present steps ≡ s
state_at_start-leads net v s present [] h = sym h
state_at_start-leads net v s present (d ∷ steps) h =
    ap (λ x. state_before net v x d.event d.note) (state_at_start-leads net v (effect net v s d.event).state present steps h.1)
    ∙ state_before-handled net v s d.event d.note (effect net v s d.event).state h.0

-- one event more
pub leads-push : (net : Net) (v : ℕ) (s present later : State) (steps : List Done) (d : Done)
    → Leads net v s steps present → IsHandled net v present d.event d.note later → Leads net v s (steps ++ d ∷ []) later
leads-push net v s present later [] d h k =
    let at : IsHandled net v s d.event d.note later = subst (λ x. IsHandled net v x d.event d.note later) (sym h) k in
    (subst (λ x. IsHandled net v s d.event d.note x) (sym at.state) at, at.state)
leads-push net v s present later (x ∷ steps) d h k =
    (h.0, leads-push net v (effect net v s x.event).state present later steps d h.1 k)

-- one event less: the state before it
pub leads-front : (net : Net) (v : ℕ) (s present : State) (steps : List Done) (d : Done)
    → Leads net v s (steps ++ d ∷ []) present → Leads net v s steps (state_after net v s (handled_events steps))
leads-front net v s present [] d h = refl
leads-front net v s present (x ∷ steps) d h = (h.0, leads-front net v (effect net v s x.event).state present steps d h.1)

-- and the last event itself
pub leads-last : (net : Net) (v : ℕ) (s present : State) (steps : List Done) (d : Done)
    → Leads net v s (steps ++ d ∷ []) present → IsHandled net v (state_after net v s (handled_events steps)) d.event d.note present
leads-last net v s present [] d h = subst (λ x. IsHandled net v s d.event d.note x) h.1 h.0
leads-last net v s present (x ∷ steps) d h = leads-last net v (effect net v s x.event).state present steps d h.1

-- the router now is that after its events
pub router-now : (router : Router) (steps : List Done) (t : History) → IsTrail router steps → history_of router steps ≡ t
    → router ≡ record t.opening { state = state_after t.opening.net t.opening.node t.opening.state t.events }
router-now router steps t h is =
    let P : History → Type 0 = λ x. router ≡ record x.opening { state = state_after x.opening.net x.opening.node x.opening.state x.events } in
    subst P is (ap (λ (x : State). record router { state = x }) (sym (state_after-leads router.net router.node (state_at_start router.net router.node router.state steps) router.state steps h)))

-- a trail by any state from which its events led
trail-from : (net : Net) (v : ℕ) (s present : State) (steps : List Done) → Leads net v s steps present → IsTrail (record { net = net; node = v; state = present }) steps
trail-from net v s present steps h = subst (λ x. Leads net v x steps present) (sym (state_at_start-leads net v s present steps h)) h

history-from : (net : Net) (v : ℕ) (s present : State) (steps : List Done) → Leads net v s steps present
    → history_of (record { net = net; node = v; state = present }) steps ≡ record { opening = record { net = net; node = v; state = s }; events = handled_events steps }
history-from net v s present steps h =
    ap (λ x. record { opening = record { net = net; node = v; state = x }; events = handled_events steps }) (state_at_start-leads net v s present steps h)

handled_events-push : (steps : List Done) (d : Done) → handled_events (steps ++ d ∷ []) ≡ handled_events steps ++ d.event ∷ []
handled_events-push steps d = map_push (λ (x : Done). x.event) steps d

-- the trail with one event more
pub IsTrail-push : (router later : Router) (steps items : List Done) (d : Done) (s : State)
    → later ≡ record router { state = s } → items ≡ steps ++ d ∷ [] → IsTrail router steps
    → IsHandled router.net router.node router.state d.event d.note later.state → IsTrail later items
IsTrail-push router later steps items d s is with h k =
    let at : IsHandled router.net router.node router.state d.event d.note s = subst (λ (r : Router). IsHandled router.net router.node router.state d.event d.note r.state) is k in
    let pushed : IsTrail (record router { state = s }) (steps ++ d ∷ []) =
    trail-from router.net router.node _ s (steps ++ d ∷ []) (leads-push router.net router.node _ router.state s steps d h at) in
    subst (λ r. IsTrail r items) (sym is) (subst (IsTrail (record router { state = s })) (sym with) pushed)

pub history-push : (router later : Router) (steps items : List Done) (d : Done) (s : State)
    → later ≡ record router { state = s } → items ≡ steps ++ d ∷ [] → IsTrail router steps
    → IsHandled router.net router.node router.state d.event d.note later.state
    → history_of later items ≡ record (history_of router steps) { events = handled_events steps ++ d.event ∷ [] }
history-push router later steps items d s is with h k =
    let at : IsHandled router.net router.node router.state d.event d.note s = subst (λ (r : Router). IsHandled router.net router.node router.state d.event d.note r.state) is k in
    let start : State = state_at_start router.net router.node router.state steps in
    ap₂ history_of is with
    ∙ (history-from router.net router.node start s (steps ++ d ∷ []) (leads-push router.net router.node start router.state s steps d h at)
    ∙ ap (λ events. record { opening = record router { state = start }; events = events }) (handled_events-push steps d))

-- the state before the last event of a trail
abbrev pub before_last : Router → List Done → List Done → State
before_last router steps front =
    state_after router.net router.node (state_at_start router.net router.node router.state steps) (handled_events front)

pub handled-last : (router : Router) (steps front : List Done) (d : Done) → steps ≡ front ++ d ∷ [] → IsTrail router steps
    → IsHandled router.net router.node (before_last router steps front) d.event d.note router.state
handled-last router steps front d is h =
    let s = state_at_start router.net router.node router.state steps in
    leads-last router.net router.node s router.state front d (subst (λ x. Leads router.net router.node s x router.state) is h)

front-leads : (router : Router) (steps front : List Done) (d : Done) → steps ≡ front ++ d ∷ [] → IsTrail router steps
    → Leads router.net router.node (state_at_start router.net router.node router.state steps) front (before_last router steps front)
front-leads router steps front d is h =
    let s = state_at_start router.net router.node router.state steps in
    leads-front router.net router.node s router.state front d (subst (λ x. Leads router.net router.node s x router.state) is h)

-- the trail with one event less
pub IsTrail-pop : (router earlier : Router) (steps front left : List Done) (d : Done) → steps ≡ front ++ d ∷ [] → IsTrail router steps
    → earlier ≡ record router { state = before_last router steps front } → left ≡ front → IsTrail earlier left
IsTrail-pop router earlier steps front left d is h new rest =
    let popped : IsTrail (record router { state = before_last router steps front }) front =
    trail-from router.net router.node _ _ front (front-leads router steps front d is h) in
    subst (λ r. IsTrail r left) (sym new) (subst (IsTrail (record router { state = before_last router steps front })) (sym rest) popped)

pub history-pop : (router earlier : Router) (steps front left : List Done) (d : Done) → steps ≡ front ++ d ∷ [] → IsTrail router steps
    → earlier ≡ record router { state = before_last router steps front } → left ≡ front
    → history_of earlier left ≡ record (history_of router steps) { events = handled_events front }
history-pop router earlier steps front left d is h new rest =
    ap₂ history_of new rest ∙ history-from router.net router.node _ _ front (front-leads router steps front d is h)

-- the last of the steps, and those before it
pub split-last : (steps : List Done) (n : ℕ) (d : Done) → n + 1 ≡ length steps → d ≡ get_or steps n d → steps ≡ take n steps ++ d ∷ []
split-last steps n d h is =
    sym (take_all (n + 1) steps (omega arith)) ∙ (take_more steps n d (omega arith) ∙ ap (λ x. take n steps ++ x ∷ []) (sym is))

-- what the last event sent
pub sends-pop : (net : Net) (v : ℕ) (s : State) (steps front : List Done) (d : Done) → steps ≡ front ++ d ∷ []
    → (effect net v (state_after net v s (handled_events front)) d.event).sends ≡ undone net v s (handled_events steps) (length (handled_events steps) - 1)
sends-pop net v s steps front d is =
    let e : handled_events steps ≡ handled_events front ++ d.event ∷ [] = ap handled_events is ∙ handled_events-push front d in
    let n : length (handled_events steps) - 1 ≡ length (handled_events front) = omega (arith, ap length e, length_push (handled_events front) d.event) in
    sym (ap₂ (undone net v s) e n ∙ undone-last net v s (handled_events front) d.event)
