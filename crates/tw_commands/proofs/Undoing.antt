-- The events of a trail are undone one after the other, and their lines follow each other.
use Rattle.std.proofs.Common.{◌≡◌, ℕ, suc, false, ◌-◌, ◌≤◌, ◌<◌, true, List, [], ◌∷◌, ◌++◌, length, take, drop, get_or, refl, sym, ap, subst, ◌∙◌, inl, arith, codes, append_assoc, append-nil, Option, Some, None}
use Rattle.std.specs.List.{All}
use Rattle.std.specs.Io.KnownBytes.{Appends}
use Rattle.std.proofs.KnownBytes.{Appends-trans}
use Rattle.std.proofs.Math.Seq.{take-suc}
use Rattle.std.proofs.lemmas.List.{drop-append-le, length-take-le, length_push, take-append-drop, take-take}
use Rattle.std.proofs.lemmas.List.Sums.{fold-append}
use Rattle.tw_commands.proofs.Counting.{never_full}
use Rattle.tw_commands.proofs.RunPaths.{names_path}
use Rattle.tw_commands.specs.Trail.{router_line, trail_text, undo_lines, undone_lines}
use Rattle.tw_event.specs.declared.event.Event.{Event}
use Rattle.tw_handlers.proofs.Undone.{undone-last}
use Rattle.tw_handlers.specs.Trail.{History}
use Rattle.tw_model.specs.Net.{Net}
use Rattle.tw_model.specs.State.{IsCounted, Router, State, opening}
use Rattle.tw_model.specs.Effect.{effect, fits, is_full}
use Rattle.tw_model.specs.History.{state_after, undone}
use Rattle.tw_sim.proofs.Members.{In, all_from_in, in_from_all, in_right}
use Rattle.tw_model.proofs.Paths.{permitted_is_path}
use Rattle.tw_model.proofs.Suits.{IsOwnState, body_suits-fits, own_effect, to_effect}
use Rattle.tw_device.proofs.Puts.{IsPartway, partway_more}
use Rattle.tw_report.specs.Lines.{NamesPath}
use Rattle.tw_report.specs.Words.{line}

-- an event for a router names a path
pub event_named : (net : Net) (v : ℕ) (e : Event) → fits net v e ≡ true → NamesPath net e.body
event_named net v e h = names_path net v e e.body (body_suits-fits net v e h)

pub own_after : (net : Net) (v : ℕ) (s : State) (events : List Event) → IsOwnState net v s → IsOwnState net v (state_after net v s events)
own_after net v s [] own = own
own_after net v s (e ∷ events) own = own_after net v (effect net v s e).state events (own_effect net v s e own)

-- and so do the events that it sends
pub sends_named : (net : Net) (v : ℕ) (s : State) (e : Event) → IsOwnState net v s → fits net v e ≡ true → All (λ x. NamesPath net x.body) (effect net v s e).sends
sends_named net v s e own h = all_from_in (λ x. NamesPath net x.body) (effect net v s e).sends (λ x there.
    let to = to_effect net v s e (body_suits-fits net v e h) own x there in
    subst (λ b. NamesPath net b) (sym to.body.2) (permitted_is_path net v to.body.0 to.body.3))

last_fits : (P : Event → Type 0) (events older : List Event) (e : Event) → events ≡ older ++ e ∷ [] → All P events → P e
last_fits P events older e is all = in_from_all P events all e (subst (λ xs. In e xs) (sym is) (in_right e older (e ∷ []) (inl refl)))

pub last_fits_router : (net : Net) (v : ℕ) (events older : List Event) (e : Event) → events ≡ older ++ e ∷ [] → All (λ x. fits net v x ≡ true) events → fits net v e ≡ true
last_fits_router net v events older e is all = last_fits (λ x. fits net v x ≡ true) events older e is all

last_undone : (net : Net) (v : ℕ) (s : State) (events older : List Event) (e : Event) → events ≡ older ++ e ∷ []
    → undone net v s events (length events - 1) ≡ (effect net v (state_after net v s older) e).sends
last_undone net v s events older e is = let less : length (older ++ e ∷ []) - 1 ≡ length older = omega (arith, length_push older e) in rw (is, less) (undone-last net v s older e)

-- what undoing the last event added to a list that was empty
pub last_sends : (net own : Net) (v : ℕ) (s : State) (events older start added : List Event) (e : Event) (count : ℕ) → own ≡ net → events ≡ older ++ e ∷ [] → count ≡ length events → start ≡ []
    → added ≡ start ++ undone net v s events (count - 1) → added ≡ (effect own v (state_after own v s older) e).sends
last_sends net own v s events older start added e count same is counted none h =
    h ∙ rw (none, counted, same) (last_undone net v s events older e is)

undone_more : (net : Net) (v : ℕ) (s : State) (events : List Event) (e : Event)
    → undone_lines net v s (events ++ e ∷ []) ≡ undo_lines net e (effect net v (state_after net v s events) e).sends ++ undone_lines net v s events
undone_more net v s [] e = sym (append-nil (undo_lines net e (effect net v s e).sends))
undone_more net v s (x ∷ events) e =
    ap (λ bs. bs ++ undo_lines net x (effect net v s x).sends) (undone_more net v (effect net v s x).state events e)
    ∙ append_assoc (undo_lines net e (effect net v (state_after net v s (x ∷ events)) e).sends) (undone_lines net v (effect net v s x).state events) (undo_lines net x (effect net v s x).sends)

take_both : (events : List Event) (keep n : ℕ) → keep ≤ n → take keep events ++ drop keep (take n events) ≡ take n events
take_both events keep n h = ap (λ xs. xs ++ drop keep (take n events)) (sym (take-take keep n events h)) ∙ take-append-drop keep (take n events)

-- the lines of the events past the first keep ones: those of the last one, and then of the others
undone_step : (net : Net) (v : ℕ) (s : State) (events : List Event) (keep n : ℕ) (d : Event) → keep ≤ n → n < length events
    → undone_lines net v (state_after net v s (take keep events)) (drop keep (take (suc n) events))
    ≡ undo_lines net (get_or events n d) (effect net v (state_after net v s (take n events)) (get_or events n d)).sends
    ++ undone_lines net v (state_after net v s (take keep events)) (drop keep (take n events))
undone_step net v s events keep n d h k =
    let kept = state_after net v s (take keep events) in
    let front = take n events in
    let long : keep ≤ length front = omega (arith, length-take-le n events (omega arith)) in
    let parts : drop keep (take (suc n) events) ≡ drop keep front ++ get_or events n d ∷ [] = ap (drop keep) (take-suc events n d k) ∙ drop-append-le keep front (get_or events n d ∷ []) long in
    let after : state_after net v kept (drop keep front) ≡ state_after net v s front = sym (fold-append (λ s e. (effect net v s e).state) s (take keep events) (drop keep front))
    ∙ ap (state_after net v s) (take_both events keep n h) in
    rw (parts, undone_more net v kept (drop keep front) (get_or events n d), after) refl

shorter : (events : List Event) (left : ℕ) → left ≤ length events → take (length (take left events) - 1) (take left events) ≡ take (left - 1) events
shorter events left h = rw (length-take-le left events h) (take-take (left - 1) left events (omega arith))

-- one event less is left on the trail
pub trail_step : (t : History) (from : Router) (events : List Event) (left : ℕ) → t ≡ record { opening = from; events = take left events } → left ≤ length events
    → (let u : History = record { opening = t.opening; events = take (length t.events - 1) t.events } in u) ≡ record { opening = from; events = take (left - 1) events }
trail_step t from events left is h = rw (is, shorter events left h) refl

-- and its lines are told
pub lines_step : (t : History) (from : Router) (events : List Event) (keep left : ℕ) (d : Event) (net : Net) (whole : List ℕ) (a b c : Option (List ℕ))
    → t ≡ record { opening = from; events = take left events } → keep < left → left ≤ length events
    → IsPartway whole (undone_lines net from.node (state_after net from.node from.state (take keep events)) (drop keep (take left events))) a b
    → Appends b c (undo_lines net (get_or events (left - 1) d)
    (effect net t.opening.node (state_after net t.opening.node t.opening.state (take (length t.events - 1) t.events)) (get_or events (left - 1) d)).sends)
    → IsPartway whole (undone_lines net from.node (state_after net from.node from.state (take keep events)) (drop keep (take (left - 1) events))) a c
lines_step t from events keep left d net whole a b c is some most h added =
    let last = left - 1 in
    let e = get_or events last d in
    let P : History → Type 0 = λ u. Appends b c (undo_lines net e (effect net u.opening.node (state_after net u.opening.node u.opening.state (take (length u.events - 1) u.events)) e).sends) in
    let now : P (record { opening = from; events = take left events }) = subst P is added in
    let grown : Appends b c (undo_lines net e (effect net from.node (state_after net from.node from.state (take last events)) e).sends) = rw (shorter events left most) at now in
    let up : left ≡ suc last = omega arith in
    let before = rw up at h in
    partway_more whole _ _ _ a b c (undone_step net from.node from.state events keep last d (omega arith) (omega arith)) before grown

-- an event that the trail comes to is for its router
pub fits_now : (t : History) (from : Router) (events : List Event) (i : ℕ) (d : Event) → t ≡ record { opening = from; events = take i events } → i < length events
    → All (λ e. fits from.net from.node e ≡ true) events → fits t.opening.net t.opening.node (get_or events i d) ≡ true
fits_now t from events i d is h all = rw is (all i d h)

-- and no counter is full there
pub not_full_now : (t : History) (from : Router) (events : List Event) (i : ℕ) (d : Event) → t ≡ record { opening = from; events = take i events } → i < length events
    → IsCounted (state_after from.net from.node from.state events).counters
    → is_full t.opening.net t.opening.node (state_after t.opening.net t.opening.node t.opening.state t.events) (get_or events i d) ≡ false
not_full_now t from events i d is h within = rw is (never_full from.net from.node from.state events i d within h)

written_whole : (now : Option (List ℕ)) (text : List ℕ) → Appends (Some []) now text → now ≡ Some text
written_whole None text h = absurd h
written_whole (Some xs) text h = ap Some h

-- the four parts of what `trail` writes
pub trail_lines : (net : Net) (v : ℕ) (events : List Event) (keep : ℕ) (fresh end back : Router) (over all kept : History) (a b d e : Option (List ℕ))
    → fresh ≡ record { net = net; node = v; state = opening net v } → over ≡ record { opening = fresh; events = [] } → all ≡ record over { events = events }
    → end ≡ record all.opening { state = state_after all.opening.net all.opening.node all.opening.state all.events }
    → kept ≡ record all { events = take keep events } → back ≡ record kept.opening { state = state_after kept.opening.net kept.opening.node kept.opening.state kept.events }
    → Appends (Some []) a (line (codes "spp-trail" ∷ codes "1" ∷ [])) → Appends a b (router_line net end.node end.state)
    → Appends b d (undone_lines net all.opening.node (state_after net all.opening.node all.opening.state (take keep events)) (drop keep events))
    → Appends d e (router_line net back.node back.state) → e ≡ Some (trail_text net v events keep)
unfolding trail_text
trail_lines net v events keep fresh end back over all kept a b d e is_fresh is_over is_all is_end is_kept is_back is_a is_b is_d is_e =
    let router : Router = record { net = net; node = v; state = opening net v } in
    let as_all : all ≡ record { opening = router; events = events } = rw (is_over, is_fresh) at is_all in
    let as_end : end ≡ record router { state = state_after net v (opening net v) events } = rw as_all at is_end in
    let as_kept : kept ≡ record { opening = router; events = take keep events } = rw as_all at is_kept in
    let as_back : back ≡ record router { state = state_after net v (opening net v) (take keep events) } = rw as_kept at is_back in
    let as_b = rw as_end at is_b in
    let as_d = rw as_all at is_d in
    let as_e = rw as_back at is_e in
    let end_part = Appends-trans b d e _ _ as_d as_e in
    written_whole e _ (Appends-trans (Some []) a e _ _ is_a (Appends-trans a b e _ _ as_b end_part))
