-- What a timeline's steps say of its history.
use Rattle.std.proofs.Common.{◌≡◌, ℕ, ◌<◌, ◌≤◌, ◌+◌, true, List, [], ◌∷◌, ◌++◌, length, reverse, get_or, take, nat_le, refl, ap, sym, ◌∙◌, subst, inl, inr, arith}
use Rattle.std.specs.List.{AllByRecursion}
use Rattle.std.proofs.lemmas.Bool.{and_parts}
use Rattle.std.proofs.lemmas.List.{length-map, length-reverse, reverse-append, take_all, take_more}
use Rattle.tw_event.specs.declared.event.Event.{Event}
use Rattle.tw_handlers.specs.Record.{IsHandled}
use Rattle.tw_model.specs.declared.limits.TheConstants.{LATEST}
use Rattle.tw_model.specs.Case.{bare_case}
use Rattle.tw_model.specs.Effect.{effect, fits, suits}
use Rattle.tw_model.specs.Net.{Net}
use Rattle.tw_model.specs.Rules.{IsNet}
use Rattle.tw_model.specs.State.{State}
use Rattle.tw_model.proofs.Sends.{tells_effect}
use Rattle.tw_model.proofs.Within.{suits_within}
use Rattle.tw_held.specs.Held.{AreFrom}
use Rattle.tw_shard.specs.declared.timeline.HandledEvent.{HandledEvent}
use Rattle.tw_shard.specs.Timeline.{AreNoted, events_of, known}
use Rattle.tw_sim.proofs.Members.{In}

pub reverse-push : {A : Type 0} (xs : List A) (x : A) → reverse (xs ++ x ∷ []) ≡ x ∷ reverse xs
reverse-push xs x = reverse-append xs (x ∷ [])

-- a list without its last element
pub split_last : {A : Type 0} (xs : List A) (n : ℕ) (x : A) → n + 1 ≡ length xs → x ≡ get_or xs n x → xs ≡ take n xs ++ x ∷ []
split_last xs n x h is =
    sym (take_all (n + 1) xs (omega arith)) ∙ (take_more xs n x (omega arith) ∙ ap (λ y. take n xs ++ y ∷ []) (sym is))

-- an event sends at most 64
pub few_sends : (net : Net) (v : ℕ) (s : State) (e : Event) → IsNet net → length (effect net v s e).sends ≤ 64
few_sends net v s e is = (tells_effect (bare_case net) is v s e).few

-- each of a list's elements is as each that is in it
all_in : {X : Type 0} (P : X → Type 0) (xs : List X) → ((x : X) → In x xs → P x) → AllByRecursion P xs
all_in P [] each = tt
all_in P (x ∷ xs) each = (each x (inl refl), all_in P xs (λ y there. each y (inr there)))

-- and what an event sends at a router that it fits comes from a router of the net
pub sends_from : (net : Net) (v : ℕ) (s : State) (e : Event) → IsNet net → fits net v e ≡ true → AreFrom net.nodes (effect net v s e).sends
sends_from net v s e is fit =
    let within = suits_within net v e is (and_parts (nat_le e.time LATEST) (suits net v e) fit).1 in
    all_in (λ x. x.src < net.nodes) (effect net v s e).sends
    (λ x there. let src = ((tells_effect (bare_case net) is v s e).sent x there).src in omega arith)

-- the newest step, where it stands last
pub newest_first : (items older : List HandledEvent) (d : HandledEvent) → items ≡ older ++ d ∷ [] → reverse items ≡ d ∷ reverse older
newest_first items older d is = ap reverse is ∙ reverse-push older d

-- the newest step was handled with its record
pub newest_noted : (net : Net) (v : ℕ) (past : List Event) (items older : List HandledEvent) (d : HandledEvent) (present : State)
    → items ≡ older ++ d ∷ [] → AreNoted net v past (reverse items) → present ≡ known net v (events_of (reverse items) ++ past)
    → IsHandled net v (known net v (events_of (reverse older) ++ past)) d.event d.note present
newest_noted net v past items older d present is noted now =
    let first = newest_first items older d is in
    let at : AreNoted net v past (d ∷ reverse older) = subst (AreNoted net v past) first noted in
    let known_is : known net v (d.event ∷ events_of (reverse older) ++ past) ≡ present =
    ap (λ steps. known net v (events_of steps ++ past)) (sym first) ∙ sym now in
    subst (IsHandled net v (known net v (events_of (reverse older) ++ past)) d.event d.note) known_is at.0

-- as many steps as events that can be undone
pub length-events : (items : List HandledEvent) → length (events_of (reverse items)) ≡ length items
length-events items = length-map (reverse items) (λ d. d.event) ∙ length-reverse items
