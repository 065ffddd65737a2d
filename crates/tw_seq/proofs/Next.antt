-- What is known of the least pending event of a run before it is handled, and of the run afterwards.
use Rattle.std.proofs.Common.{◌≡◌, ℕ, ◌<◌, ◌≤◌, ◌==◌, nat_le, Bool, true, not, List, [], ◌∷◌, ◌++◌, length, reverse, set, ap, sym, ◌∙◌, subst, arith, if◌then◌else◌}
use Rattle.std.specs.List.{AllByRecursion}
use Rattle.std.proofs.lemmas.Bool.{and_from, le-leb}
use Rattle.tw_event.specs.declared.event.Event.{Event}
use Rattle.tw_model.specs.declared.limits.TheConstants.{LATEST, MOST_LINKS}
use Rattle.tw_model.specs.Effect.{fits, suits}
use Rattle.tw_model.specs.Quiet.{changes, last_change}
use Rattle.tw_model.specs.State.{Router}
use Rattle.tw_model.proofs.Lawful.{lawful}
use Rattle.tw_model.proofs.Within.{suits_within}
use Rattle.tw_seq.specs.Run.{IsBegun, IsNext, IsStuck, Run, router_after, routers_after}
use Rattle.tw_handlers.specs.Calls.{after_event, effect_at, is_full_at}
use Rattle.tw_seq.specs.Turn.{receiver}
use Rattle.tw_seq.proofs.Handled.{get_or-routers, last_change-push, length-routers, set-routers}
use Rattle.tw_seq.proofs.Homes.{least_suits, sends_home, sends_of}

-- e is the next event of a run with these routers
pub record IsReady (run : Run) (routers : List Router) (e : Event) : Type 0 where
  pub begun : IsBegun run
  pub are : routers ≡ routers_after run.case run.events
  pub next : IsNext run e

module _ {run : Run} {routers : List Router} {e : Event} (ready : IsReady run routers e) where
  suits_own : suits run.case.net e.dst e ≡ true
  suits_own = least_suits run e ready.next.0 (lawful run.case ready.begun.case) ready.begun ready.next.1

  within : e.dst < run.case.net.nodes
  within = suits_within run.case.net e.dst e ready.begun.case.net suits_own

  pub next_within : e.dst < length routers
  next_within = subst (λ n. e.dst < n) (sym (ap length ready.are ∙ length-routers run.case run.events)) within

  -- its router is as the events before it left it
  pub next_router : receiver routers e ≡ router_after run.case run.events e.dst
  next_router = ap (λ rs. receiver rs e) ready.are ∙ get_or-routers run.case run.events e.dst _ within

  pub next_net : (receiver routers e).net ≡ run.case.net
  next_net = ap (λ r. r.net) next_router

  pub next_fits : run.stop ≤ LATEST → fits (receiver routers e).net (receiver routers e).node e ≡ true
  next_fits h =
      let early : e.time ≤ LATEST = omega (arith, ready.next.2) in
      subst (λ r. fits r.net r.node e ≡ true) (sym next_router)
      (and_from (nat_le e.time LATEST) (suits run.case.net e.dst e) (le-leb e.time LATEST early) suits_own)

  pub next_stuck : is_full_at (receiver routers e) e ≡ true → IsStuck run
  next_stuck h = (e, ready.next, subst (λ r. is_full_at r e ≡ true) next_router h)

  -- where the run is stuck, this event is the one that is full
  pub next_full : IsStuck run → is_full_at (receiver routers e) e ≡ true
  next_full stuck =
      let same : stuck.0 ≡ e = cc (stuck.1.1, ready.next.1) in
      subst (λ r. is_full_at r e ≡ true) (sym next_router)
      (subst (λ x. is_full_at (router_after run.case run.events x.dst) x ≡ true) same stuck.2)

  -- its sends
  pub next_sends : (effect_at (receiver routers e) e).sends ≡ sends_of run e
  next_sends = ap (λ r. (effect_at r e).sends) next_router

  pub next_homes : (sends : List Event) (n : ℕ) → sends ≡ (effect_at (receiver routers e) e).sends → n ≡ run.case.net.nodes
      → AllByRecursion (λ x. x.dst < n) sends
  next_homes sends n is count =
      subst (λ k. AllByRecursion (λ x. x.dst < k) sends) (sym count)
      (subst (AllByRecursion (λ x. x.dst < run.case.net.nodes)) (sym (is ∙ next_sends))
      (sends_home run e ready.next.0 (lawful run.case ready.begun.case) ready.begun ready.next.1 ready.next.2))

  -- there are at most 64
  pub next_few : (sends : List Event) → sends ≡ (effect_at (receiver routers e) e).sends → length sends ≤ MOST_LINKS
  next_few sends is =
      subst (λ xs. length xs ≤ MOST_LINKS) (sym (is ∙ next_sends)) ((lawful run.case ready.begun.case).few (router_after run.case run.events e.dst).state e)

  -- every router afterwards
  pub next_routers : set routers e.dst (after_event (receiver routers e) e) ≡ routers_after run.case (run.events ++ e ∷ [])
  next_routers =
      ap (λ r. set routers e.dst (after_event r e)) next_router
      ∙ (ap (λ rs. set rs e.dst (after_event (router_after run.case run.events e.dst) e)) ready.are ∙ set-routers run.case run.events e within)

  -- whether the event changes a path
  pub next_changes : (changed : Bool) → changed ≡ not ((receiver routers e).state.rib.0 == (after_event (receiver routers e) e).state.rib.0)
      → changed ≡ changes run.case e (reverse run.events)
  next_changes changed is = is ∙ ap (λ r. not (r.state.rib.0 == (after_event r e).state.rib.0)) next_router

  -- the last change afterwards
  pub next_change : (changed : Bool) → changed ≡ not ((receiver routers e).state.rib.0 == (after_event (receiver routers e) e).state.rib.0)
      → (if changed then e.time else last_change run.case (reverse run.events)) ≡ last_change run.case (reverse (run.events ++ e ∷ []))
  next_change changed is =
      ap (λ b. if b then e.time else last_change run.case (reverse run.events)) (is ∙ ap (λ r. not (r.state.rib.0 == (after_event r e).state.rib.0)) next_router)
      ∙ sym (last_change-push run.case run.events e)
