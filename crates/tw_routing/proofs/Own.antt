-- What is said of a router of a case by its own net and number is said of the case and of the receiver of its event.
use Rattle.std.proofs.Common.{◌≡◌, ℕ, ◌<◌, ◌≤◌, ◌++◌, ◌↔◌, ◌∙◌, Bool, true, nat_le, List, [], Err, ap, arith, refl, subst, sym}
use Rattle.std.proofs.lemmas.Bool.{and_from, le-leb}
use Rattle.std.specs.Result.{IsErrOf}
use Rattle.tw_event.specs.declared.event.Event.{Event}
use Rattle.tw_handlers.specs.Calls.{counter_full, effect_at, is_full_at}
use Rattle.tw_handlers.specs.declared.fault.CounterFull.{CounterFull}
use Rattle.tw_handlers.specs.Record.{CameFrom, IsHandled}
use Rattle.tw_handlers.specs.Undo.{sends_again}
use Rattle.tw_handlers.proofs.Handled.{sends_again-handled}
use Rattle.tw_event.specs.declared.record.UndoRecord.{UndoRecord}
use Rattle.tw_model.specs.Case.{Case}
use Rattle.tw_model.specs.Effect.{effect, fits, is_full, suits}
use Rattle.tw_model.specs.State.{Router, State}
use Rattle.tw_model.specs.declared.limits.TheConstants.{LATEST}
use Rattle.tw_model.specs.declared.memory.OrMemory.{OrMemory}
use Rattle.tw_model.specs.declared.memory.OrMemory.TheVariants.{Fault}
use Rattle.tw_process.specs.declared.refused.Refused.{Refused}
use Rattle.tw_process.specs.declared.refused.Refused.TheVariants as refused
use Rattle.tw_routing.specs.Routing.{IsNoted, IsRouterOf}

-- where handling is refused, a full counter is told exactly where one is full
pub full_told : {T U : Type 0} (fault : OrMemory CounterFull) (why : Refused) (b d : Bool) → b ≡ d → ((why ≡ refused.CounterFull) ↔ (fault ≡ Fault counter_full))
    → (IsErrOf {T = T} (Err fault) (Fault counter_full) ↔ (b ≡ true)) → IsErrOf {T = U} (Err why) refused.CounterFull ↔ (d ≡ true)
full_told fault why b d same to told = (
  (λ k. (let is : why ≡ refused.CounterFull = cc in sym same ∙ told.0 (ap Err (to.0 is)))),
  (λ t. (let k = told.1 (same ∙ t) in let is : fault ≡ Fault counter_full = cc in ap Err (to.1 is))),
)

module _ (case : Case) (r : ℕ) (router : Router) (own : IsRouterOf case r router) (e : Event) (home : e.dst ≡ r) where
  -- the router, by the case and the receiver
  pub router_is : (s : State) → router.state ≡ s → router ≡ record { net = case.net; node = e.dst; state = s }
  router_is s known = λ i. record { net = own.net i; node = (own.node ∙ sym home) i; state = known i }

  -- what the event does there, and whether it would pass a counter's limit
  pub effect_is : effect_at router e ≡ effect case.net e.dst router.state e
  effect_is = ap (λ x. effect_at x e) (router_is router.state refl)

  pub full_is : is_full_at router e ≡ is_full case.net e.dst router.state e
  full_is = ap (λ x. is_full_at x e) (router_is router.state refl)

  -- an event that suits and is early enough fits
  pub fits_there : suits case.net e.dst e ≡ true → e.time < LATEST → fits router.net router.node e ≡ true
  fits_there suit soon =
      let early : e.time ≤ LATEST = omega (arith, soon) in
      ap (λ x. fits x.net x.node e) (router_is router.state refl) ∙ and_from (nat_le e.time LATEST) (suits case.net e.dst e) (le-leb e.time LATEST early) suit

  -- where it handled the event, the record says so
  pub noted : (s : State) (note : UndoRecord) → IsHandled router.net router.node router.state e note s → s ≡ (effect case.net e.dst router.state e).state → IsNoted case router.state e note
  noted s note handled is =
      subst (λ x. IsHandled x.net x.node x.state e note (effect case.net e.dst router.state e).state) (router_is router.state refl)
      (subst (λ present. IsHandled router.net router.node router.state e note present) is handled)

  -- and the router came from what it knew before
  pub came_from : (s : State) (note : UndoRecord) → IsNoted case s e note → router.state ≡ (effect case.net e.dst s e).state → CameFrom router e note s
  came_from s note h known = subst (λ x. CameFrom x e note s) (sym (router_is (effect case.net e.dst s e).state known)) h

  -- and what it sends again it had sent
  pub sent_is : (s : State) (note : UndoRecord) → IsNoted case s e note → router.state ≡ (effect case.net e.dst s e).state
      → sends_again router.net router.node router.state e e.body note ≡ (effect case.net e.dst s e).sends
  sent_is s note h known =
      ap (λ x. sends_again x.net x.node x.state e e.body note) (router_is (effect case.net e.dst s e).state known)
      ∙ sends_again-handled case.net e.dst s e note (effect case.net e.dst s e).state h

  -- what was put into an empty list
  pub all_sent : (before after : List Event) → before ≡ [] → after ≡ before ++ (effect_at router e).sends → after ≡ (effect case.net e.dst router.state e).sends
  all_sent before after nothing to = to ∙ (ap (λ xs. xs ++ (effect_at router e).sends) nothing ∙ ap (λ x. x.sends) effect_is)
