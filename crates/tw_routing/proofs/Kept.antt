-- A case as a model is the case's own simulation, and keeps what every model keeps.
use Rattle.std.proofs.Common.{◌≡◌, ◌≤◌, arith, length, subst, sym}
use Rattle.tw_event.specs.declared.event.Event.{Event}
use Rattle.tw_event.proofs.Order.{event_order}
use Rattle.tw_event.specs.contracts.event.EventOrd.TheImpl as event_ord
use Rattle.tw_model.proofs.Lawful.{lawful, numbered}
use Rattle.tw_model.specs.Case.{Case, IsCase, simulation}
use Rattle.tw_model.specs.Effect.{effect}
use Rattle.tw_model.specs.State.{State}
use Rattle.tw_model.specs.declared.limits.TheConstants.{MOST_LINKS}
use Rattle.tw_process.specs.Behaviour.{IsBehaved, simulation_of}
use Rattle.tw_process.specs.Routing.{routing_parts}
use Rattle.tw_routing.specs.Routing.{routing_behaviour}
use Rattle.tw_sim.specs.Simulation.{IsNumbered}

-- the comparisons of the code are those of the definition
pub is_simulation : (case : Case) → simulation_of routing_parts event_ord.ghosts.cmp (routing_behaviour case) ≡ simulation case
is_simulation case = λ i. simulation_of routing_parts (λ d e. event_order d e i) (routing_behaviour case)

module _ (case : Case) (is : IsCase case) where
  own_behaved : IsBehaved (simulation case) 1
  own_behaved =
      let law = lawful case is in
      record {
        positive = omega arith;
        ahead = λ s e x h. (let late = law.later s e x h in omega arith);
        sender = law.sender;
        few = law.few;
        suit_opening = law.suit_opening;
        suit_sends = law.suit_sends;
        receiver = law.receiver;
        opener = law.opener;
      }

  pub behaved : IsBehaved (simulation_of routing_parts event_ord.ghosts.cmp (routing_behaviour case)) 1
  behaved = subst (λ m. IsBehaved m 1) (sym (is_simulation case)) own_behaved

  pub numbers : IsNumbered (simulation_of routing_parts event_ord.ghosts.cmp (routing_behaviour case))
  numbers = subst (λ m. IsNumbered m) (sym (is_simulation case)) (numbered case is)

  -- an event sends at most as many as a router has links
  pub few : (s : State) (e : Event) → length (effect case.net e.dst s e).sends ≤ MOST_LINKS
  few s e = (lawful case is).few s e
