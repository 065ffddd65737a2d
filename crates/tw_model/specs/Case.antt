-- A case: an instance with a scenario, its opening events and its simulation (own).
use Rattle.std.specs.Prelude.{ℕ, ◌≡◌, List, [], ◌∷◌, None}
use Rattle.std.specs.List.{enumerate_from, flat_map}
use Rattle.std.specs.Ordering.{is_eq, is_lt}
use Rattle.tw_event.specs.declared.event.Body.{Body}
use Rattle.tw_event.specs.declared.event.Body.TheVariants as body
use Rattle.tw_event.specs.declared.event.Event.{Event}
use Rattle.tw_event.specs.Order.{event_cmp}
use Rattle.tw_model.specs.declared.case.Scene.{Scene}
use Rattle.tw_model.specs.declared.case.Scene.TheVariants as scene
use Rattle.tw_model.specs.declared.limits.TheConstants.{LATEST_VERSION, MOST_COUNTED, MOST_LINKS}
use Rattle.tw_model.specs.Net.{Net, no_net}
use Rattle.tw_model.specs.Rules.{IsNet, ScenesFollow, case_fault}
use Rattle.tw_model.specs.State.{State, opening}
use Rattle.tw_model.specs.Effect.{effect, is_full, suits}
use Rattle.tw_sim.specs.Simulation.{Simulation}

-- an instance, and what happens to it; the version of its text
pub record Case : Type 0 where
  pub version : ℕ
  pub net : Net
  pub scenes : List Scene

-- an instance to which nothing happens, in the latest version
abbrev pub bare_case : Net → Case
bare_case net = record { version = LATEST_VERSION; net = net; scenes = [] }

-- what stands where there is no case
abbrev pub no_case : Case
no_case = bare_case no_net

-- a case that keeps the rules
pub record IsCase (case : Case) : Type 0 where
  pub net : IsNet case.net
  pub scenes : ScenesFollow case.net 0 case.scenes
  pub version : case_fault case.version case.net case.scenes ≡ None

-- the opening event of scenario line n at router v
abbrev pub opening_event : ℕ → ℕ → ℕ → Body → Event
opening_event n t v b = record { time = t; dst = v; src = v; seq = n; body = b }

-- the opening events of scenario line n: of a link one at each end
abbrev pub scene_events : ℕ → Scene → List Event
scene_events n (scene.Fail t a b) = opening_event n t a (body.Fail b) ∷ opening_event n t b (body.Fail a) ∷ []
scene_events n (scene.Restore t a b) = opening_event n t a (body.Restore b) ∷ opening_event n t b (body.Restore a) ∷ []
scene_events n (scene.Swap t v i j) = opening_event n t v (body.Swap i j) ∷ []
scene_events n (scene.Forbid t v k) = opening_event n t v (body.Forbid k) ∷ []
scene_events n (scene.Allow t v k) = opening_event n t v (body.Allow k) ∷ []

-- the origin starts at time 0; then the events of each scenario line
abbrev pub opening_events : List Scene → List Event
opening_events scenes = opening_event 0 0 0 body.Start ∷ flat_map (λ l. scene_events l.0 l.1) (enumerate_from 1 scenes)

-- what a case simulates
abbrev pub simulation : Case → Simulation State Event
simulation case = record {
  time = λ e. e.time;
  dst = λ e. e.dst;
  src = λ e. e.src;
  seq = λ e. e.seq;
  same = λ d e. is_eq (event_cmp d e);
  before = λ d e. is_lt (event_cmp d e);
  start = opening case.net;
  after = λ s e. (effect case.net e.dst s e).state;
  sends = λ s e. (effect case.net e.dst s e).sends;
  opening = opening_events case.scenes;
  routers = case.net.nodes;
  most = MOST_LINKS;
  suits = λ e. suits case.net e.dst e;
  number = λ s. s.counters.sent;
  limit = MOST_COUNTED;
  full = λ s e. is_full case.net e.dst s e;
}
