-- A scenario with one more scene.
use Rattle.std.proofs.Common.{◌≡◌, ℕ, suc, ◌+◌, ◌≤◌, List, [], ◌∷◌, ◌++◌, length, take, Option, Some, None, Result, Err, sym, subst, ap, ◌∙◌, append_assoc, arith}
use Rattle.std.specs.List.{enumerate_from, flat_map}
use Rattle.std.proofs.lemmas.List.{append-nil, length-take-le}
use Rattle.tw_event.specs.declared.event.Event.{Event}
use Rattle.tw_event.specs.declared.event.Body.TheVariants.{Start}
use Rattle.tw_model.specs.declared.case.Scene.{Scene}
use Rattle.tw_model.specs.declared.limits.TheConstants.{LATEST_VERSION}
use Rattle.tw_model.specs.declared.memory.OrMemory.{OrMemory}
use Rattle.tw_model.specs.declared.memory.OrMemory.TheVariants.{Fault}
use Rattle.tw_model.specs.declared.rule.Rule.{Rule}
use Rattle.tw_model.specs.Case.{Case, IsCase, opening_event, opening_events, scene_events}
use Rattle.tw_model.specs.Net.{Net}
use Rattle.tw_model.specs.Rules.{scene_fault}
use Rattle.tw_model.proofs.Grown.{case_with_scene}
use Rattle.tw_instance.proofs.Told.{SaysRule}

-- the rule that is told is the one that the scene breaks
pub says_rule : (T : Type 0) (broken : Option Rule) (rule : Rule) → broken ≡ Some rule → (let e : Result T (OrMemory Rule) = Err (Fault rule) in SaysRule e broken)
says_rule T broken rule h r = (λ e. cc, λ f. cc)

-- a case of these scenes, in the latest version
abbrev pub latest_case : Net → List Scene → Case
latest_case net scenes = record { version = LATEST_VERSION; net = net; scenes = scenes }

-- a scene is judged by how many others there are
pub judged_alike : (now : Case) (net : Net) (all : List Scene) (i : ℕ) (s : Scene) → i ≤ length all → now ≡ latest_case net (take i all)
    → scene_fault now.net (length now.scenes) s ≡ scene_fault net i s
judged_alike now net all i s within is =
    ap (λ (k : Case). scene_fault k.net (length k.scenes) s) is ∙ ap (λ n. scene_fault net n s) (length-take-le i all within)

-- the events of scenes from number n on
abbrev events_from : ℕ → List Scene → List Event
events_from n scenes = flat_map (λ l. scene_events l.0 l.1) (enumerate_from n scenes)

events_more : (n : ℕ) (scenes : List Scene) (s : Scene) → events_from n (scenes ++ s ∷ []) ≡ events_from n scenes ++ scene_events (n + length scenes) s
events_more n [] s = append-nil (scene_events n s) ∙ (let e : n ≡ n + 0 = omega arith in ap (λ k. scene_events k s) e)
events_more n (x ∷ scenes) s =
    ap (λ es. scene_events n x ++ es) (events_more (n + 1) scenes s)
    ∙ (sym (append_assoc (scene_events n x) (events_from (n + 1) scenes) (scene_events (n + 1 + length scenes) s))
    ∙ (let e : n + 1 + length scenes ≡ n + suc (length scenes) = omega arith in ap (λ k. (scene_events n x ++ events_from (n + 1) scenes) ++ scene_events k s) e))

-- a scenario and its opening events with one more scene
pub record IsWithScene (net : Net) (scenes : List Scene) (events : List Event) : Type 0 where
  pub case : IsCase (latest_case net scenes)
  pub opening : events ≡ opening_events scenes

pub with_scene : (version : ℕ) (net : Net) (scenes more : List Scene) (events after : List Event) (count number : ℕ) (s : Scene) → IsCase (record { version = version; net = net; scenes = scenes }) → events ≡ opening_events scenes
    → count ≡ length scenes → scene_fault net count s ≡ None → number ≡ count + 1 → more ≡ scenes ++ s ∷ [] → after ≡ events ++ scene_events number s → IsWithScene net more after
with_scene version net scenes more events after count number s h opening long none next is done =
    let place : number ≡ 1 + length scenes = omega arith in
    let grown = events_more 1 scenes s in
    record {
      case = subst (λ ls. IsCase (latest_case net ls)) (sym is) (case_with_scene net scenes s h (subst (λ n. scene_fault net n s ≡ None) long none));
      opening = done ∙ (ap (λ es. es ++ scene_events number s) opening ∙ (ap (λ k. opening_events scenes ++ scene_events k s) place
          ∙ (ap (λ (es : List Event). opening_event 0 0 0 Start ∷ es) (sym grown) ∙ ap opening_events (sym is))));
    }
