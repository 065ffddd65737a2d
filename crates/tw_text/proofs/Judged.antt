-- The items of a case break no rule when they are judged once more, nor in the latest version.
use Rattle.std.proofs.Common.{◌≡◌, ℕ, ◌+◌, List, [], ◌∷◌, ◌++◌, None, Some, Option, refl, inl, inr, ap, subst, ◌∙◌}
use Rattle.std.proofs.lemmas.List.Elements.{All-append, All-cons, All-head, All-nil, All-tail}
use Rattle.tw_model.specs.Case.{Case, IsCase, simulation}
use Rattle.tw_model.specs.declared.case.Scene.{Scene}
use Rattle.tw_model.specs.declared.limits.TheConstants.{LATEST_VERSION}
use Rattle.tw_model.specs.declared.memory.OrMemory.TheVariants.{Memory}
use Rattle.tw_model.specs.declared.net.Link.{Link as ALink}
use Rattle.tw_model.specs.declared.rule.Rule.{Rule}
use Rattle.tw_model.specs.Net.{Net, bare_net}
use Rattle.tw_model.specs.PermittedPath.{PermittedPath}
use Rattle.tw_model.specs.Rules.{IsNet, LinksFollow, PathsFollow, ScenesFollow, case_fault, link_fault, nodes_fault, path_fault, scene_fault}
use Rattle.tw_instance.specs.Build.{IsRefusedAt, JudgedItem, LacksMemory, NoneBreaks, judged_case, judged_instance, judged_links, judged_paths, judged_scenes}
use Rattle.tw_instance.specs.declared.refusal.At.{At}
use Rattle.tw_instance.specs.declared.refusal.Item.{Item}
use Rattle.tw_instance.specs.declared.refusal.Item.TheVariants.{Link, Nodes, Path, Scene as SceneItem, Start, Whole}
use Rattle.tw_text.specs.Upgraded.{upgraded}

-- an item that breaks no rule, before others that break none
none_first : (item : Item) (broken : Option Rule) (items : List JudgedItem) → broken ≡ None → NoneBreaks items → NoneBreaks ((item, broken) ∷ items)
none_first item broken items none h = All-cons (λ item. item.1 ≡ None) (item, broken) items none h

links_break_none : (net : Net) (k : ℕ) (links : List ALink) → LinksFollow net links → NoneBreaks (judged_links net k links)
links_break_none net k [] h = All-nil (λ item. item.1 ≡ None)
links_break_none net k (l ∷ links) h =
    none_first (Link k) (link_fault net l) _ h.0 (links_break_none (record net { links = net.links ++ l ∷ [] }) (k + 1) links h.1)

paths_break_none : (net : Net) (k : ℕ) (paths : List PermittedPath) → PathsFollow net paths → NoneBreaks (judged_paths net k paths)
paths_break_none net k [] h = All-nil (λ item. item.1 ≡ None)
paths_break_none net k (p ∷ paths) h =
    none_first (Path k) (path_fault net p) _ h.0 (paths_break_none (record net { permitted = net.permitted ++ p ∷ [] }) (k + 1) paths h.1)

scenes_break_none : (net : Net) (count : ℕ) (scenes : List Scene) → ScenesFollow net count scenes → NoneBreaks (judged_scenes net count scenes)
scenes_break_none net count [] h = All-nil (λ item. item.1 ≡ None)
scenes_break_none net count (s ∷ scenes) h =
    none_first (SceneItem (count + 1)) (scene_fault net count s) _ h.0 (scenes_break_none net (count + 1) scenes h.1)

pub instance_breaks_none : (net : Net) → IsNet net → NoneBreaks (judged_instance net.nodes net.links net.permitted)
instance_breaks_none net is =
    let links = judged_links (bare_net net.nodes) 1 net.links in
    let paths = judged_paths (record { nodes = net.nodes; links = net.links; permitted = [] }) 1 net.permitted in
    none_first Nodes (nodes_fault net.nodes) (links ++ paths) is.nodes
    (All-append (λ (item : JudgedItem). item.1 ≡ None) links paths (links_break_none _ 1 net.links is.links) (paths_break_none _ 1 net.permitted is.permitted))

pub case_breaks_none : (c : Case) → IsCase c → NoneBreaks (judged_case LATEST_VERSION c.net c.scenes)
case_breaks_none c is =
    let scenes = judged_scenes c.net 0 c.scenes in
    let whole = case_fault LATEST_VERSION c.net c.scenes in
    let last = none_first Whole whole [] refl (All-nil (λ item. item.1 ≡ None)) in
    none_first Start None (scenes ++ (Whole, whole) ∷ []) refl
    (All-append (λ (item : JudgedItem). item.1 ≡ None) scenes ((Whole, whole) ∷ []) (scenes_break_none c.net 0 c.scenes is.scenes) last)

lacks_memory : (item : Item) (at : At) → LacksMemory item at → at.fault ≡ Memory
lacks_memory Nodes at h = rw h refl
lacks_memory (Link n) at h = rw h refl
lacks_memory (Path n) at h = rw h refl
lacks_memory Start at h = rw h refl
lacks_memory (SceneItem n) at h = rw h refl
lacks_memory Whole at h = absurd h

-- so a build of them is refused for want of memory alone
pub only_memory : (items : List JudgedItem) (at : At) → NoneBreaks items → IsRefusedAt items at → at.fault ≡ Memory
only_memory [] at none h = absurd h
only_memory ((item, None) ∷ items) at none (inl e) = lacks_memory item at e
only_memory ((item, None) ∷ items) at none (inr h) = only_memory items at (All-tail (λ item. item.1 ≡ None) (item, None) items none) h
only_memory ((item, Some r) ∷ items) at none h = absurd (let e = All-head (λ item. item.1 ≡ None) (item, Some r) items none in cc)

-- a case in the latest version keeps the rules
pub upgraded_is_case : (c : Case) → IsCase c → IsCase (upgraded c)
upgraded_is_case c is = record { net = is.net; scenes = is.scenes; version = refl }

-- what simulates a case is what simulates one of its instance and its scenario
pub same_run : (c k : Case) (net given : Net) (scenes told : List Scene) → c ≡ record { version = LATEST_VERSION; net = net; scenes = scenes } → net ≡ given → given ≡ k.net
    → scenes ≡ told → told ≡ k.scenes → simulation c ≡ simulation k
same_run c k net given scenes told is copied of_case kept of_scenario =
    let one = ap (λ n. simulation (record { version = LATEST_VERSION; net = n; scenes = scenes })) (copied ∙ of_case) in
    let two = ap (λ ss. simulation (record { version = LATEST_VERSION; net = k.net; scenes = ss })) (kept ∙ of_scenario) in
    ap simulation is ∙ (one ∙ two)

-- a build of an instance is refused for want of memory alone
pub instance_only_memory : (net : Net) (nodes : ℕ) (links given : List ALink) (paths told : List PermittedPath) (at : At) → IsNet net → nodes ≡ net.nodes
    → links ≡ given → given ≡ net.links → paths ≡ told → told ≡ net.permitted → IsRefusedAt (judged_instance nodes links paths) at → at.fault ≡ Memory
instance_only_memory net nodes links given paths told at is of_nodes copied of_links kept of_paths refused =
    let same = ap (λ n. judged_instance n links paths) of_nodes
    ∙ (ap (λ ls. judged_instance net.nodes ls paths) (copied ∙ of_links) ∙ ap (judged_instance net.nodes net.links) (kept ∙ of_paths)) in
    only_memory (judged_instance net.nodes net.links net.permitted) at (instance_breaks_none net is) (subst (λ items. IsRefusedAt items at) same refused)

-- and so is a build of a case
pub case_only_memory : (k : Case) (net given : Net) (scenes told : List Scene) (at : At) → IsCase k → net ≡ given → given ≡ k.net → scenes ≡ told → told ≡ k.scenes
    → IsRefusedAt (judged_case LATEST_VERSION net scenes) at → at.fault ≡ Memory
case_only_memory k net given scenes told at is copied of_case kept of_scenario refused =
    let same = ap (λ n. judged_case LATEST_VERSION n scenes) (copied ∙ of_case) ∙ ap (judged_case LATEST_VERSION k.net) (kept ∙ of_scenario) in
    only_memory (judged_case LATEST_VERSION k.net k.scenes) at (case_breaks_none k is) (subst (λ items. IsRefusedAt items at) same refused)
