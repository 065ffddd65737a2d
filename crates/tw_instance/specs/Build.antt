-- The items of an instance or of a case in the order in which they are judged, and what a build of them may answer (own).
use Rattle.std.specs.Prelude.{ℕ, ◌+◌, ◌≡◌, List, [], ◌∷◌, ◌++◌, Option, Some, None, Result, Ok, Err, ◌⊎◌, codes, decimal}
use Rattle.std.specs.List.{All}
use Rattle.tw_model.specs.declared.case.Scene.{Scene as AScene}
use Rattle.tw_model.specs.declared.memory.OrMemory.TheVariants.{Fault, Memory}
use Rattle.tw_model.specs.declared.net.Link.{Link as ALink}
use Rattle.tw_model.specs.declared.rule.Rule.{Rule}
use Rattle.tw_model.specs.PermittedPath.{PermittedPath}
use Rattle.tw_model.specs.Net.{Net, bare_net}
use Rattle.tw_model.specs.Rules.{case_fault, link_fault, nodes_fault, path_fault, scene_fault}
use Rattle.tw_instance.specs.declared.refusal.At.{At}
use Rattle.tw_instance.specs.declared.refusal.Item.{Item}
use Rattle.tw_instance.specs.declared.refusal.Item.TheVariants.{Nodes, Link, Path, Start, Scene, Whole}

-- the words of an item
abbrev pub item_text : Item → List ℕ
item_text Nodes = codes "nodes"
item_text (Link n) = codes "link " ++ decimal n
item_text (Path n) = codes "path " ++ decimal n
item_text Start = codes "start"
item_text (Scene n) = codes "scene " ++ decimal n
item_text Whole = codes "whole"

-- an item, and the first rule that it breaks after the items before it
abbrev pub JudgedItem : Type 0
JudgedItem = Item × Option Rule

-- links that follow those of the net; the first of them is number k
abbrev pub judged_links : Net → ℕ → List ALink → List JudgedItem
judged_links net k [] = []
judged_links net k (l ∷ links) = (Link k, link_fault net l) ∷ judged_links (record net { links = net.links ++ l ∷ [] }) (k + 1) links

-- permitted paths that follow those of the net; the first of them is number k
abbrev pub judged_paths : Net → ℕ → List PermittedPath → List JudgedItem
judged_paths net k [] = []
judged_paths net k (p ∷ paths) = (Path k, path_fault net p) ∷ judged_paths (record net { permitted = net.permitted ++ p ∷ [] }) (k + 1) paths

-- scenes that follow so many others
abbrev pub judged_scenes : Net → ℕ → List AScene → List JudgedItem
judged_scenes net count [] = []
judged_scenes net count (s ∷ scenes) = (Scene (count + 1), scene_fault net count s) ∷ judged_scenes net (count + 1) scenes

-- the items of a whole instance: the number of routers, the links, the permitted paths
abbrev pub judged_instance : ℕ → List ALink → List PermittedPath → List JudgedItem
judged_instance nodes links paths =
    let of_links = judged_links (bare_net nodes) 1 links in
    let of_paths = judged_paths (record { nodes = nodes; links = links; permitted = [] }) 1 paths in
    (Nodes, nodes_fault nodes) ∷ of_links ++ of_paths

-- the scenes of a case, and behind them the whole of it in a version
abbrev pub judged_scenario : ℕ → Net → List AScene → List JudgedItem
judged_scenario version net scenes = judged_scenes net 0 scenes ++ (Whole, case_fault version net scenes) ∷ []

-- the items of a whole case: the start of the origin, which breaks no rule, the scenes, and the whole of it in a version
abbrev pub judged_case : ℕ → Net → List AScene → List JudgedItem
judged_case version net scenes = (Start, None) ∷ judged_scenario version net scenes

-- none of these items breaks a rule
abbrev pub NoneBreaks : List JudgedItem → Type 0
NoneBreaks items = All (λ item. item.1 ≡ None) items

-- memory was refused for this item; to judge the whole of a case takes none
abbrev pub LacksMemory : Item → At → Type 0
LacksMemory Whole at = ⊥
LacksMemory item at = at ≡ record { item = item; fault = Memory }

-- a build was refused at the first item that breaks a rule, or at one before it, for which memory was refused
abbrev pub IsRefusedAt : List JudgedItem → At → Type 0
IsRefusedAt [] at = ⊥
IsRefusedAt ((item, Some rule) ∷ items) at = at ≡ record { item = item; fault = Fault rule }
IsRefusedAt ((item, None) ∷ items) at = LacksMemory item at ⊎ IsRefusedAt items at

-- what was returned tells of these items: none breaks a rule, or where and why the build was refused
abbrev pub TellsOf : {T : Type 0} → Result T At → List JudgedItem → Type 0
TellsOf (Ok x) items = NoneBreaks items
TellsOf (Err at) items = IsRefusedAt items at
