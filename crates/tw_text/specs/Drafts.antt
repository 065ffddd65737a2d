-- What the functions return that read one line (own).
use Rattle.std.specs.Prelude.{ℕ, ◌^◌, nat_lt, Bool, not, ◌||◌, List, [], ◌∷◌, ◌++◌, length, Option, Some, Result, Ok, Err, option_map, if◌then◌else◌}
use Rattle.std.specs.List.{find, list_all}
use Rattle.std.specs.Result.{result_map_both}
use Rattle.std.specs.declared.alloc.Global.{Global}
use Rattle.std.specs.declared.vec.Vec.{Vec}
use Rattle.tw_model.specs.Case.{Case, bare_case}
use Rattle.tw_model.specs.Net.{Net, bare_net}
use Rattle.tw_model.specs.PermittedPath.{PermittedPath}
use Rattle.tw_model.specs.Rules.{link_fault, nodes_fault, path_fault, rules_in_order, scene_fault}
use Rattle.tw_model.specs.declared.case.Scene.{Scene}
use Rattle.tw_model.specs.declared.limits.TheConstants.{LATEST_VERSION}
use Rattle.tw_model.specs.declared.net.Link.{Link}
use Rattle.tw_model.specs.declared.rule.Rule.{Rule}
use Rattle.tw_model.specs.declared.rule.Rule.TheVariants.{Range}
use Rattle.tw_lines.specs.declared.text_fault.LineFault.{LineFault}
use Rattle.tw_lines.specs.declared.text_fault.LineFault.TheVariants as x
use Rattle.tw_lines.specs.Reading.{◌>>=◌}
use Rattle.tw_text.specs.declared.draft.Draft.{Draft}
use Rattle.tw_text.specs.declared.draft.Draft.TheVariants.{Start, Header, Links, Paths, Scenes, Done}
use Rattle.tw_text.specs.FaultTable.{breaks, is_done, is_misplaced, unless_fault, with_statement}
use Rattle.tw_text.specs.Statements.{Statement}

-- the items of the vector that was returned
abbrev pub result_items : {A E : Type 0} → Result (Vec A Global) E → Result (List A) E
result_items result = result_map_both (λ v. v.items) (λ e. e) result

-- the rule, as a fault of a line
abbrev pub of_rule : Option Rule → Option LineFault
of_rule broken = option_map (λ r. x.Rule r) broken

-- the lowest fault of a line that says this, from line 2 on
abbrev pub fault_after : Draft → Statement → Bool → Option LineFault
fault_after d s ended =
    if is_misplaced d s then Some x.Order
    else if not ended || is_done d then Some x.End
    else of_rule (find (breaks d s) rules_in_order)

-- the draft after a line that says this, or the lowest fault of the line
abbrev pub step_by : Draft → Statement → Bool → Result Draft LineFault
step_by d s ended = unless_fault (fault_after d s ended) (with_statement d s)

-- the draft after a line that says this, if it says something
abbrev pub step_said : Draft → Result Statement LineFault → Bool → Result Draft LineFault
step_said d said ended = said >>= λ s. step_by d s ended

-- the node with this number, if the instance has it
abbrev pub node_in : Net → ℕ → Result ℕ LineFault
node_in net n = if nat_lt n net.nodes then Ok n else Err (x.Rule Range)

-- the nodes with these numbers, if the instance has them
abbrev pub nodes_in : Net → List ℕ → Result (List ℕ) LineFault
nodes_in net ns = if list_all (λ n. nat_lt n net.nodes) ns then Ok ns else Err (x.Rule Range)

-- a place as a `u32` holds it: what is too great is 0, which is no place either
abbrev pub place_of : ℕ → ℕ
place_of n = if nat_lt n (2 ^ 32) then n else 0

-- the draft to which a path may be added, where one or a link may
abbrev pub before_paths : Draft → Draft
before_paths (Links version net) = Paths version net
before_paths d = d

-- the draft to which a scene may be added, where one or a link or a path may
abbrev pub with_scenes : Draft → Draft
with_scenes (Links version net) = Scenes version (bare_case net)
with_scenes (Paths version net) = Scenes version (bare_case net)
with_scenes d = d

-- the same, or why none may: scenes follow line 2 and not the last line, and the line has its end
abbrev pub before_scenes : Draft → Bool → Result Draft LineFault
before_scenes Start ended = Err x.Order
before_scenes (Header version) ended = Err x.Order
before_scenes (Done case) ended = Err x.End
before_scenes d ended = if ended then Ok (with_scenes d) else Err x.End

-- the draft after the last line
abbrev pub closed : Draft → Draft
closed (Scenes version case) = Done case
closed d = d

-- a number of routers that keeps the rules, as an instance
abbrev pub with_nodes : ℕ → ℕ → Result Draft LineFault
with_nodes version n = unless_fault (of_rule (nodes_fault n)) (Links version (bare_net n))

-- the instance with one more link that keeps the rules
abbrev pub with_link : ℕ → Net → Link → Result Draft LineFault
with_link version net l = unless_fault (of_rule (link_fault net l)) (Links version (record net { links = net.links ++ l ∷ [] }))

-- the instance with one more path that keeps the rules
abbrev pub with_path : ℕ → Net → PermittedPath → Result Draft LineFault
with_path version net p = unless_fault (of_rule (path_fault net p)) (Paths version (record net { permitted = net.permitted ++ p ∷ [] }))

-- the case with one more scene that keeps the rules
abbrev pub with_scene : ℕ → Case → Scene → Result Draft LineFault
with_scene version case s =
    unless_fault (of_rule (scene_fault case.net (length case.scenes) s)) (Scenes version (record case { version = LATEST_VERSION; scenes = case.scenes ++ s ∷ [] }))
