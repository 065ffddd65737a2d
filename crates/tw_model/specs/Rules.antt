-- The rules of an instance and of a scenario, item by item: each item is judged against those before it (own).
use Rattle.std.specs.Prelude.{ℕ, ◌+◌, ◌≡◌, ◌==◌, nat_lt, nat_le, Bool, true, false, not, ◌||◌, ◌&&◌, List, [], ◌∷◌, ◌++◌, length, reverse, Option, None}
use Rattle.std.specs.List.{filter, find, list_any, list_all}
use Rattle.tw_model.specs.declared.case.Scene.{Scene}
use Rattle.tw_model.specs.declared.case.Scene.TheVariants.{Allow, Fail, Forbid, Restore, Swap}
use Rattle.tw_model.specs.declared.limits.TheConstants.{LATEST, LATEST_VERSION, LONGEST_DELAY, MOST_LINKS, MOST_NODES, MOST_PATHS, MOST_ROUTERS, MOST_SCENES}
use Rattle.tw_model.specs.declared.net.Link.{Link}
use Rattle.tw_model.specs.declared.rule.Rule.{Rule}
use Rattle.tw_model.specs.declared.rule.Rule.TheVariants.{Range, SelfLink, TwiceLink, Delay, PathOwner, PathEnd, PathRepeats, PathNoLink, TwicePath, TooMany, NoSuchLink, NoSuchPlace, Time, Version}
use Rattle.tw_model.specs.PermittedPath.{PermittedPath}
use Rattle.tw_model.specs.Net.{Net, joins, same_path, begins_at, paths_of}

-- whether the number is in low to high
abbrev pub is_within : ℕ → ℕ → ℕ → Bool
is_within low high n = nat_le low n && nat_le n high

-- whether a link joins v and w
abbrev pub is_linked : List Link → ℕ → ℕ → Bool
is_linked links v w = list_any (joins v w) links

-- how many links v has
abbrev pub degree : List Link → ℕ → ℕ
degree links v = length (filter (λ l. l.first == v || l.second == v) links)

-- how many permitted paths were given for v
abbrev pub path_count : List PermittedPath → ℕ → ℕ
path_count paths v = length (filter (λ p. p.owner == v) paths)

-- whether the last node is v
abbrev pub ends_at : List ℕ → ℕ → Bool
ends_at p v = begins_at (reverse p) v

-- whether a node stands twice in the path
abbrev pub repeats : List ℕ → Bool
repeats [] = false
repeats (v ∷ p) = list_any (λ w. w == v) p || repeats p

-- whether two neighbouring nodes of the path have no link
abbrev pub leaves_links : List Link → List ℕ → Bool
leaves_links links [] = false
leaves_links links (v ∷ []) = false
leaves_links links (v ∷ w ∷ p) = not (is_linked links v w) || leaves_links links (w ∷ p)

-- the rules that a number of routers breaks
abbrev pub nodes_break : ℕ → Rule → Bool
nodes_break n Range = not (is_within 1 MOST_ROUTERS n)
nodes_break n r = false

-- the rules that a link breaks after those of the net
abbrev pub link_breaks : Net → Link → Rule → Bool
link_breaks net l Range = not (nat_lt l.first net.nodes && nat_lt l.second net.nodes)
link_breaks net l SelfLink = l.first == l.second
link_breaks net l TwiceLink = is_linked net.links l.first l.second
link_breaks net l Delay = not (is_within 1 LONGEST_DELAY l.delay && is_within 1 LONGEST_DELAY l.back)
link_breaks net l TooMany = nat_le MOST_LINKS (degree net.links l.first) || nat_le MOST_LINKS (degree net.links l.second)
link_breaks net l r = false

-- the rules that a permitted path breaks after those of the net
abbrev pub path_breaks : Net → PermittedPath → Rule → Bool
path_breaks net p Range = not (nat_lt p.owner net.nodes && list_all (λ v. nat_lt v net.nodes) p.nodes)
path_breaks net p PathOwner = p.owner == 0 || not (begins_at p.nodes p.owner)
path_breaks net p PathEnd = not (ends_at p.nodes 0)
path_breaks net p PathRepeats = repeats p.nodes
path_breaks net p PathNoLink = leaves_links net.links p.nodes
path_breaks net p TwicePath = list_any (λ q. q.owner == p.owner && same_path q.nodes p.nodes) net.permitted
path_breaks net p TooMany = nat_le MOST_PATHS (path_count net.permitted p.owner) || nat_lt MOST_NODES (length p.nodes)
path_breaks net p r = false

-- whether v's order has the place, from 1
abbrev pub has_place : Net → ℕ → ℕ → Bool
has_place net v i = is_within 1 (length (paths_of net v)) i

-- whether a path was given for v at this place, from 1; the origin was given none
abbrev pub has_line : Net → ℕ → ℕ → Bool
has_line net v k = not (v == 0) && has_place net v k

-- the rules that a scenario line breaks after count others
abbrev pub scene_breaks : Net → ℕ → Scene → Rule → Bool
scene_breaks net count (Fail t a b) Range = not (nat_lt a net.nodes && nat_lt b net.nodes)
scene_breaks net count (Fail t a b) NoSuchLink = not (is_linked net.links a b)
scene_breaks net count (Fail t a b) Time = nat_lt LATEST t
scene_breaks net count (Restore t a b) Range = not (nat_lt a net.nodes && nat_lt b net.nodes)
scene_breaks net count (Restore t a b) NoSuchLink = not (is_linked net.links a b)
scene_breaks net count (Restore t a b) Time = nat_lt LATEST t
scene_breaks net count (Swap t v i j) Range = not (nat_lt v net.nodes)
scene_breaks net count (Swap t v i j) NoSuchPlace = not (has_place net v i && has_place net v j)
scene_breaks net count (Swap t v i j) Time = nat_lt LATEST t
scene_breaks net count (Forbid t v k) Range = not (nat_lt v net.nodes)
scene_breaks net count (Forbid t v k) NoSuchPlace = not (has_line net v k)
scene_breaks net count (Forbid t v k) Time = nat_lt LATEST t
scene_breaks net count (Allow t v k) Range = not (nat_lt v net.nodes)
scene_breaks net count (Allow t v k) NoSuchPlace = not (has_line net v k)
scene_breaks net count (Allow t v k) Time = nat_lt LATEST t
scene_breaks net count s TooMany = nat_le MOST_SCENES count
scene_breaks net count s r = false

-- whether both directions of a link have one delay, as version 1 says it
abbrev pub is_first_link : Link → Bool
is_first_link l = l.delay == l.back

-- whether version 1 has such scenario lines
abbrev pub is_first_scene : Scene → Bool
is_first_scene (Forbid t v k) = false
is_first_scene (Allow t v k) = false
is_first_scene s = true

-- whether a text of this version can say the links and the scenario
abbrev pub suits_version : ℕ → List Link → List Scene → Bool
suits_version version links scenes = not (version == 1) || (list_all is_first_link links && list_all is_first_scene scenes)

-- the rules that a whole case breaks in this version
abbrev pub case_breaks : ℕ → Net → List Scene → Rule → Bool
case_breaks version net scenes Version = not (is_within 1 LATEST_VERSION version && suits_version version net.links scenes)
case_breaks version net scenes r = false

-- every rule, in ascending order of the codes; of those that an item breaks the first decides
abbrev pub rules_in_order : List Rule
rules_in_order =
    Range ∷ SelfLink ∷ TwiceLink ∷ Delay ∷ PathOwner ∷ PathEnd ∷ PathRepeats ∷ PathNoLink ∷ TwicePath ∷ TooMany ∷ NoSuchLink ∷ NoSuchPlace ∷ Time ∷ Version ∷ []

-- the first rule that a number of routers breaks
abbrev pub nodes_fault : ℕ → Option Rule
nodes_fault n = find (nodes_break n) rules_in_order

-- the first rule that a link breaks after those of the net
abbrev pub link_fault : Net → Link → Option Rule
link_fault net l = find (link_breaks net l) rules_in_order

-- the first rule that a permitted path breaks after those of the net
abbrev pub path_fault : Net → PermittedPath → Option Rule
path_fault net p = find (path_breaks net p) rules_in_order

-- the first rule that a scenario line breaks after count others
abbrev pub scene_fault : Net → ℕ → Scene → Option Rule
scene_fault net count s = find (scene_breaks net count s) rules_in_order

-- the first rule that a whole case breaks in this version
abbrev pub case_fault : ℕ → Net → List Scene → Option Rule
case_fault version net scenes = find (case_breaks version net scenes) rules_in_order

-- each link keeps the rules after those before it
abbrev pub LinksFollow : Net → List Link → Type 0
LinksFollow net [] = Unit {0}
LinksFollow net (l ∷ links) = (link_fault net l ≡ None) × LinksFollow (record net { links = net.links ++ l ∷ [] }) links

-- each permitted path keeps the rules after those before it
abbrev pub PathsFollow : Net → List PermittedPath → Type 0
PathsFollow net [] = Unit {0}
PathsFollow net (p ∷ paths) = (path_fault net p ≡ None) × PathsFollow (record net { permitted = net.permitted ++ p ∷ [] }) paths

-- each scenario line keeps the rules after count others
abbrev pub ScenesFollow : Net → ℕ → List Scene → Type 0
ScenesFollow net count [] = Unit {0}
ScenesFollow net count (s ∷ scenes) = (scene_fault net count s ≡ None) × ScenesFollow net (count + 1) scenes

-- a net that keeps the rules of an instance
pub record IsNet (net : Net) : Type 0 where
  pub nodes : nodes_fault net.nodes ≡ None
  pub links : LinksFollow (record { nodes = net.nodes; links = []; permitted = [] }) net.links
  pub permitted : PathsFollow (record { nodes = net.nodes; links = net.links; permitted = [] }) net.permitted
