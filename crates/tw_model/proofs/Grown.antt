-- A net, or a case, that keeps the rules keeps them with one more item that keeps them.
use Rattle.std.proofs.Common.{◌≡◌, ℕ, ◌+◌, true, false, not, List, [], ◌∷◌, ◌++◌, length, None, refl, ◌∙◌, append_assoc, append-nil, arith}
use Rattle.std.proofs.lemmas.Bool.{not-false, or_left, or_parts}
use Rattle.std.proofs.lemmas.List.Folds.{list_any-append}
use Rattle.tw_model.specs.declared.case.Scene.{Scene}
use Rattle.tw_model.specs.declared.limits.TheConstants.{LATEST_VERSION}
use Rattle.tw_model.specs.declared.net.Link.{Link}
use Rattle.tw_model.specs.declared.rule.Rule.TheVariants.{PathNoLink}
use Rattle.tw_model.specs.Case.{IsCase, bare_case}
use Rattle.tw_model.specs.PermittedPath.{PermittedPath}
use Rattle.tw_model.specs.Net.{Net, joins}
use Rattle.tw_model.specs.Rules.{IsNet, LinksFollow, PathsFollow, ScenesFollow, is_linked, leaves_links, path_breaks, path_fault, link_fault, nodes_fault, scene_fault}
use Rattle.tw_model.proofs.Unbroken.{none_broken}

-- a net without links and paths keeps the rules where its number of routers does
pub net_alone : (nodes : ℕ) → nodes_fault nodes ≡ None → IsNet (record { nodes = nodes; links = []; permitted = [] })
net_alone nodes h = record { nodes = h; links = tt; permitted = tt }

-- ---- one more link

links_follow_more : (nodes : ℕ) (before links : List Link) (l : Link) → LinksFollow (record { nodes = nodes; links = before; permitted = [] }) links
    → link_fault (record { nodes = nodes; links = before ++ links; permitted = [] }) l ≡ None → LinksFollow (record { nodes = nodes; links = before; permitted = [] }) (links ++ l ∷ [])
links_follow_more nodes before [] l h next = (rw append-nil at next, tt)
links_follow_more nodes before (k ∷ links) l h next = (h.0, links_follow_more nodes (before ++ k ∷ []) links l h.1 (rw (append_assoc before (k ∷ []) links) next))

linked_more : (links : List Link) (l : Link) (v w : ℕ) → is_linked links v w ≡ true → is_linked (links ++ l ∷ []) v w ≡ true
linked_more links l v w h = list_any-append (joins v w) links (l ∷ []) ∙ or_left (is_linked links v w) (is_linked (l ∷ []) v w) h

leaves_less : (links : List Link) (l : Link) (p : List ℕ) → leaves_links links p ≡ false → leaves_links (links ++ l ∷ []) p ≡ false
leaves_less links l [] h = refl
leaves_less links l (v ∷ []) h = refl
leaves_less links l (v ∷ w ∷ p) h =
    let parts = or_parts (not (is_linked links v w)) (leaves_links links (w ∷ p)) h in
    let linked : is_linked (links ++ l ∷ []) v w ≡ true = linked_more links l v w (not-false (is_linked links v w) parts.0) in
    rw linked (leaves_less links l (w ∷ p) parts.1)

path_fault_more : (net : Net) (l : Link) (p : PermittedPath) → path_fault net p ≡ None → path_fault (record net { links = net.links ++ l ∷ [] }) p ≡ None
path_fault_more net l p h =
    let e : leaves_links net.links p.nodes ≡ false = none_broken (path_breaks net p) h PathNoLink in
    rw (leaves_less net.links l p.nodes e) (rw e at h)

paths_follow_more : (nodes : ℕ) (links : List Link) (before paths : List PermittedPath) (l : Link) → PathsFollow (record { nodes = nodes; links = links; permitted = before }) paths
    → PathsFollow (record { nodes = nodes; links = links ++ l ∷ []; permitted = before }) paths
paths_follow_more nodes links before [] l h = tt
paths_follow_more nodes links before (p ∷ paths) l h =
    (path_fault_more (record { nodes = nodes; links = links; permitted = before }) l p h.0, paths_follow_more nodes links (before ++ p ∷ []) paths l h.1)

pub net_with_link : (net : Net) (l : Link) → IsNet net → link_fault net l ≡ None → IsNet (record net { links = net.links ++ l ∷ [] })
net_with_link net l h next = grind (arith, links_follow_more, paths_follow_more)

-- ---- one more path

paths_follow_push : (net : Net) (before paths : List PermittedPath) (p : PermittedPath) → PathsFollow (record net { permitted = before }) paths
    → path_fault (record net { permitted = before ++ paths }) p ≡ None → PathsFollow (record net { permitted = before }) (paths ++ p ∷ [])
paths_follow_push net before [] p h next = (rw append-nil at next, tt)
paths_follow_push net before (q ∷ paths) p h next = (h.0, paths_follow_push net (before ++ q ∷ []) paths p h.1 (rw (append_assoc before (q ∷ []) paths) next))

pub net_with_path : (net : Net) (p : PermittedPath) → IsNet net → path_fault net p ≡ None → IsNet (record net { permitted = net.permitted ++ p ∷ [] })
net_with_path net p h next = grind (arith, paths_follow_push)

-- ---- one more scenario line

pub case_alone : (net : Net) → IsNet net → IsCase (bare_case net)
case_alone net h = record { net = h; scenes = tt; version = refl }

scenes_follow_push : (net : Net) (count whole : ℕ) (scenes : List Scene) (s : Scene) → count + length scenes ≡ whole → ScenesFollow net count scenes → scene_fault net whole s ≡ None
    → ScenesFollow net count (scenes ++ s ∷ [])
scenes_follow_push net count whole [] s e h next = let same : whole ≡ count = omega arith in (rw same at next, tt)
scenes_follow_push net count whole (t ∷ scenes) s e h next = (h.0, scenes_follow_push net (count + 1) whole scenes s (omega arith) h.1 next)

-- with one more line a case is one of the latest version, whatever version it was
pub case_with_scene : {version : ℕ} (net : Net) (scenes : List Scene) (s : Scene) → IsCase (record { version = version; net = net; scenes = scenes }) → scene_fault net (length scenes) s ≡ None
    → IsCase (record { version = LATEST_VERSION; net = net; scenes = scenes ++ s ∷ [] })
case_with_scene net scenes s h next = record { net = h.net; scenes = scenes_follow_push net 0 (length scenes) scenes s (omega arith) h.scenes next; version = refl }

-- ---- another version
