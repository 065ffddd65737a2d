-- The tables of an instance that is made or grows.
use Rattle.std.proofs.Common.{◌≡◌, ℕ, suc, ◌+◌, ◌-◌, ◌<◌, ◌==◌, false, List, [], ◌∷◌, ◌++◌, drop, length, get_or, map, replicate, refl, ap, sym, ◌∙◌, subst, arith, None}
use Rattle.std.specs.declared.vec.Vec.{Vec}
use Rattle.std.proofs.lemmas.Bool.{ne_eqb}
use Rattle.std.proofs.lemmas.List.{get_or_append_left, get_or_push, map_push}
use Rattle.tw_event.specs.declared.event.PathNo.{PathNo}
use Rattle.tw_model.specs.declared.net.Hop.{Hop}
use Rattle.tw_model.specs.declared.net.Link.{Link}
use Rattle.tw_model.specs.PermittedPath.{PermittedPath}
use Rattle.tw_model.specs.Net.{Net, IsPath, hops_of, origin_path, path, paths, paths_of, bare_net}
use Rattle.tw_model.specs.Rules.{IsNet, link_fault, nodes_fault, path_fault}
use Rattle.tw_model.proofs.Grown.{net_alone, net_with_path}
use Rattle.tw_model.proofs.Nets.{nodes_within}
use Rattle.tw_instance.specs.Tables.{IsTable, hash, items, push_at, tail_hash, tail_hashes_of, with_link}
use Rattle.tw_instance.proofs.Hops.{is_joined}
use Rattle.tw_instance.proofs.Lists.{map_alike}
use Rattle.tw_instance.proofs.Permitted.{is_listed, length-paths, next_path, none_permitted, paths_push}
use Rattle.tw_instance.proofs.Links.{next_link, no_links}
use Rattle.tw_instance.proofs.Paths.{path-origin}
use Rattle.tw_instance.proofs.Rows.{table_empty, table_link, table_opening, table_push}
use Rattle.tw_instance.proofs.Sound.{is_router}

-- a net that keeps the rules, with its tables
pub record IsTabled {X Y Z : Type 0} (net : Net) (hops : List (Vec Hop X)) (permitted : List (Vec PathNo Y)) (tail_hashes : List (Vec ℕ Z)) : Type 0 where
  pub kept : IsNet net
  pub hop_rows : IsTable hops net.nodes (hops_of net)
  pub path_rows : IsTable permitted net.nodes (paths_of net)
  pub hash_rows : IsTable tail_hashes net.nodes (tail_hashes_of net)

-- ---- before any link and path

no_path : (nodes v : ℕ) → paths_of (bare_net nodes) (suc v) ≡ []
no_path nodes v = none_permitted nodes (suc v) [] ∙ (let other : (0 == suc v) ≡ false = ne_eqb 0 (suc v) (λ z. omega arith) in rw other refl)

module _ {X Y Z : Type 0} (nodes : ℕ) (hops : List (Vec Hop X)) (permitted : List (Vec PathNo Y)) (tail_hashes : List (Vec ℕ Z)) where
  bare_tables : (h : ℕ) → nodes_fault nodes ≡ None → h ≡ hash [] → items hops ≡ replicate nodes [] → items permitted ≡ (origin_path ∷ []) ∷ replicate (nodes - 1) []
      → items tail_hashes ≡ (h ∷ []) ∷ replicate (nodes - 1) [] → IsTabled (bare_net nodes) hops permitted tail_hashes
  bare_tables h none of_origin of_hops of_paths of_hashes =
      let net = bare_net nodes in
      let some : 0 < nodes = (let least = (nodes_within nodes none).0 in omega arith) in
      let one : paths_of net 0 ≡ origin_path ∷ [] = none_permitted nodes 0 [] in
      let first : tail_hashes_of net 0 ≡ h ∷ [] = ap (map (tail_hash net)) one ∙ (ap (λ p. hash (drop 1 p) ∷ []) (path-origin net origin_path refl) ∙ ap (λ k. k ∷ []) (sym of_origin)) in
      record {
        kept = net_alone nodes none;
        hop_rows = table_empty hops nodes (hops_of net) of_hops (no_links nodes);
        path_rows = table_opening permitted nodes (paths_of net) origin_path some of_paths one (no_path nodes);
        hash_rows = table_opening tail_hashes nodes (tail_hashes_of net) h some of_hashes first (λ v. ap (map (tail_hash net)) (no_path nodes v));
      }

  pub new_tables : (links : List Link) (paths : List PermittedPath) (h : ℕ) → links ≡ [] → paths ≡ [] → nodes_fault nodes ≡ None → h ≡ hash [] → items hops ≡ replicate nodes []
      → items permitted ≡ (origin_path ∷ []) ∷ replicate (nodes - 1) [] → items tail_hashes ≡ (h ∷ []) ∷ replicate (nodes - 1) []
      → IsTabled (record { nodes = nodes; links = links; permitted = paths }) hops permitted tail_hashes
  new_tables links paths h no_link no_permitted none of_origin of_hops of_paths of_hashes =
      let same : bare_net nodes ≡ record { nodes = nodes; links = links; permitted = paths } = λ i. record { nodes = nodes; links = sym no_link i; permitted = sym no_permitted i } in
      subst (λ net. IsTabled net hops permitted tail_hashes) same (bare_tables h none of_origin of_hops of_paths of_hashes)

-- ---- one more link

-- links don't matter for the paths, nor for their hashes
pub paths_kept : (net : Net) (links : List Link) (v : ℕ) → paths_of (record net { links = links }) v ≡ paths_of net v
unfolding paths_of
paths_kept net links v = refl

pub hashes_kept : (net : Net) (links : List Link) (v : ℕ) → tail_hashes_of (record net { links = links }) v ≡ tail_hashes_of net v
unfolding paths_of path
hashes_kept net links v = refl

pub linked_table : {Z : Type 0} (net : Net) (l : Link) (links : List Link) (rows more : List (Vec Hop Z)) → link_fault net l ≡ None → links ≡ net.links ++ l ∷ []
    → IsTable rows net.nodes (hops_of net) → items more ≡ with_link (items rows) l → IsTable more net.nodes (hops_of (record net { links = links }))
linked_table net l links rows more fault is table e =
    let next = next_link net l fault in
    let good = next.good in
    let joined = is_joined net l good.first good.second good.apart next.new in
    let grown = table_link rows more net.nodes (hops_of net) (hops_of (record net { links = net.links ++ l ∷ [] })) l good.first good.second table e joined in
    subst (λ ls. IsTable more net.nodes (hops_of (record net { links = ls }))) (sym is) grown

-- ---- one more path

pub path_kept : (net : Net) (p : PermittedPath) (q : PathNo) → IsPath net q → path (record net { permitted = net.permitted ++ p ∷ [] }) q ≡ path net q
unfolding path
path_kept net p q h = ap (λ ps. get_or ps q.0 []) (paths_push net p) ∙ get_or_append_left (paths net) (p.nodes ∷ []) [] q.0 h

-- the number of the next path
abbrev pub next_number : Net → PathNo
next_number net = record { 0 = suc (suc (length net.permitted)) }

pub path_new : (net : Net) (p : PermittedPath) → path (record net { permitted = net.permitted ++ p ∷ [] }) (next_number net) ≡ p.nodes
unfolding path
path_new net p =
    ap (λ ps. get_or ps (suc (suc (length net.permitted))) []) (paths_push net p) ∙ get_or_push (paths net) p.nodes [] (suc (suc (length net.permitted))) (length-paths net)

-- the hashes of the paths so far stay
tails_kept : (net : Net) (p : PermittedPath) (v : ℕ) → IsNet net → tail_hashes_of net v ≡ map (tail_hash (record net { permitted = net.permitted ++ p ∷ [] })) (paths_of net v)
tails_kept net p v h =
    let more : Net = record net { permitted = net.permitted ++ p ∷ [] } in
    let same = λ (q : PathNo) (i : IsPath net q). ap (λ ns. hash (drop 1 ns)) (sym (path_kept net p q i)) in
    map_alike (IsPath net) (tail_hash net) (tail_hash more) same (paths_of net v) (is_router net v h).paths

-- the tables of paths and of their hashes after one more path
pub record IsNextTables {Y Z : Type 0} (net : Net) (permitted : List (Vec PathNo Y)) (tail_hashes : List (Vec ℕ Z)) : Type 0 where
  pub kept : IsNet net
  pub path_rows : IsTable permitted net.nodes (paths_of net)
  pub hash_rows : IsTable tail_hashes net.nodes (tail_hashes_of net)

module _ {Y Z : Type 0} (net : Net) (p : PermittedPath) (permitted numbers : List (Vec PathNo Y)) (tail_hashes hashes : List (Vec ℕ Z)) where
  listed_tables : (k : ℕ) → IsNet net → path_fault net p ≡ None → k ≡ hash (drop 1 p.nodes)
      → IsTable permitted net.nodes (paths_of net) → IsTable tail_hashes net.nodes (tail_hashes_of net)
      → items numbers ≡ push_at (items permitted) p.owner (next_number net) → items hashes ≡ push_at (items tail_hashes) p.owner k
      → IsNextTables (record net { permitted = net.permitted ++ p ∷ [] }) numbers hashes
  listed_tables k h fault is paths_so hashes_so e f =
      let more : Net = record net { permitted = net.permitted ++ p ∷ [] } in
      let next = next_path net p fault in
      let at = is_listed net p next.begins in
      let last : k ≡ tail_hash more (next_number net) = is ∙ sym (ap (λ ns. hash (drop 1 ns)) (path_new net p)) in
      let whole : tail_hashes_of net p.owner ++ k ∷ [] ≡ tail_hashes_of more p.owner =
      ap (λ (ks : List ℕ). ks ++ k ∷ []) (tails_kept net p p.owner h)
      ∙ (ap (λ n. map (tail_hash more) (paths_of net p.owner) ++ n ∷ []) last
      ∙ (sym (map_push (tail_hash more) (paths_of net p.owner) (next_number net)) ∙ ap (map (tail_hash more)) (sym at.owner))) in
      record {
        kept = net_with_path net p h fault;
        path_rows = table_push permitted numbers net.nodes (paths_of net) (paths_of more) p.owner (next_number net) next.owner paths_so e (sym at.owner) (λ v ne. sym (at.others v ne));
        hash_rows = table_push tail_hashes hashes net.nodes (tail_hashes_of net) (tail_hashes_of more) p.owner k next.owner hashes_so f whole
            (λ v ne. tails_kept net p v h ∙ ap (map (tail_hash more)) (sym (at.others v ne)));
      }

  pub next_tables : (paths : List PermittedPath) (q : PathNo) (k : ℕ) → IsNet net → path_fault net p ≡ None → paths ≡ net.permitted ++ p ∷ [] → q.0 ≡ length net.permitted + 2
      → k ≡ hash (drop 1 p.nodes)
      → IsTable permitted net.nodes (paths_of net) → IsTable tail_hashes net.nodes (tail_hashes_of net)
      → items numbers ≡ push_at (items permitted) p.owner q → items hashes ≡ push_at (items tail_hashes) p.owner k
      → IsNextTables (record net { permitted = paths }) numbers hashes
  next_tables paths q k h fault grown number is paths_so hashes_so e f =
      let n : q.0 ≡ suc (suc (length net.permitted)) = omega arith in
      let same : q ≡ next_number net = λ i. record { 0 = n i } in
      subst (λ ls. IsNextTables (record net { permitted = ls }) numbers hashes) (sym grown) (listed_tables k h fault is paths_so hashes_so (e ∙ ap (push_at (items permitted) p.owner) same) f)
