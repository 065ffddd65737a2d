-- The nodes of a path number.
use Rattle.std.proofs.Common.{◌≡◌, ℕ, ◌<◌, List, [], ◌∷◌, length, map, slice_index_or, refl, ap, arith, zero, suc}
use Rattle.tw_event.specs.declared.event.PathNo.{PathNo}
use Rattle.tw_model.specs.PermittedPath.{PermittedPath}
use Rattle.tw_model.specs.Net.{Net, path, paths}

pub path-empty : (net : Net) (p : PathNo) → p.0 ≡ 0 → path net p ≡ []
unfolding path
path-empty net p e = ap (λ k. slice_index_or (paths net) k []) e

pub path-origin : (net : Net) (p : PathNo) → p.0 ≡ 1 → path net p ≡ 0 ∷ []
unfolding path
path-origin net p e = ap (λ k. slice_index_or (paths net) k []) e

-- from number 2 on the paths are those that were given
pub path-given : (net : Net) (p : PathNo) (k : ℕ) → p.0 ≡ suc (suc k) → path net p ≡ slice_index_or (map (λ l. l.nodes) net.permitted) k []
unfolding path
path-given net p k e = ap (λ k. slice_index_or (paths net) k []) e

pub index-map : (paths : List PermittedPath) (k : ℕ) (d : PermittedPath) → k < length paths → slice_index_or (map (λ l. l.nodes) paths) k [] ≡ (slice_index_or paths k d).nodes
index-map [] k d h = absurd (omega arith)
index-map (l ∷ paths) zero d h = refl
index-map (l ∷ paths) (suc k) d h = index-map paths k d (omega arith)
