-- What callers are told of an instance, from the rules that it keeps.
use Rattle.std.proofs.Common.{◌≡◌, ℕ, suc, zero, ◌+◌, ◌-◌, ◌*◌, ◌≤◌, true, length, map, ap, arith}
use Rattle.std.specs.List.{All}
use Rattle.std.specs.List.Sorted.{IsStrictlyIncreasing}
use Rattle.std.proofs.lemmas.List.Elements.{All-weaker}
use Rattle.tw_model.specs.declared.limits.TheConstants.{MOST_LINKS, MOST_PATHS, MOST_ROUTERS}
use Rattle.tw_model.specs.Net.{Net, IsPath, hops_of, is_own, paths, paths_of}
use Rattle.tw_model.specs.Rules.{IsNet}
use Rattle.tw_model.proofs.Nets.{hops_few, nodes_within}
use Rattle.tw_model.proofs.Paths.{own_is_path, path_exact, paths_own}
use Rattle.tw_instance.specs.Hops.{AreDistinct, IsGoodHop}
use Rattle.tw_instance.proofs.Links.{good_hops, rising_hops}
use Rattle.tw_instance.proofs.Permitted.{few_permitted, length-paths, are_listed}

-- what is known of router v
pub record IsRouter (net : Net) (v : ℕ) : Type 0 where
  pub few_hops : length (hops_of net v) ≤ MOST_LINKS
  pub good : All (IsGoodHop net.nodes) (hops_of net v)
  pub rising : IsStrictlyIncreasing (map (λ h. h.peer) (hops_of net v))
  pub few_paths : length (paths_of net v) ≤ MOST_PATHS
  pub paths : All (IsPath net) (paths_of net v)
  pub own : All (λ q. is_own net v q ≡ true) (paths_of net v)

few_paths_of : (net : Net) (v : ℕ) → IsNet net → length (paths_of net v) ≤ MOST_PATHS
few_paths_of net zero h = let one = ap length (are_listed net h).origin in omega arith
few_paths_of net (suc v) h = let few = (are_listed net h).few (suc v) in let same = (are_listed net h).counts (suc v) (omega arith) in omega arith

pub is_router : (net : Net) (v : ℕ) → IsNet net → IsRouter net v
is_router net v h = record {
  few_hops = hops_few net h v;
  good = good_hops net v h;
  rising = rising_hops net v;
  few_paths = few_paths_of net v h;
  paths = All-weaker (λ q. is_own net v q ≡ true) (IsPath net) (λ q o. (own_is_path net v q o).0) (paths_of net v) (paths_own net v);
  own = paths_own net v;
}

-- what is known of the whole
pub record IsSoundNet (net : Net) : Type 0 where
  pub kept : IsNet net
  pub some : 1 ≤ net.nodes
  pub most : net.nodes ≤ MOST_ROUTERS
  pub few_paths : length (paths net) ≤ MOST_PATHS * (MOST_ROUTERS - 1) + 2
  pub distinct : AreDistinct net

pub is_whole : (net : Net) → IsNet net → IsSoundNet net
is_whole net h = record {
  kept = h;
  some = (nodes_within net.nodes h.nodes).0;
  most = (nodes_within net.nodes h.nodes).1;
  few_paths = (let few = few_permitted net h in let n = length-paths net in omega arith);
  distinct = path_exact net h;
}
