-- What holds of the neighbours and of the paths of an instance (own).
use Rattle.std.specs.Prelude.{ℕ, ◌≡◌, ◌<◌, ◌≤◌, List, map}
use Rattle.tw_event.specs.declared.event.PathNo.{PathNo}
use Rattle.tw_model.specs.declared.limits.TheConstants.{LONGEST_DELAY}
use Rattle.tw_model.specs.declared.net.Hop.{Hop}
use Rattle.tw_model.specs.Net.{Net, IsPath, hops_of, path}

-- a neighbour among so many routers, with a delay that a link may have
pub record IsGoodHop (nodes : ℕ) (h : Hop) : Type 0 where
  pub peer : h.peer < nodes
  pub some : 1 ≤ h.delay
  pub most : h.delay ≤ LONGEST_DELAY

-- the numbers of the neighbours of v in ascending order
abbrev pub peers_of : Net → ℕ → List ℕ
peers_of net v = map (λ h. h.peer) (hops_of net v)

-- no two numbers stand for the same path
abbrev pub AreDistinct : Net → Type 0
AreDistinct net = (p q : PathNo) → IsPath net p → IsPath net q → path net p ≡ path net q → p ≡ q
