-- Two cases that differ in the delays of their links alone (own).
use Rattle.std.specs.Prelude.{ℕ, ◌≡◌, map}
use Rattle.tw_model.specs.declared.net.Link.{Link}
use Rattle.tw_model.specs.Net.{Net}
use Rattle.tw_model.specs.Case.{Case}

-- the two routers that a link joins, as they were given
abbrev pub ends_of : Link → ℕ × ℕ
ends_of l = (l.first, l.second)

-- the same routers, links and permitted paths
pub record AreAlikeNets (net other : Net) : Type 0 where
  pub nodes : net.nodes ≡ other.nodes
  pub links : map ends_of net.links ≡ map ends_of other.links
  pub permitted : net.permitted ≡ other.permitted

-- and the same script
pub record AreAlike (case other : Case) : Type 0 where
  pub nets : AreAlikeNets case.net other.net
  pub scenes : case.scenes ≡ other.scenes
