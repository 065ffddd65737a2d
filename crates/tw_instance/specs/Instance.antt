-- What the fields of an instance say, and what holds of them (own).
use Rattle.std.specs.List.{All}
use Rattle.tw_model.specs.Net.{Net, hops_of, paths_of}
use Rattle.tw_model.specs.Rules.{IsNet}
use Rattle.tw_instance.specs.Adjacency.{IsAdjacency}
use Rattle.tw_instance.specs.declared.instance.Instance.TheInside.{Inside}
use Rattle.tw_instance.specs.Index.{IsIndex}
use Rattle.tw_instance.specs.Places.{ArePlaces}
use Rattle.tw_instance.specs.Tables.{IsTable, tail_hashes_of}

-- the net that an instance is: its routers, links and permitted paths
abbrev pub net_of : Inside → Net
net_of a = record { nodes = a.nodes; links = a.links.items; permitted = a.paths.items }

-- the net keeps the rules, and the tables are those of the net
pub record IsInstance (a : Inside) : Type 0 where
  pub net : IsNet (net_of a)
  pub hops : IsTable a.hops.items a.nodes (hops_of (net_of a))
  pub adjacency : IsAdjacency (net_of a) a.adjacency.items
  pub permitted : IsTable a.permitted.items a.nodes (paths_of (net_of a))
  pub tail_hashes : IsTable a.tail_hashes.items a.nodes (tail_hashes_of (net_of a))
  pub places : ArePlaces (net_of a) a.places.items
  pub index : All (IsIndex (net_of a)) a.index.items
