-- The tables from which look-ups of a whole instance are answered (own).
use Rattle.tw_model.specs.Net.{Net}
use Rattle.tw_instance.specs.Extensions.{HasExtensions}
use Rattle.tw_instance.specs.Peers.{HasPeers}
use Rattle.tw_instance.specs.declared.index.Index.{Index}

-- the tables are those of the net
pub record IsIndex (net : Net) (index : Index) : Type 0 where
  pub extensions : HasExtensions net index.extensions
  pub peers : HasPeers net index.peers
