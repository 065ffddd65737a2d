-- The neighbours of each router, in one list (own).
use Rattle.std.specs.Prelude.{ℕ, ◌≡◌, ◌<◌, [], length, slice_index_or}
use Rattle.tw_model.specs.Net.{Net}
use Rattle.tw_instance.specs.Guesses.{AreGuesses}
use Rattle.tw_instance.specs.Hops.{peers_of}
use Rattle.tw_instance.specs.Orders.{StandAsIn}
use Rattle.tw_instance.specs.Sparse.{cut}
use Rattle.tw_instance.specs.declared.peers.Peers.{Peers}

-- the row of each router holds its neighbours, and its guesses and its order are right of them
pub record HasPeers (net : Net) (t : Peers) : Type 0 where
  pub rows : (v : ℕ) → cut t.starts.items v t.neighbours.items ≡ peers_of net v
  pub guesses : (v : ℕ) → v < length t.guesses.items → AreGuesses (peers_of net v) (slice_index_or t.guesses.items v [])
  pub orders : (v : ℕ) → v < length t.orders.items → StandAsIn (peers_of net v) (slice_index_or t.orders.items v [])
