-- Workers that have run have the routers that they had.
use Rattle.std.proofs.Common.{◌≡◌, ℕ, ◌+◌, ◌<◌, ◌≤◌, true, length, refl, ap, sym, ◌∙◌, slice_get, Some, arith}
use Rattle.std.proofs.lemmas.Bool.{eqb-true}
use Rattle.std.proofs.lemmas.Option.{slice_get-get_or}
use Rattle.std.proofs.lemmas.List.Elements.{AllZip-get_or}
use Rattle.std.proofs.Common.{get_or}
use Rattle.tw_exchange.specs.Board.{who, workers}
use Rattle.tw_model.specs.Case.{Case, simulation}
use Rattle.tw_parallel.proofs.Owners.{own_at}
use Rattle.tw_parallel.proofs.Rounds.{as_long}
use Rattle.tw_parallel.proofs.Shares.{worker_there}
use Rattle.tw_parallel.specs.Sim.{HasSameOwners, IsSim, Sim}
use Rattle.tw_rule.proofs.Places.{all_at, get_map}
use Rattle.tw_rule.specs.Rule.{Stands}
use Rattle.tw_shard.specs.Roster.{has}
use Rattle.tw_shard.specs.Shard.{IsSameShare, owns}
use Rattle.tw_table.specs.Shares.{Share, board_of, no_share, place_of}
use Rattle.tw_workers.specs.Work.{AreSameShares}
use Rattle.std.specs.Prelude.{map}

pub same_owners : (s t : Sim) → IsSim s → IsSim t → t.case ≡ s.case → AreSameShares s.shares t.shares → HasSameOwners s t
same_owners s t is still case same = λ r known.
    let k = who s.board r in
    let home : k < workers s.board = is.ruled.rule.routers r known in
    let count = is.ruled.count in
    let within : k < length s.shares = omega (arith, home, count) in
    let long = as_long s.shares t.shares same in
    let within_later : k < length t.shares = omega (arith, within, long) in
    let there = slice_get-get_or s.shares k no_share within in
    let there_later = slice_get-get_or t.shares k no_share within_later in
    let a : Share = get_or s.shares k no_share in
    let b : Share = get_or t.shares k no_share in
    let alike = AllZip-get_or (λ (x y : Share). IsSameShare x.shard y.shard) s.shares t.shares k no_share no_share same within in
    let own : owns b.shard r ≡ true = ap (λ rs. has rs r) alike.routers ∙ own_at s is r known a there in
    let stands = all_at (Stands (simulation t.case) (who t.board) (board_of t.board)) (map place_of t.shares) k (place_of b) (get_map place_of t.shares k b there_later) still.ruled.rule.each in
    let worker : b.shard.terms.worker ≡ 0 + k = worker_there 0 (workers t.board) k t.shares b still.order there_later in
    let nodes = ap (λ (c : Case). c.net.nodes) case in
    let named = eqb-true (who t.board r) b.shard.terms.worker (sym (stands.owns r (omega (arith, known, nodes))) ∙ own) in
    omega (arith, named, worker)
