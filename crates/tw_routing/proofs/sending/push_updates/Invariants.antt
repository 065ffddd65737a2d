use Rattle.std.proofs.Common.{◌≡◌, ◌≤◌, ◌+◌, ◌++◌, drop, length, vec_capacity, vec_len}
use Rattle.tw_handlers.proofs.Pairs.{up_pairs, updates_to}
use Rattle.tw_routing.proofs.sending.push_updates.Given as goal

-- the updates to the neighbours that are left go behind, and have room
abbrev pub invariant-loop-slot : goal.invariant-loop-slot
invariant-loop-slot l =
    let pairs = up_pairs (drop l.slot l.hops) (drop l.slot l.rows) in
    (l.sends.items ++ updates_to l.news.src l.news.time l.news.path l.seq pairs
    ≡ l.initial.sends.items ++ updates_to l.news.src l.news.time l.news.path l.first (up_pairs l.hops l.rows))
    × (l.seq + length pairs ≡ l.first + length (up_pairs l.hops l.rows))
    × (vec_len l.sends + length pairs ≤ vec_capacity l.sends)
    × (vec_capacity l.initial.sends ≤ vec_capacity l.sends)
