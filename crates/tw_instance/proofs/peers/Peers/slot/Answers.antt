use Rattle.std.proofs.Common.{◌==◌, [], ap, arith, get_or, length, subst, sym, ◌∙◌, ◌<◌}
use Rattle.std.specs.List.{position}
use Rattle.std.proofs.lemmas.List.{get_or_default, length-map}
use Rattle.tw_model.specs.Net.{hops_of}
use Rattle.tw_instance.specs.Guesses.{AreGuesses}
use Rattle.tw_instance.specs.Hops.{peers_of}
use Rattle.tw_instance.specs.Orders.{StandsAt}
use Rattle.tw_instance.proofs.Guesses.{guessed}
use Rattle.tw_instance.proofs.Indexed.{at_slot, is_slot, slot_map}
use Rattle.tw_instance.proofs.peers.Peers.slot.Goals as goal

pub returns-then-from-peer : goal.returns-then-from-peer
returns-then-from-peer c net h =
    let v = c.args.node in
    let w = c.args.peer in
    let kept = c.args.self.now in
    let gs = c.index.result.now in
    let low : v < length kept.guesses.items = (let a = c.if-index-len.false in let b = c.len.ensures in let n = kept.guessed in omega arith) in
    let all : AreGuesses (peers_of net v) gs = subst (AreGuesses (peers_of net v)) (sym (c.index.ensures ∙ get_or_default kept.guesses.items v gs [] low)) (h.guesses v low) in
    let is = guessed (peers_of net v) gs (record { peer = 0; slot = 0 }) w all (sym c.from.ensures ∙ c.if-from-peer.true) in
    let within : c.from-then-from-peer.result < length (hops_of net v) = (let e = c.from-then-from-peer.ensures in let n = length-map (hops_of net v) (λ h. h.peer) in let l = is.0 in omega arith) in
    at_slot net v w c.from-then-from-peer.result within (ap (λ k. get_or (peers_of net v) k 0) c.from-then-from-peer.ensures ∙ is.1)
