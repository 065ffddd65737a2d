use Rattle.std.proofs.Common.{◌≡◌, [], ap, ◌∙◌, length, arith}
use Rattle.std.specs.List.{flat_map}
use Rattle.tw_event.specs.Order.{event_before}
use Rattle.tw_sim.specs.Ordered.{insert_all}
use Rattle.tw_sim.proofs.Ordered.{length-insert_all}
use Rattle.tw_warp.specs.Warp.{Warp}
use Rattle.tw_warp.proofs.warp.Warp.held_len.Goals as goal

pub returns : goal.returns
returns c =
    let all = flat_map (λ s. s.held) c.args.self.now.shards in
    let count = length-insert_all event_before all [] in
    let same : length all ≡ length (insert_all event_before all []) = omega arith in
    c.count_held.ensures ∙ (ap (λ ss. length (flat_map (λ s. s.held) ss)) (c.deref.ensures.value ∙ ap (λ (v : Warp). v.shards) c.self.view_is) ∙ same)
