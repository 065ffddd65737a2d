use Rattle.std.proofs.Common.{◌≡◌, ◌<◌, ◌↔◌, length, true, sym, subst}
use Rattle.tw_shard.specs.Shard.{shard_core, timeline}
use Rattle.tw_shard.specs.Timeline.{Timeline}
use Rattle.tw_shard.proofs.Steps.{ahead_is, room_is}
use Rattle.tw_shard.proofs.shard.Shard.has_room.Goals as goal

pub returns : goal.returns
returns c =
    let s = c.args.self.now in
    let r = c.args.router in
    let whole = c.timeline.ensures.whole in
    let yes = c.has_room.result ≡ true in
    let told = subst (λ (t : Timeline). yes ↔ (length t.ahead < t.room)) c.timeline.ensures.value c.has_room.ensures in
    subst (λ n. yes ↔ (n < (shard_core 0 s).room r)) (sym (ahead_is s r whole c.requires 0))
    (subst (λ k. yes ↔ (length (timeline s r).ahead < k)) (sym (room_is s r whole c.requires 0)) told)
