use Rattle.std.proofs.Common.{length, length-drop, ap, arith}
use Rattle.tw_pending.proofs.tick.Tick.len.Goals as goal

pub returns : goal.returns
returns g c =
    let a = c.self.inside in
    let long = length-drop a.taken a.events.items in
    let seen = ap length c.self.view_is in
    omega (arith, a.events.ok.0)
