use Rattle.tw_exchange.proofs.Rooms.{empty_more}
use Rattle.tw_exchange.proofs.rows.no_mail.Goals as goal

pub loop-preserved : goal.loop-preserved
loop-preserved g c = empty_more c.loop.mail.items c.push.new.self.items c.new.result c.loop.counter c.in_ok-push.ensures.ok c.new.ensures.items c.loop.invariant
