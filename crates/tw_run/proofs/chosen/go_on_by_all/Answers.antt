use Rattle.tw_run.proofs.Going.{come_to_stop}
use Rattle.tw_run.proofs.chosen.go_on_by_all.Goals as goal

pub returns : goal.returns
returns g c = come_to_stop c.loop-end.course.ticks c.args.sim.case c.args.asked c.loop-end.run c.loop-end.invariant.ticks (c.next_end.ensures.none c.in_default.is) c.requires.log c.loop-end.invariant.come
