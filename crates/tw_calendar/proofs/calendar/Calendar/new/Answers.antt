use Rattle.tw_ordered.specs.InOrder.{in_order}
use Rattle.std.proofs.Common.{refl}
use Rattle.tw_calendar.proofs.calendar.Calendar.new.Goals as goal

pub returns : goal.returns
unfolding in_order
returns c = rw (c.in_ok-new.ensures, c.in_ok-new-2.ensures) refl
