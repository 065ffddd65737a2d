use Rattle.std.proofs.Common.{◌≡◌, IfSome, slice_get, subst}
use Rattle.tw_calendar.proofs.Updates.{time_of}
use Rattle.tw_calendar.proofs.tick.Tick.time.Goals as goal

pub returns : goal.returns
returns c place =
    let a = c.self.inside in
    subst (λ xs. IfSome (slice_get xs place) (λ e. e.time ≡ a.time)) c.self.view_is (time_of a.time a.updates.items place)
