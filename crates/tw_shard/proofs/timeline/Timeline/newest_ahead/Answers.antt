use Rattle.std.proofs.Common.{◌<◌, slice_get, ap, sym, ◌∙◌, subst}
use Rattle.std.specs.List.{AllByRecursion}
use Rattle.tw_shard.specs.Timeline.{Timeline}
use Rattle.tw_shard.proofs.Rings.{newest_ahead_is}
use Rattle.tw_shard.proofs.timeline.Timeline.newest_ahead.Goals as goal

pub returns-clause-value : goal.returns-clause-value
returns-clause-value c =
    newest_ahead_is c.self.inside.ahead c.in_ok-newest.newest.now (sym c.in_ok-newest.ensures) ∙ ap (λ (t : Timeline). slice_get t.ahead 0) c.self.view_is

pub returns-clause-past : goal.returns-clause-past
returns-clause-past c = subst (λ (t : Timeline). AllByRecursion (λ e. e.time < t.done) t.past) c.self.view_is c.self.invariant.past
