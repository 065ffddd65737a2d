use Rattle.std.proofs.Common.{◌≡◌, ◌==◌, [], sym, ◌∙◌}
use Rattle.std.proofs.lemmas.Bool.{OnTrue_from, eqb-true}
use Rattle.tw_ordered.specs.Times.{never}
use Rattle.tw_queue.proofs.Fars.{far_none}
use Rattle.tw_queue.proofs.far.FarEvents.is_empty.Goals as goal

pub returns : goal.returns
returns c =
    OnTrue_from (c.self.inside.soonest == never) (c.args.self.now ≡ []) (λ b. sym c.self.view_is ∙ far_none c.self.inside c.self.invariant (eqb-true c.self.inside.soonest never b))
