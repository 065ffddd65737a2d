use Rattle.std.proofs.Common.{sym, ◌∙◌}
use Rattle.tw_shape.specs.Shape.{shape}
use Rattle.tw_shape.proofs.Firsts.{never_same}
use Rattle.tw_shape.proofs.Packing.{later_none}
use Rattle.tw_shape.proofs.Stillness.{still_shape}
use Rattle.tw_shape.proofs.laws.shape_between_events.Goals as goal

pub returns-clause-later : goal.returns-clause-later
returns-clause-later c = still_shape

pub returns-clause-differs : goal.returns-clause-differs
returns-clause-differs c case is t d more still some same =
    never_same (shape case t) 0 d more still some (later_none (shape case t) ∙ sym same ∙ still_shape case is t d still)
