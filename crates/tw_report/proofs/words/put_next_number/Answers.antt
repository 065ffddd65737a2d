use Rattle.std.proofs.Common.{[], ◌∷◌}
use Rattle.tw_device.proofs.Puts.{puts_failed, puts_then}
use Rattle.tw_report.proofs.words.put_next_number.Goals as goal

pub returns-in_err-put_all : goal.returns-in_err-put_all
returns-in_err-put_all g c = puts_failed c.from_residual.result _ _ _ (32 ∷ []) _ c.from_residual.ensures.0 c.in_err-put_all.ensures

pub returns : goal.returns
returns g c = puts_then c.put_number.result _ _ _ _ (32 ∷ []) _ c.in_ok-put_all.ensures.0 c.put_number.ensures
