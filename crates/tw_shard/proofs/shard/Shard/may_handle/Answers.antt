use Rattle.std.proofs.Common.{◌≡◌, Bool, true, Err, Ok, Result, length, nat_lt, if◌then◌else◌, ap, sym, ◌∙◌}
use Rattle.tw_core.specs.declared.refusal.Refusal.{Refusal}
use Rattle.tw_core.specs.declared.refusal.Refusal.TheVariants.{AheadFull, Double}
use Rattle.tw_core.specs.Steps.{is_newest}
use Rattle.tw_model.specs.Case.{simulation}
use Rattle.tw_shard.specs.Shard.{timeline}
use Rattle.tw_shard.specs.Timeline.{Timeline, history}
use Rattle.tw_shard.proofs.shard.Shard.may_handle.Goals as goal

-- what the two tests lead to
abbrev told : Bool → Bool → Result (Unit {0}) Refusal
told newest room = if newest then Err Double else (if room then Ok tt else Err AheadFull)

pub returns-then-is_newest-clause-value : goal.returns-then-is_newest-clause-value
returns-then-is_newest-clause-value c =
    let s = c.args.self.now in
    let m = simulation s.terms.case in
    let t = timeline s c.args.router in
    let here = ap (λ (t : Timeline). is_newest m c.args.event.now (history t)) (sym c.timeline-timeline.ensures.value) in
    let newest : is_newest m c.args.event.now (history t) ≡ true = here ∙ (sym (c.is_newest.ensures s.terms.case) ∙ c.if-is_newest.true) in
    ap (λ b. told b (nat_lt (length t.ahead) t.room)) (sym newest)
