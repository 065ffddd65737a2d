use Rattle.std.proofs.Common.{◌≡◌, [], ◌∷◌, ap, codes, length, subst, sym}
use Rattle.std.proofs.lemmas.List.{length-map}
use Rattle.tw_device.specs.Sink.{Puts}
use Rattle.tw_device.proofs.Puts.{puts_failed, puts_then}
use Rattle.tw_instance.specs.Tables.{items}
use Rattle.tw_report.specs.Words.{line}
use Rattle.tw_policy_commands.specs.Stable.{assignment_lines, count_line, stable_text}
use Rattle.tw_policy_commands.proofs.stable.put_answer.Goals as goal

pub returns-in_err-put_line : goal.returns-in_err-put_line
unfolding stable_text
returns-in_err-put_line g c =
    puts_failed c.from_residual.result _ _ _ (line (codes "spp-stable" ∷ codes "1" ∷ [])) _ c.from_residual.ensures.0 c.in_err-put_line.ensures

pub returns-in_err-put_assignments : goal.returns-in_err-put_assignments
unfolding stable_text
returns-in_err-put_assignments g c =
    let r = c.from_residual-in_err-put_assignments in
    puts_then r.result _ _ _ _ (line (codes "spp-stable" ∷ codes "1" ∷ [])) _ c.in_ok-put_line.ensures.0
    (puts_failed r.result _ _ _ (assignment_lines c.args.instance.now 1 (items c.args.assignments.now)) _ r.ensures.0 c.in_err-put_assignments.ensures)

pub returns : goal.returns
unfolding stable_text
returns g c =
    let r = c.put_count in
    let rows = c.args.assignments.now in
    let same : length rows ≡ length (items rows) = sym (length-map rows (λ v. v.items)) in
    let told = subst (λ k. Puts r.result (g.S.Sink.written c.put_assignments.new.sink) (g.S.Sink.written r.new.sink) (g.S.Sink.failed r.new.sink) (count_line k c.args.are_all)) same r.ensures in
    puts_then r.result _ _ _ _ (line (codes "spp-stable" ∷ codes "1" ∷ [])) _ c.in_ok-put_line.ensures.0
    (puts_then r.result _ _ _ _ (assignment_lines c.args.instance.now 1 (items rows)) _ c.in_ok-put_assignments.ensures.0 told)
