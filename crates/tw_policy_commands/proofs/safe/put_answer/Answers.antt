use Rattle.std.proofs.Common.{[], ◌∷◌, codes}
use Rattle.std.specs.Fmt.{decimal}
use Rattle.std.specs.List.{flat_map}
use Rattle.tw_device.proofs.Puts.{puts_failed, puts_then}
use Rattle.tw_report.specs.Words.{line}
use Rattle.tw_policy_commands.specs.Safe.{answer_text, texts}
use Rattle.tw_policy_commands.proofs.safe.put_answer.Goals as goal

pub returns-in_err-put_line : goal.returns-in_err-put_line
unfolding answer_text
returns-in_err-put_line g c =
    puts_failed c.from_residual.result _ _ _ (line (codes "spp-safe" ∷ codes "1" ∷ [])) _ c.from_residual.ensures.0 c.in_err-put_line.ensures

pub returns-in_err-put_line-2 : goal.returns-in_err-put_line-2
unfolding answer_text
returns-in_err-put_line-2 g c =
    let r = c.from_residual-in_err-put_line-2 in
    let told = rw c.rounds.ensures at c.in_err-put_line-2.ensures in
    puts_then r.result _ _ _ _ (line (codes "spp-safe" ∷ codes "1" ∷ [])) _ c.in_ok-put_line.ensures.0
    (puts_failed r.result _ _ _ (line (codes "rounds" ∷ decimal c.args.elimination.now.rounds ∷ [])) _ r.ensures.0 told)

pub returns-in_err-put_lines : goal.returns-in_err-put_lines
unfolding answer_text
returns-in_err-put_lines g c =
    let r = c.from_residual-in_err-put_lines in
    let rounds = rw c.rounds.ensures at c.in_ok-put_line-2.ensures.0 in
    puts_then r.result _ _ _ _ (line (codes "spp-safe" ∷ codes "1" ∷ [])) _ c.in_ok-put_line.ensures.0
    (puts_then r.result _ _ _ _ (line (codes "rounds" ∷ decimal c.args.elimination.now.rounds ∷ [])) _ rounds
    (puts_failed r.result _ _ _ (flat_map line (texts c.args.lines.now)) _ r.ensures.0 c.in_err-put_lines.ensures))

pub returns : goal.returns
unfolding answer_text
returns g c =
    let r = c.put_verdict in
    let rounds = rw c.rounds.ensures at c.in_ok-put_line-2.ensures.0 in
    puts_then r.result _ _ _ _ (line (codes "spp-safe" ∷ codes "1" ∷ [])) _ c.in_ok-put_line.ensures.0
    (puts_then r.result _ _ _ _ (line (codes "rounds" ∷ decimal c.args.elimination.now.rounds ∷ [])) _ rounds
    (puts_then r.result _ _ _ _ (flat_map line (texts c.args.lines.now)) _ c.in_ok-put_lines.ensures.0 r.ensures))
