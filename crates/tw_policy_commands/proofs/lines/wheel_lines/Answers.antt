use Rattle.std.proofs.Common.{◌≡◌, ◌∙◌, ap, map}
use Rattle.std.proofs.lemmas.Result.{IfOk-weaker}
use Rattle.tw_model.specs.Net.{Net}
use Rattle.tw_elimination.specs.Wheel.{pivot_of, wheel_of}
use Rattle.tw_policy_commands.specs.Safe.{texts, wheel_words}
use Rattle.tw_policy_commands.proofs.Texts.{told_words}
use Rattle.tw_policy_commands.proofs.lines.wheel_lines.Goals as goal

pub returns : goal.returns
returns c =
    let e = c.args.elimination.now in
    let net = c.instance.ensures.value ∙ ap (λ x. x.net) c.case.ensures.value in
    let pivots = c.deref.result.now in
    IfOk-weaker c.pivot_lines.result (λ lines. texts lines.items ≡ map (λ p. wheel_words c.instance.result.now (pivot_of p)) pivots)
    (λ lines. texts lines.items ≡ map (wheel_words e.case.net) (wheel_of e.case e.rounds))
    (λ lines is. is ∙ (ap (λ (n : Net). map (λ p. wheel_words n (pivot_of p)) pivots) net
    ∙ (told_words e.case.net pivots ∙ ap (map (wheel_words e.case.net)) (ap (map pivot_of) c.deref.ensures.value ∙ c.in_ok-pivots.ensures.value))))
    c.pivot_lines.ensures
