use Rattle.std.proofs.Common.{inl, inr, ◌∙◌}
use Rattle.std.proofs.lemmas.Result.{err_from_is_err_and}
use Rattle.tw_commands.proofs.Unread.{some_input, unread}
use Rattle.tw_run.proofs.run.run_io.Goals as goal

pub returns-in_err-text-clause-answer : goal.returns-in_err-text-clause-answer
returns-in_err-text-clause-answer g c =
    let p = err_from_is_err_and c.from_residual.result c.from_residual.ensures.1 in
    let some = some_input (g.R.Source.remaining c.args.source.now) in
    inl (some.0, some.1, rw (p.1, p.2) (unread c.in_err-text.field-0.0 _ _ _ _ _ c.in_err-text.ensures.err c.requires.sink))

pub returns-clause-answer : goal.returns-clause-answer
returns-clause-answer g c =
    let leaves = rw c.deref.ensures.value at c.answer_text-ended.ensures in
    elim leaves [
      | inl told ↦ inl (c.in_ok-text.text.items, c.in_ok-text.ensures.input, inr (c.hand_back.ensures.failed ∙ c.in_ok-text.ensures.ok, told))
      | inr lacks ↦ inr (record { input = c.in_ok-text.text.items; read = c.in_ok-text.ensures.input; is_case = lacks.0; source = c.hand_back.ensures.failed ∙ c.in_ok-text.ensures.ok; lacks = lacks.1 })
    ]
