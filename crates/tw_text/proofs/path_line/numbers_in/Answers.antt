use Rattle.std.proofs.Common.{◌+◌, [], ◌∷◌, append_assoc}
use Rattle.std.proofs.lemmas.List.{take_rest}
use Rattle.tw_text.proofs.PathLines.{last_number, more_numbers}
use Rattle.tw_text.proofs.path_line.numbers_in.Goals as goal

pub returns-then-end-rest : goal.returns-then-end-rest
returns-then-end-rest c =
    rw c.in-Ok.ensures.ok
    (c.loop-number.invariant (c.in-Some.number ∷ []) (last_number c.loop-number.rest.now c.in-Some.number c.in-Some.end c.in-Some.ensures c.if-end-rest.true))

pub loop-number-preserved : goal.loop-number-preserved
loop-number-preserved c =
    let rest = c.loop-number.rest.now in
    let number = c.in-Some.number in
    rw (take_rest rest (c.in-Some.end + 1))
    (λ ns h. rw (c.in-Ok.ensures.ok, append_assoc c.loop-number.numbers.items (number ∷ []) ns)
    (c.loop-number.invariant (number ∷ ns) (more_numbers rest ns number c.in-Some.end c.in-Some.ensures c.if-end-rest.false h)))
