use Rattle.std.proofs.Common.{◌≡◌, ◌+◌, ◌*◌, ◌||◌, true, drop, take, ap, sym, ◌∙◌, arith}
use Rattle.std.specs.List.{list_any}
use Rattle.std.proofs.lemmas.List.{drop_all}
use Rattle.tw_ordered.specs.Queue.{is_before}
use Rattle.tw_calendar.proofs.Early.{any_split}
use Rattle.tw_calendar.proofs.ring.any_in_buckets.Goals as goal

pub returns-then-any_of_word : goal.returns-then-any_of_word
returns-then-any_of_word c =
    let p = is_before c.args.router c.args.limit in
    let lists = c.args.buckets.now in
    let start = c.loop-word.word * 64 in
    let whole = any_split (λ events. list_any p events) start lists in
    let found : list_any (λ events. list_any p events) (take 64 (drop start lists)) ≡ true = sym c.any_of_word.ensures ∙ c.if-any_of_word.true in
    sym (ap (λ b. b || list_any (λ events. list_any p events) (drop (start + 64) lists)) found) ∙ sym whole ∙ c.loop-word.invariant

pub loop-word-preserved : goal.loop-word-preserved
loop-word-preserved c =
    let p = is_before c.args.router c.args.limit in
    let lists = c.args.buckets.now in
    let start = c.loop-word.word * 64 in
    let whole = any_split (λ events. list_any p events) start lists in
    let none = sym c.any_of_word.ensures ∙ c.if-any_of_word.false in
    ap (λ n. list_any (λ events. list_any p events) (drop n lists)) (let q : (c.loop-word.word + 1) * 64 ≡ start + 64 = omega arith in q)
    ∙ sym (whole ∙ ap (λ b. b || list_any (λ events. list_any p events) (drop (start + 64) lists)) none) ∙ c.loop-word.invariant

pub returns : goal.returns
returns c =
    let p = is_before c.args.router c.args.limit in
    let lists = c.args.buckets.now in
    sym (ap (list_any (λ events. list_any p events)) (drop_all (c.loop-word.word * 64) lists (omega (arith, c.requires.number, c.loop-word-test.false)))) ∙ c.loop-word.invariant
