use Rattle.std.proofs.Common.{◌≡◌, ◌≤◌, ◌-◌, ap, arith, drop, length, take}
use Rattle.std.proofs.lemmas.List.{length-drop, take_all}
use Rattle.tw_text.proofs.PathLines.{path_line_from}
use Rattle.tw_text.proofs.path_line.path_in.Goals as goal

pub returns-in_ok-nodes-in-len1-up : goal.returns-in_ok-nodes-in-len1-up
returns-in_ok-nodes-in-len1-up c =
    let cut = c.in-Some.ensures.cases in
    let ns = c.in-Some-numbers_in.numbers.items in
    let has = c.in-len1-up.len_at_least in
    let more = length-drop 1 ns in
    let same = c.as_slice-2.ensures.value in
    let count = ap length same in
    let all : take (length ns - 1) (drop 1 ns) ≡ drop 1 ns = take_all (length ns - 1) (drop 1 ns) (omega (arith, more, has, count)) in
    let two : 2 ≤ length ns = omega (arith, c.if-nodes-ge1.true, has, count) in
    let whole = path_line_from c.args.line.now c.as_slice.result.now c.in-Some.text.now ns c.as_slice.ensures cut.0 cut.1 c.in-Some-numbers_in.ensures two in
    rw (c.in_ok-nodes-in-len1-up.ensures.items, same, all) whole
