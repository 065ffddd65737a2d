use Rattle.std.proofs.Common.{◌≡◌, [], get_or, sym, ◌∙◌, arith}
use Rattle.std.proofs.lemmas.List.{get_or_read}
use Rattle.tw_ordered.proofs.Released.{no_length}
use Rattle.tw_calendar.proofs.Stepped.{ahead_first, ahead_none}
use Rattle.tw_calendar.proofs.ring.are_ahead.Goals as goal

pub returns-then-len-eq0 : goal.returns-then-len-eq0
returns-then-len-eq0 c =
    let lists = c.args.buckets.now in
    let p = c.first_after.result in
    let f = c.first_after.ensures in
    let b = c.index-buckets-first_after in
    let t = c.requires.turn in
    let at = f.at in
    let number = t.number in
    let read : b.result ≡ get_or lists p [] = b.is ∙ (sym b.is ∙ get_or_read lists p b.result (omega arith) b.is []) in
    ahead_none c.args.tick c.args.base c.args.marks.now lists t c.requires.back p f (sym read ∙ no_length b.result (omega (arith, c.len.ensures, c.if-len-eq0.true)))

pub returns : goal.returns
returns c =
    let lists = c.args.buckets.now in
    let p = c.first_after.result in
    let f = c.first_after.ensures in
    let b = c.index-buckets-first_after in
    let t = c.requires.turn in
    let at = f.at in
    let number = t.number in
    let read : b.result ≡ get_or lists p [] = b.is ∙ (sym b.is ∙ get_or_read lists p b.result (omega arith) b.is []) in
    ahead_first c.args.tick c.args.base c.args.marks.now lists t c.requires.back p f b.result read (omega (arith, c.len.ensures, c.if-len-eq0.false))
    (omega (arith, sym c.first_time.ensures, c.saturating_add.ensures, c.if-first_time-saturating_add.false))
