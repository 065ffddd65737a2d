use Rattle.std.proofs.Common.{◌≡◌, true≢false, length, rules, sym, ◌∙◌, vec_len}
use Rattle.tw_threads.proofs.Ends.{all_left, all_same, bounds_before, full_after, halted_after, seats_after, stops_before}
use Rattle.tw_threads.proofs.run.run_all.Goals as goal

pub close-requires : goal.close-requires
close-requires g c = record { seats = seats_after c.args.table _ _ c.gather-gathered.ensures.left }

pub unreachable-requires : goal.unreachable-requires
unreachable-requires g c =
    let before : length c.args.seats.items ≡ vec_len c.args.seats = search rules in
    let after : length c.gather-gathered.result.seats.items ≡ vec_len c.gather-gathered.result.seats = search rules in
    let all = all_left c.args.table _ _ _ c.gather-gathered.ensures.left before c.requires.all in
    absurd (true≢false (sym (c.in-Err.ensures.all.1 (sym after ∙ all))))

pub returns-clause-same : goal.returns-clause-same
returns-clause-same g c =
    let h = c.gather-gathered.ensures in
    all_same g.W.Work.share c.args.table _ _ _ _ h.left c.requires.seated.shares h.shares

pub returns-clause-stop : goal.returns-clause-stop
returns-clause-stop g c = stops_before c.args.table _ _ _ c.gather-gathered.ensures.left c.in-Ok.ensures.stop

pub returns-clause-bound : goal.returns-clause-bound
returns-clause-bound g c = bounds_before c.args.table _ _ _ c.gather-gathered.ensures.left c.in-Ok.ensures.bound

pub returns-clause-full : goal.returns-clause-full
returns-clause-full g c = λ is.
    let h = c.gather-gathered.ensures in
    full_after g.W.Work.share _ _ _ h.shares c.in-Ok.ensures.stop (h.full is)

pub returns-clause-thread : goal.returns-clause-thread
returns-clause-thread g c = λ is. halted_after _ _ c.in-Ok.ensures.halted (c.gather-gathered.ensures.thread is)
