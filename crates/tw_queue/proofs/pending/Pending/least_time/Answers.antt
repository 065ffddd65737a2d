use Rattle.std.proofs.Common.{option_map, slice_get, ap, sym, arith}
use Rattle.tw_queue.proofs.Halves.{least_told, none_pending}
use Rattle.tw_queue.proofs.pending.Pending.least_time.Goals as goal

pub returns-then-self-eq0 : goal.returns-then-self-eq0
returns-then-self-eq0 c =
    let a = c.self.inside in
    let n = c.self.invariant.len in
    ap (λ xs. option_map (λ e. e.time) (slice_get xs 0)) (sym (none_pending a.calendar a.rest.events c.args.self.now.events (ap (λ q. q.events) c.self.view_is) (omega (arith, c.if-self-eq0.true))))

pub returns : goal.returns
returns c = grind (arith, least_told, option_map, slice_get)
