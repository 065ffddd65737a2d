use Rattle.std.proofs.Common.{drop, length, ap, sym, ◌∙◌, arith}
use Rattle.std.proofs.lemmas.List.{length-drop}
use Rattle.tw_queue.specs.Pending.{together_with}
use Rattle.tw_queue.proofs.Halves.{empty_skipped, homes_skipped, length-both, none_pending}
use Rattle.tw_queue.proofs.pending.Pending.skip_least.Goals as goal

pub returns-then-self-eq0-clause-events : goal.returns-then-self-eq0-clause-events
returns-then-self-eq0-clause-events c =
    let a = c.self.inside in
    let n = c.self.invariant.len in
    let z = none_pending a.calendar a.rest.events c.args.self.now.events (ap (λ q. q.events) c.self.view_is) (omega (arith, c.if-self-eq0.true)) in
    z ∙ ap (drop 1) (sym z)

pub invariant_of-self : goal.invariant_of-self
invariant_of-self c =
    let a = c.self.inside in
    let v = c.self.invariant in
    let s = c.skip_first.ensures in
    let calendar = c.skip_first.new.calendar in
    let rest = c.skip_first.new.rest in
    let n = v.len in
    let old = length-both a.calendar a.rest.events in
    let new = length-both calendar rest.events in
    let less = ap (λ xs. length xs) s.events in
    let left = length-drop 1 (together_with a.calendar a.rest) in
    record {
      homes = homes_skipped a.rest.routers rest.routers a.calendar calendar s.calendar s.routers v.homes;
      by_router = λ h. empty_skipped a.calendar calendar s.calendar (v.by_router h);
      len = omega arith;
      rest_time = s.time;
    }

pub returns-clause-events : goal.returns-clause-events
returns-clause-events c = c.skip_first.ensures.events ∙ ap (λ q. drop 1 q.events) c.self.view_is
