use Rattle.std.proofs.Common.{◌≡◌, ◌++◌, false, reverse, slice_get, ap, sym, ◌∙◌, subst, if◌then◌else◌}
use Rattle.tw_shard.proofs.LettingGo.{added}
use Rattle.tw_shard.proofs.Rings.{events_behind}
use Rattle.tw_shard.specs.Past.{Past, past_of, own_run}
use Rattle.tw_shard.specs.Timeline.{events_of}
use Rattle.tw_shard.proofs.past.Past.add.Goals as goal

-- the events afterwards
events_now : (c : goal.After-self-2-1) → (if c.self.inside.retains then reverse c.retain.new.events.items else own_run c.self.inside.case.now c.self.inside.node c.args.bound)
    ≡ events_of (reverse (c.args.steps.now ++ c.args.newer.now)) ++ (past_of c.self.inside).events
events_now c =
    let a = c.self.inside in
    let steps = c.args.steps.now ++ c.args.newer.now in
    let bound = c.args.bound in
    let gone = subst (λ (p : Past). p.retains ≡ false → events_of (reverse steps) ++ p.events ≡ own_run p.case p.node bound) (sym c.self.view_is) c.requires in
    added a.retains a.events.items c.retain.new.events.items (own_run a.case.now a.node a.done) (own_run a.case.now a.node bound) steps c.in_ok-retain.ensures.ok gone

pub invariant_of-self-2 : goal.invariant_of-self-2
invariant_of-self-2 c =
    let old = (past_of c.self.inside).events in
    let steps = c.args.steps.now in
    let newer = c.args.newer.now in
    let last = c.newest-last.ensures old c.self.invariant in
    c.newest-self-inside.ensures (events_of (reverse steps) ++ old) last ∙ ap (λ l. slice_get l 0) (events_behind steps newer old ∙ sym (events_now c))

pub returns-clause-ok : goal.returns-clause-ok
returns-clause-ok c =
    let a = c.self.inside in
    (λ i. record { case = a.case.now; node = a.node; retains = a.retains; events = events_now c i; done = c.args.bound })
    ∙ ap (λ (p : Past). record p { events = events_of (reverse (c.args.steps.now ++ c.args.newer.now)) ++ p.events; done = c.args.bound }) c.self.view_is
