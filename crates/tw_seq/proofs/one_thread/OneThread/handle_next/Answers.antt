use Rattle.std.proofs.Common.{◌≡◌, arith, if◌then◌else◌, drop, refl, reverse, ap, sym, ◌∙◌, subst, Err, ℕ}
use Rattle.std.specs.Vec.{with_items}
use Rattle.std.proofs.lemmas.Result.{err_from_is_err_and}
use Rattle.tw_event.specs.Order.{event_before}
use Rattle.tw_sim.specs.Ordered.{insert_all}
use Rattle.tw_seq.specs.declared.one_thread.OneThread.TheInside.{Inside}
use Rattle.tw_seq.specs.Run.{IsNext, IsNextRun, IsStuck}
use Rattle.tw_seq.specs.Thread.{run_of}
use Rattle.tw_model.specs.Quiet.{changes}
use Rattle.tw_model.specs.declared.memory.OrMemory.TheVariants.{Fault}
use Rattle.tw_handlers.specs.Calls.{counter_full, effect_at}
use Rattle.tw_seq.specs.Turn.{receiver}
use Rattle.tw_seq.proofs.Fields.{IsRenewed, from_empty, other_items, renewed_next, renewed_thread}
use Rattle.tw_seq.proofs.Next.{IsReady, next_changes, next_few, next_fits, next_full, next_homes, next_net, next_stuck, next_within}
use Rattle.tw_seq.proofs.one_thread.OneThread.handle_next.Goals as goal
use Rattle.tw_seq.proofs.one_thread.OneThread.handle_next.Goals.{After-deref_mut, After-skip_least, After-begin_tick}

-- the event is the next one of the run
ready : (c : After-deref_mut) → IsReady (run_of c.self.inside) c.deref_mut.result.now c.args.event.now
ready c = record {
  begun = c.self.invariant.begun;
  are = c.deref_mut.ensures.value ∙ c.self.invariant.routers;
  next = subst (λ run. IsNext run c.args.event.now) (sym c.self.view_is) c.requires;
}

pub handle_at-requires-clause-within : goal.handle_at-requires-clause-within
handle_at-requires-clause-within c = next_within (ready (goal.at.handle_at-requires-clause-within c).After-deref_mut)

pub handle_at-requires-clause-net : goal.handle_at-requires-clause-net
handle_at-requires-clause-net c =
    next_net (ready (goal.at.handle_at-requires-clause-net c).After-deref_mut) ∙ sym c.instance-instance.ensures.value

pub handle_at-requires-clause-fits : goal.handle_at-requires-clause-fits
handle_at-requires-clause-fits c = next_fits (ready (goal.at.handle_at-requires-clause-fits c).After-deref_mut) c.self.invariant.stop

pub returns-in_err-note-clause-full : goal.returns-in_err-note-clause-full
returns-in_err-note-clause-full c = λ h.
    let p = err_from_is_err_and c.from_residual.result c.from_residual.ensures.1 in
    let is_full : p.0 ≡ Fault counter_full = cc (p.1, h) in
    let full = c.in_err-note.ensures.full.0 (ap (λ x. Err x) (sym p.2 ∙ is_full)) in
    subst IsStuck c.self.view_is (next_stuck (ready (goal.at.returns-in_err-note-clause-full c).After-deref_mut) full)

pub returns-in_err-note-clause-stuck : goal.returns-in_err-note-clause-stuck
returns-in_err-note-clause-stuck c = λ stuck.
    let p = err_from_is_err_and c.from_residual.result c.from_residual.ensures.1 in
    let full = next_full (ready (goal.at.returns-in_err-note-clause-stuck c).After-deref_mut) (subst IsStuck (sym c.self.view_is) stuck) in
    let told = c.in_err-note.ensures.full.1 full in
    let is_full : p.0 ≡ Fault counter_full = cc (p.2, told) in p.1 ∙ ap (λ x. Err x) is_full

sends_are : (c : After-skip_least) → c.handle_at.new.sends.items ≡ (effect_at (receiver c.deref_mut.result.now c.args.event.now) c.args.event.now).sends
sends_are c = from_empty _ _ _ c.in_ok-note.ensures.sends c.self.invariant.sent

pub move_each-requires-clause-homes : goal.move_each-requires-clause-homes
move_each-requires-clause-homes c =
    next_homes (ready (goal.at.move_each-requires-clause-homes c).After-deref_mut) c.handle_at.new.sends.items c.skip_least.new.self.routers
    (sends_are (goal.at.move_each-requires-clause-homes c).After-skip_least)
    (c.skip_least.ensures.routers ∙ (c.reserve.ensures.routers ∙ c.self.invariant.homes))

pub move_each-requires-clause-room : goal.move_each-requires-clause-room
move_each-requires-clause-room c =
    let few = next_few (ready (goal.at.move_each-requires-clause-room c).After-deref_mut) c.handle_at.new.sends.items (sends_are (goal.at.move_each-requires-clause-room c).After-skip_least) in
    omega (arith, c.in-Ok.ensures.ok, c.skip_least.ensures.room)

-- the fields of the run afterwards
abbrev fields : After-begin_tick → ℕ → Inside
fields c t = record {
  case = c.self.inside.case;
  stop = c.self.inside.stop;
  routers = with_items c.self.inside.routers c.handle_at.new.routers;
  pending = c.begin_tick.new.self;
  sends = c.move_each.new.sends;
  last_change = t;
}

renewed : (c : After-begin_tick) (t : ℕ) → t ≡ (if c.in_ok-note.note.changed then c.args.event.now.time else c.self.inside.last_change)
    → IsRenewed c.self.inside (fields c t) c.args.event.now c.deref_mut.result.now c.in_ok-note.note.changed
renewed c t is =
    let sends = from_empty _ _ _ c.in_ok-note.ensures.sends c.self.invariant.sent in
    let sent = (effect_at (receiver c.deref_mut.result.now c.args.event.now) c.args.event.now).sends in
    record {
      case = refl;
      stop = refl;
      routers = other_items c.self.inside.routers.len c.handle_at.new.routers _ (c.handle_at.auto.routers ∙ c.deref_mut.ensures.len) ∙ c.in_ok-note.ensures.routers;
      homes = ap (λ q. q.routers) c.begin_tick.ensures ∙ c.move_each.ensures.routers ∙ (c.skip_least.ensures.routers ∙ c.reserve.ensures.routers);
      pending =
          ap (λ q. q.events) c.begin_tick.ensures ∙ c.move_each.ensures.events
          ∙ (ap (λ xs. insert_all event_before xs c.skip_least.new.self.events) sends
          ∙ ap (insert_all event_before sent) (c.skip_least.ensures.events ∙ ap (drop 1) c.reserve.ensures.events));
      sent = c.move_each.ensures.sends;
      is_change = c.in_ok-note.ensures.changed;
      change = is;
    }

pub invariant_of-self-then-note : goal.invariant_of-self-then-note
invariant_of-self-then-note c =
    let d = (goal.at.invariant_of-self-then-note c).After-begin_tick in
    renewed_thread c.self.invariant (ready (goal.at.invariant_of-self-then-note c).After-deref_mut) (renewed d c.args.event.now.time (rw c.if-note.true))

pub invariant_of-self-else-note : goal.invariant_of-self-else-note
invariant_of-self-else-note c =
    let d = (goal.at.invariant_of-self-else-note c).After-begin_tick in
    renewed_thread c.self.invariant (ready (goal.at.invariant_of-self-else-note c).After-deref_mut) (renewed d c.self.inside.last_change (rw c.if-note.false))

pub returns-then-note-clause-ok : goal.returns-then-note-clause-ok
returns-then-note-clause-ok c =
    let d = (goal.at.returns-then-note-clause-ok c).After-begin_tick in
    subst (λ run. IsNextRun run (run_of (fields d c.args.event.now.time))) c.self.view_is
    (renewed_next c.self.invariant (ready (goal.at.returns-then-note-clause-ok c).After-deref_mut) (renewed d c.args.event.now.time (rw c.if-note.true)))

pub returns-else-note-clause-ok : goal.returns-else-note-clause-ok
returns-else-note-clause-ok c =
    let d = (goal.at.returns-else-note-clause-ok c).After-begin_tick in
    subst (λ run. IsNextRun run (run_of (fields d c.self.inside.last_change))) c.self.view_is
    (renewed_next c.self.invariant (ready (goal.at.returns-else-note-clause-ok c).After-deref_mut) (renewed d c.self.inside.last_change (rw c.if-note.false)))

pub returns-then-note-clause-changed : goal.returns-then-note-clause-changed
returns-then-note-clause-changed c =
    subst (λ run. c.in_ok-note.note.changed ≡ changes run.case c.args.event.now (reverse run.events)) c.self.view_is
    (next_changes (ready (goal.at.returns-then-note-clause-changed c).After-deref_mut) c.in_ok-note.note.changed c.in_ok-note.ensures.changed)

pub returns-else-note-clause-changed : goal.returns-else-note-clause-changed
returns-else-note-clause-changed c =
    subst (λ run. c.in_ok-note.note.changed ≡ changes run.case c.args.event.now (reverse run.events)) c.self.view_is
    (next_changes (ready (goal.at.returns-else-note-clause-changed c).After-deref_mut) c.in_ok-note.note.changed c.in_ok-note.ensures.changed)

pub returns-then-note-clause-begun : goal.returns-then-note-clause-begun
returns-then-note-clause-begun c =
    let d = (goal.at.returns-then-note-clause-begun c).After-begin_tick in
    (renewed_thread c.self.invariant (ready (goal.at.returns-then-note-clause-begun c).After-deref_mut) (renewed d c.args.event.now.time (rw c.if-note.true))).begun

pub returns-else-note-clause-begun : goal.returns-else-note-clause-begun
returns-else-note-clause-begun c =
    let d = (goal.at.returns-else-note-clause-begun c).After-begin_tick in
    (renewed_thread c.self.invariant (ready (goal.at.returns-else-note-clause-begun c).After-deref_mut) (renewed d c.self.inside.last_change (rw c.if-note.false))).begun

pub returns-then-note-clause-stuck : goal.returns-then-note-clause-stuck
returns-then-note-clause-stuck c = λ stuck.
    let full = next_full (ready (goal.at.returns-then-note-clause-stuck c).After-deref_mut) (subst IsStuck (sym c.self.view_is) stuck) in
    absurd (cc (c.in_ok-note.ensures.full.1 full))

pub returns-else-note-clause-stuck : goal.returns-else-note-clause-stuck
returns-else-note-clause-stuck c = λ stuck.
    let full = next_full (ready (goal.at.returns-else-note-clause-stuck c).After-deref_mut) (subst IsStuck (sym c.self.view_is) stuck) in
    absurd (cc (c.in_ok-note.ensures.full.1 full))
