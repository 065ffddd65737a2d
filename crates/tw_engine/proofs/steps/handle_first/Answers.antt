use Rattle.std.proofs.Common.{sym, ap, subst, ◌∙◌, arith}
use Rattle.tw_engine.specs.Past.{Handled}
use Rattle.tw_engine.specs.Process.{AreOwn, joined}
use Rattle.tw_engine.proofs.Machine.{as_told, counter_full, double, head_own, late, nil, no_note, no_room, none, own_rest, went}
use Rattle.tw_engine.proofs.Newest.{back_again}
use Rattle.tw_process.specs.Behaviour.{simulation_of}
use Rattle.tw_engine.proofs.steps.handle_first.Goals as goal

pub returns-in_default-clause-refused : goal.returns-in_default-clause-refused
returns-in_default-clause-refused g c = λ kept bound.
    let m = simulation_of g.M.Event.Timed.parts g.M.Event.Ord.cmp (g.M.ProcessModel.behaviour c.args.past.now.model) in
    let p = joined c.args.past.now c.args.pending.now kept c.args.flight.now.items bound in
    none m c.keeps_laws.ensures.lawful c.args.stop p c.requires.own c.least.ensures.order c.in_default.ensures.first

pub returns-then-time-stop-clause-refused : goal.returns-then-time-stop-clause-refused
returns-then-time-stop-clause-refused g c = λ kept bound.
    let m = simulation_of g.M.Event.Timed.parts g.M.Event.Ord.cmp (g.M.ProcessModel.behaviour c.args.past.now.model) in
    let p = joined c.args.past.now c.args.pending.now kept c.args.flight.now.items bound in
    late m c.keeps_laws.ensures.lawful c.args.stop p c.requires.own c.least.ensures.order c.in-Some.event c.in-Some.ensures.first (omega arith)

pub returns-then-is_newest-clause-refused : goal.returns-then-is_newest-clause-refused
returns-then-is_newest-clause-refused g c = λ kept bound.
    let m = simulation_of g.M.Event.Timed.parts g.M.Event.Ord.cmp (g.M.ProcessModel.behaviour c.args.past.now.model) in
    let p = joined c.args.past.now c.args.pending.now kept c.args.flight.now.items bound in
    double m c.keeps_laws.ensures.lawful c.args.stop p c.requires.own c.least.ensures.order c.in-Some.event c.in-Some.ensures.first (omega arith) c.is_newest.result c.is_newest.ensures c.if-is_newest.true

pub handle-requires-clause-home : goal.handle-requires-clause-home
handle-requires-clause-home g c =
    let m = simulation_of g.M.Event.Timed.parts g.M.Event.Ord.cmp (g.M.ProcessModel.behaviour c.args.past.now.model) in
    (head_own m c.args.past.now.number c.args.pending.now c.in-Some.event c.requires.own (sym c.in-Some.ensures.first)).0

pub handle-requires-clause-suits : goal.handle-requires-clause-suits
handle-requires-clause-suits g c =
    let m = simulation_of g.M.Event.Timed.parts g.M.Event.Ord.cmp (g.M.ProcessModel.behaviour c.args.past.now.model) in
    (head_own m c.args.past.now.number c.args.pending.now c.in-Some.event c.requires.own (sym c.in-Some.ensures.first)).1

pub returns-in-Err-CounterFull-clause-refused : goal.returns-in-Err-CounterFull-clause-refused
returns-in-Err-CounterFull-clause-refused g c = λ kept bound.
    let m = simulation_of g.M.Event.Timed.parts g.M.Event.Ord.cmp (g.M.ProcessModel.behaviour c.args.past.now.model) in
    let p = joined c.args.past.now c.args.pending.now kept c.args.flight.now.items bound in
    counter_full m c.keeps_laws.ensures.lawful c.args.stop p c.requires.own c.least.ensures.order c.in-Some.event c.in-Some.ensures.first (omega arith) c.is_newest.result c.is_newest.ensures c.if-is_newest.false c.keeps_laws.ensures.len c.in-Err-CounterFull.field-0 c.in-Err-CounterFull.field-0-is c.in-Err-CounterFull.ensures.full

pub returns-in-Err-Memory-clause-refused : goal.returns-in-Err-Memory-clause-refused
returns-in-Err-Memory-clause-refused g c = λ kept bound.
    let m = simulation_of g.M.Event.Timed.parts g.M.Event.Ord.cmp (g.M.ProcessModel.behaviour c.args.past.now.model) in
    let p = joined c.args.past.now c.args.pending.now kept c.args.flight.now.items bound in
    no_note m c.keeps_laws.ensures.lawful c.args.stop p c.requires.own c.least.ensures.order c.in-Some.event c.in-Some.ensures.first (omega arith) c.is_newest.result c.is_newest.ensures c.if-is_newest.false c.keeps_laws.ensures.len c.in-Err-Memory.field-0 c.in-Err-Memory.field-0-is c.in-Err-Memory.ensures.full

pub returns-then-is_err-clause-refused : goal.returns-then-is_err-clause-refused
returns-then-is_err-clause-refused g c = λ kept bound.
    let m = simulation_of g.M.Event.Timed.parts g.M.Event.Ord.cmp (g.M.ProcessModel.behaviour c.args.past.now.model) in
    let p = joined c.args.past.now c.args.pending.now kept c.args.flight.now.items bound in
    no_room m c.keeps_laws.ensures.lawful c.args.stop p c.requires.own c.least.ensures.order c.in-Some.event c.in-Some.ensures.first (omega arith) c.is_newest.result c.is_newest.ensures c.if-is_newest.false c.keeps_laws.ensures.len c.in-Ok.field-0 c.in-Ok.ensures.full

pub returns-then-is_err-clause-err : goal.returns-then-is_err-clause-err
returns-then-is_err-clause-err g c =
    back_again (simulation_of g.M.Event.Timed.parts g.M.Event.Ord.cmp (g.M.ProcessModel.behaviour c.handle.new.self.model)) c.args.past.now c.handle.new.self c.undo_last.new.self c.in-Some.event
    _ _ c.in-Ok.ensures.ok c.undo_last.ensures.same c.undo_last.ensures.undone

pub returns-then-is_err-clause-same : goal.returns-then-is_err-clause-same
returns-then-is_err-clause-same g c =
    c.undo_last.ensures.same ∙ ap (λ (q : Handled _ _). record q { ahead = c.undo_last.new.self.ahead }) c.in-Ok.ensures.ok

pub returns-clause-own : goal.returns-clause-own
returns-clause-own g c =
    let m = simulation_of g.M.Event.Timed.parts g.M.Event.Ord.cmp (g.M.ProcessModel.behaviour c.args.past.now.model) in
    subst (AreOwn m c.args.past.now.number) (sym c.take_least.ensures.rest) (own_rest m c.args.past.now.number c.args.pending.now c.requires.own)

pub returns-clause-same : goal.returns-clause-same
returns-clause-same g c =
    c.in-Ok.ensures.ok ∙ ap (λ l. record c.args.past.now { ahead = l }) (sym (ap (λ q. q.ahead) c.in-Ok.ensures.ok))

pub returns-clause-refused : goal.returns-clause-refused
returns-clause-refused g c = λ kept bound.
    let m = simulation_of g.M.Event.Timed.parts g.M.Event.Ord.cmp (g.M.ProcessModel.behaviour c.args.past.now.model) in
    let p = joined c.args.past.now c.args.pending.now kept c.args.flight.now.items bound in
    went m c.keeps_laws.ensures.lawful c.args.stop p c.requires.own c.least.ensures.order c.in-Some.event c.in-Some.ensures.first (omega arith) c.is_newest.result c.is_newest.ensures c.if-is_newest.false c.keeps_laws.ensures.len c.in-Ok.field-0 c.in-Ok.ensures.full

pub returns-clause-ok : goal.returns-clause-ok
returns-clause-ok g c = λ kept bound.
    let m = simulation_of g.M.Event.Timed.parts g.M.Event.Ord.cmp (g.M.ProcessModel.behaviour c.args.past.now.model) in
    let p = joined c.args.past.now c.args.pending.now kept c.args.flight.now.items bound in
    as_told m c.keeps_laws.ensures.lawful c.args.stop p c.requires.own c.least.ensures.order c.in-Some.event c.in-Some.ensures.first (omega arith) c.is_newest.result c.is_newest.ensures c.if-is_newest.false c.keeps_laws.ensures.len c.in-Ok.field-0 c.handle.new.self c.take_least.new.self c.deref.result.now c.args.sends.now.items
    c.put_out.new.flight.items c.reserve.new.self.items c.in-Ok.ensures.ok c.take_least.ensures.rest (nil c.args.sends.now.items (omega (arith, c.args.sends.now.ok.0)))
    (c.deref.ensures.value ∙ c.in-Ok.ensures.sends) c.put_out.ensures c.reserve.ensures.items c.in-Ok.ensures.full
