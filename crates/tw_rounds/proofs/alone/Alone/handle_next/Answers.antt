use Rattle.std.proofs.Common.{refl, ◌≡◌, ◌<◌, ◌≤◌, ◌∷◌, true, Err, [], drop, length, set, slice_get, vec_capacity, ap, sym, ◌∙◌, subst, arith}
use Rattle.std.proofs.lemmas.Result.{err_from_is_err_and}
use Rattle.tw_engine.specs.Past.{log_after}
use Rattle.tw_engine.specs.Process.{handled_in_turn}
use Rattle.tw_process.specs.Behaviour.{simulation_of}
use Rattle.tw_process.specs.declared.refused.Refused.{Refused}
use Rattle.tw_process.specs.declared.refused.Refused.TheVariants.{CounterFull}
use Rattle.tw_rounds.proofs.InTurn.{IsFurther, are_next, bound_rises, in_turn, is_next, kept_next, sent, suits}
use Rattle.tw_rounds.proofs.Lists.{if_err, rewritten, set_same, there_at}
use Rattle.tw_rounds.specs.Alone.{AreCommitted, IsAlone, IsFullNext, bound_of, run_at}
use Rattle.tw_sequential.specs.Run.{IsNext, IsNextRun}
use Rattle.tw_sim.specs.Seq.{insert_all}
use Rattle.tw_sim.specs.Simulation.{only, state}
use Rattle.tw_rounds.proofs.alone.Alone.handle_next.Goals as goal

pub handle_at-requires-clause-here : goal.handle_at-requires-clause-here
handle_at-requires-clause-here g c =
    let a = c.self.inside in
    let sim = λ (model : g.row.M.Denot). simulation_of g.M.Event.Timed.parts g.M.Event.Ord.cmp (g.M.ProcessModel.behaviour model) in
    let m = sim a.model.now in
    let law = c.model_is_lawful.ensures.lawful in
    let e = c.args.event.now in
    let xs = a.members.items in
    let s = a.progress.since in
    let n = a.progress.turns in
    let next = subst (λ run. IsNext (sim run.model) run e) (sym c.self.view_is) c.requires in
    let kept = c.self.invariant.0 in
    let are = c.self.invariant.1 in
    let home = sym c.dst.ensures in
    let value = c.deref_mut.ensures.value in
    let l = law.receiver e (suits m law a.model.now a.stop s n a.pending kept e next) in
    let count = are.count in
    let len = ap length value in
    omega (arith, l, count, len, home)

pub handle_at-requires-clause-settled : goal.handle_at-requires-clause-settled
handle_at-requires-clause-settled g c = λ x at.
    let a = c.self.inside in
    let sim = λ (model : g.row.M.Denot). simulation_of g.M.Event.Timed.parts g.M.Event.Ord.cmp (g.M.ProcessModel.behaviour model) in
    let m = sim a.model.now in
    let law = c.model_is_lawful.ensures.lawful in
    let e = c.args.event.now in
    let xs = a.members.items in
    let s = a.progress.since in
    let n = a.progress.turns in
    let next = subst (λ run. IsNext (sim run.model) run e) (sym c.self.view_is) c.requires in
    let kept = c.self.invariant.0 in
    let are = c.self.invariant.1 in
    let home = sym c.dst.ensures in
    let value = c.deref_mut.ensures.value in
    let at2 = ap (slice_get xs) home ∙ (ap (λ ys. slice_get ys c.dst.result) (sym value) ∙ at) in
    let is = (are.each (m.dst e) x at2).0 in
    is.ahead

pub handle_at-requires-clause-own : goal.handle_at-requires-clause-own
handle_at-requires-clause-own g c = λ x at.
    let a = c.self.inside in
    let sim = λ (model : g.row.M.Denot). simulation_of g.M.Event.Timed.parts g.M.Event.Ord.cmp (g.M.ProcessModel.behaviour model) in
    let m = sim a.model.now in
    let law = c.model_is_lawful.ensures.lawful in
    let e = c.args.event.now in
    let xs = a.members.items in
    let s = a.progress.since in
    let n = a.progress.turns in
    let next = subst (λ run. IsNext (sim run.model) run e) (sym c.self.view_is) c.requires in
    let kept = c.self.invariant.0 in
    let are = c.self.invariant.1 in
    let home = sym c.dst.ensures in
    let value = c.deref_mut.ensures.value in
    let at2 = ap (slice_get xs) home ∙ (ap (λ ys. slice_get ys c.dst.result) (sym value) ∙ at) in
    let is = (are.each (m.dst e) x at2).0 in
    sym is.number

pub handle_at-requires-clause-suits : goal.handle_at-requires-clause-suits
handle_at-requires-clause-suits g c = λ x at.
    let a = c.self.inside in
    let sim = λ (model : g.row.M.Denot). simulation_of g.M.Event.Timed.parts g.M.Event.Ord.cmp (g.M.ProcessModel.behaviour model) in
    let m = sim a.model.now in
    let law = c.model_is_lawful.ensures.lawful in
    let e = c.args.event.now in
    let xs = a.members.items in
    let s = a.progress.since in
    let n = a.progress.turns in
    let next = subst (λ run. IsNext (sim run.model) run e) (sym c.self.view_is) c.requires in
    let kept = c.self.invariant.0 in
    let are = c.self.invariant.1 in
    let home = sym c.dst.ensures in
    let value = c.deref_mut.ensures.value in
    let at2 = ap (slice_get xs) home ∙ (ap (λ ys. slice_get ys c.dst.result) (sym value) ∙ at) in
    let is = (are.each (m.dst e) x at2).0 in
    subst (λ md. (sim md).suits e ≡ true) (sym is.model) (suits m law a.model.now a.stop s n a.pending kept e next)

pub handle_at-requires-clause-time : goal.handle_at-requires-clause-time
handle_at-requires-clause-time g c = λ x at.
    let a = c.self.inside in
    let sim = λ (model : g.row.M.Denot). simulation_of g.M.Event.Timed.parts g.M.Event.Ord.cmp (g.M.ProcessModel.behaviour model) in
    let m = sim a.model.now in
    let law = c.model_is_lawful.ensures.lawful in
    let e = c.args.event.now in
    let xs = a.members.items in
    let s = a.progress.since in
    let n = a.progress.turns in
    let next = subst (λ run. IsNext (sim run.model) run e) (sym c.self.view_is) c.requires in
    let kept = c.self.invariant.0 in
    let are = c.self.invariant.1 in
    let home = sym c.dst.ensures in
    let value = c.deref_mut.ensures.value in
    let at2 = ap (slice_get xs) home ∙ (ap (λ ys. slice_get ys c.dst.result) (sym value) ∙ at) in
    let is = (are.each (m.dst e) x at2).0 in
    let soon = next.2 in
    let most = c.self.invariant.4 in
    subst (λ md. m.time e < (g.M.ProcessModel.behaviour md).latest) (sym is.model) (omega (arith, soon, most))

pub handle_at-requires-clause-turn : goal.handle_at-requires-clause-turn
handle_at-requires-clause-turn g c = λ x at.
    let a = c.self.inside in
    let sim = λ (model : g.row.M.Denot). simulation_of g.M.Event.Timed.parts g.M.Event.Ord.cmp (g.M.ProcessModel.behaviour model) in
    let m = sim a.model.now in
    let law = c.model_is_lawful.ensures.lawful in
    let e = c.args.event.now in
    let xs = a.members.items in
    let s = a.progress.since in
    let n = a.progress.turns in
    let next = subst (λ run. IsNext (sim run.model) run e) (sym c.self.view_is) c.requires in
    let kept = c.self.invariant.0 in
    let are = c.self.invariant.1 in
    let home = sym c.dst.ensures in
    let value = c.deref_mut.ensures.value in
    let at2 = ap (slice_get xs) home ∙ (ap (λ ys. slice_get ys c.dst.result) (sym value) ∙ at) in
    let is = (are.each (m.dst e) x at2).0 in
    let p = c.in_ok-progress.progress in
    let further : IsFurther m law a.model.now a.stop s n a.pending kept e next p.since p.turns = record {
      later = λ l. (let k = c.in_ok-progress.ensures.later (omega (arith, l, c.time.ensures)) in (k.0 ∙ c.time.ensures, k.1));
      same = λ l. c.in_ok-progress.ensures.same (omega (arith, l, c.time.ensures));
    } in
    subst (λ md. only (sim md) x.process.number (log_after (sim md) p.since p.turns) ≡ e ∷ x.process.past) (sym is.model)
    (subst (λ k. only m k (log_after m p.since p.turns) ≡ e ∷ x.process.past) (sym is.number)
    (in_turn m law a.model.now a.stop s n a.pending kept e next p.since p.turns further _ refl xs are x at2))

pub handle_at-requires-clause-room : goal.handle_at-requires-clause-room
handle_at-requires-clause-room g c = λ x at.
    let a = c.self.inside in
    let sim = λ (model : g.row.M.Denot). simulation_of g.M.Event.Timed.parts g.M.Event.Ord.cmp (g.M.ProcessModel.behaviour model) in
    let m = sim a.model.now in
    let law = c.model_is_lawful.ensures.lawful in
    let e = c.args.event.now in
    let xs = a.members.items in
    let s = a.progress.since in
    let n = a.progress.turns in
    let next = subst (λ run. IsNext (sim run.model) run e) (sym c.self.view_is) c.requires in
    let kept = c.self.invariant.0 in
    let are = c.self.invariant.1 in
    let home = sym c.dst.ensures in
    let value = c.deref_mut.ensures.value in
    let at2 = ap (slice_get xs) home ∙ (ap (λ ys. slice_get ys c.dst.result) (sym value) ∙ at) in
    let is = (are.each (m.dst e) x at2).0 in
    subst (λ md. (g.M.ProcessModel.behaviour md).most ≤ vec_capacity a.sends) (sym is.model) c.self.invariant.3

pub invariant_of-self : goal.invariant_of-self
invariant_of-self g c =
    let a = c.self.inside in
    let sim = λ (model : g.row.M.Denot). simulation_of g.M.Event.Timed.parts g.M.Event.Ord.cmp (g.M.ProcessModel.behaviour model) in
    let m = sim a.model.now in
    let law = c.model_is_lawful.ensures.lawful in
    let e = c.args.event.now in
    let xs = a.members.items in
    let s = a.progress.since in
    let n = a.progress.turns in
    let next = subst (λ run. IsNext (sim run.model) run e) (sym c.self.view_is) c.requires in
    let kept = c.self.invariant.0 in
    let are = c.self.invariant.1 in
    let home = sym c.dst.ensures in
    let value = c.deref_mut.ensures.value in
    let there = there_at xs (m.dst e) (let l = law.receiver e (suits m law a.model.now a.stop s n a.pending kept e next) in let count = are.count in omega (arith, l, count)) in
    let x = there.0 in
    let at = there.1 in
    let is = (are.each (m.dst e) x at).0 in
    let here = ap (λ ys. slice_get ys c.dst.result) value ∙ (ap (slice_get xs) (sym home) ∙ at) in
    let items = rewritten a.members.len c.handle_at.new.members _ (c.handle_at.auto.members ∙ c.deref_mut.ensures.len) in
    let same = items ∙ (c.in_err-handle_at.ensures.err x here ∙ (ap (λ ys. set ys c.dst.result x) value ∙ set_same xs c.dst.result x (ap (slice_get xs) (sym home) ∙ at))) in
    let left = c.in_err-handle_at.ensures.kept in (
      subst (λ xs. IsAlone m (run_at m a.model.now a.stop s n xs) s n) (sym left) kept,
      subst (λ ys. AreCommitted m (run_at m a.model.now a.stop s n c.handle_at.new.pending) (λ r. []) ys) (sym same)
          (subst (λ zs. AreCommitted m (run_at m a.model.now a.stop s n zs) (λ r. []) xs) (sym left) are),
      c.in_err-handle_at.ensures.empty,
      omega (arith, c.in_err-handle_at.ensures.room, c.self.invariant.3),
      c.self.invariant.4,
    )

pub returns-in_err-handle_at-clause-full : goal.returns-in_err-handle_at-clause-full
returns-in_err-handle_at-clause-full g c =
    let a = c.self.inside in
    let sim = λ (model : g.row.M.Denot). simulation_of g.M.Event.Timed.parts g.M.Event.Ord.cmp (g.M.ProcessModel.behaviour model) in
    let m = sim a.model.now in
    let law = c.model_is_lawful.ensures.lawful in
    let e = c.args.event.now in
    let xs = a.members.items in
    let s = a.progress.since in
    let n = a.progress.turns in
    let next = subst (λ run. IsNext (sim run.model) run e) (sym c.self.view_is) c.requires in
    let kept = c.self.invariant.0 in
    let are = c.self.invariant.1 in
    let home = sym c.dst.ensures in
    let value = c.deref_mut.ensures.value in
    let there = there_at xs (m.dst e) (let l = law.receiver e (suits m law a.model.now a.stop s n a.pending kept e next) in let count = are.count in omega (arith, l, count)) in
    let x = there.0 in
    let at = there.1 in
    let is = (are.each (m.dst e) x at).0 in
    let here = ap (λ ys. slice_get ys c.dst.result) value ∙ (ap (slice_get xs) (sym home) ∙ at) in
    λ h.
    let p = err_from_is_err_and c.from_residual-in_err-handle_at.result c.from_residual-in_err-handle_at.ensures.1 in
    let is_full : ◌≡◌ {A = Refused} p.0 CounterFull = cc (p.1, h) in
    let told = c.in_err-handle_at.ensures.full x here (ap (λ y. Err y) (sym p.2 ∙ is_full)) in
    let of_model = subst (λ md. (sim md).full (state (sim md) x.process.number x.process.past) e ≡ true) is.model told in
    let full = subst (λ k. m.full (state m k x.process.past) e ≡ true) is.number of_model in
    subst (λ run. IsFullNext (sim run.model) run) c.self.view_is
    (e, next, subst (λ l. m.full (state m (m.dst e) l) e ≡ true) is.past full)

pub invariant_of-self-2 : goal.invariant_of-self-2
invariant_of-self-2 g c =
    let a = c.self.inside in
    let sim = λ (model : g.row.M.Denot). simulation_of g.M.Event.Timed.parts g.M.Event.Ord.cmp (g.M.ProcessModel.behaviour model) in
    let m = sim a.model.now in
    let law = c.model_is_lawful.ensures.lawful in
    let e = c.args.event.now in
    let xs = a.members.items in
    let s = a.progress.since in
    let n = a.progress.turns in
    let next = subst (λ run. IsNext (sim run.model) run e) (sym c.self.view_is) c.requires in
    let kept = c.self.invariant.0 in
    let are = c.self.invariant.1 in
    let home = sym c.dst.ensures in
    let value = c.deref_mut.ensures.value in
    let there = there_at xs (m.dst e) (let l = law.receiver e (suits m law a.model.now a.stop s n a.pending kept e next) in let count = are.count in omega (arith, l, count)) in
    let x = there.0 in
    let at = there.1 in
    let is = (are.each (m.dst e) x at).0 in
    let here = ap (λ ys. slice_get ys c.dst.result) value ∙ (ap (slice_get xs) (sym home) ∙ at) in
    let p = c.in_ok-progress.progress in
    let further : IsFurther m law a.model.now a.stop s n a.pending kept e next p.since p.turns = record {
      later = λ l. (let k = c.in_ok-progress.ensures.later (omega (arith, l, c.time.ensures)) in (k.0 ∙ c.time.ensures, k.1));
      same = λ l. c.in_ok-progress.ensures.same (omega (arith, l, c.time.ensures));
    } in
    let left = c.handle_at.new.pending in
    let put : left ≡ insert_all m (sent m law a.model.now a.stop s n a.pending kept e next) (drop 1 a.pending) =
    subst (λ md. left ≡ insert_all m ((sim md).sends (state (sim md) x.process.number x.process.past) e) (drop 1 a.pending)) is.model (c.in_ok-handle_at.ensures.pending x here)
    ∙ (ap (λ k. insert_all m (m.sends (state m k x.process.past) e) (drop 1 a.pending)) is.number
    ∙ ap (λ l. insert_all m (m.sends (state m (m.dst e) l) e) (drop 1 a.pending)) is.past) in
    let items = rewritten a.members.len c.handle_at.new.members _ (c.handle_at.auto.members ∙ c.deref_mut.ensures.len) in
    let became = c.in_ok-handle_at.ensures.ok x here
    ∙ (ap (λ ys. set ys c.dst.result (record x { process = handled_in_turn (sim x.process.model) e x.process })) value
    ∙ (ap (λ k. set xs k (record x { process = handled_in_turn (sim x.process.model) e x.process })) (sym home)
    ∙ ap (λ md. set xs (m.dst e) (record x { process = handled_in_turn (sim md) e x.process })) is.model)) in (
      kept_next m law a.model.now a.stop s n a.pending kept e next p.since p.turns further left put,
      subst (λ ys. AreCommitted m (run_at m a.model.now a.stop p.since p.turns left) (λ r. []) ys) (sym (items ∙ became))
          (are_next m law a.model.now a.stop s n a.pending kept e next p.since p.turns further left put xs are x at),
      c.in_ok-handle_at.ensures.empty,
      omega (arith, c.in_ok-handle_at.ensures.room, c.self.invariant.3),
      c.self.invariant.4,
    )

pub returns-clause-ok : goal.returns-clause-ok
returns-clause-ok g c =
    let a = c.self.inside in
    let sim = λ (model : g.row.M.Denot). simulation_of g.M.Event.Timed.parts g.M.Event.Ord.cmp (g.M.ProcessModel.behaviour model) in
    let m = sim a.model.now in
    let law = c.model_is_lawful.ensures.lawful in
    let e = c.args.event.now in
    let xs = a.members.items in
    let s = a.progress.since in
    let n = a.progress.turns in
    let next = subst (λ run. IsNext (sim run.model) run e) (sym c.self.view_is) c.requires in
    let kept = c.self.invariant.0 in
    let are = c.self.invariant.1 in
    let home = sym c.dst.ensures in
    let value = c.deref_mut.ensures.value in
    let there = there_at xs (m.dst e) (let l = law.receiver e (suits m law a.model.now a.stop s n a.pending kept e next) in let count = are.count in omega (arith, l, count)) in
    let x = there.0 in
    let at = there.1 in
    let is = (are.each (m.dst e) x at).0 in
    let here = ap (λ ys. slice_get ys c.dst.result) value ∙ (ap (slice_get xs) (sym home) ∙ at) in
    let p = c.in_ok-progress.progress in
    let further : IsFurther m law a.model.now a.stop s n a.pending kept e next p.since p.turns = record {
      later = λ l. (let k = c.in_ok-progress.ensures.later (omega (arith, l, c.time.ensures)) in (k.0 ∙ c.time.ensures, k.1));
      same = λ l. c.in_ok-progress.ensures.same (omega (arith, l, c.time.ensures));
    } in
    let left = c.handle_at.new.pending in
    let put : left ≡ insert_all m (sent m law a.model.now a.stop s n a.pending kept e next) (drop 1 a.pending) =
    subst (λ md. left ≡ insert_all m ((sim md).sends (state (sim md) x.process.number x.process.past) e) (drop 1 a.pending)) is.model (c.in_ok-handle_at.ensures.pending x here)
    ∙ (ap (λ k. insert_all m (m.sends (state m k x.process.past) e) (drop 1 a.pending)) is.number
    ∙ ap (λ l. insert_all m (m.sends (state m (m.dst e) l) e) (drop 1 a.pending)) is.past) in
    subst (λ run. IsNextRun (sim run.model) run (run_at m a.model.now a.stop p.since p.turns left)) c.self.view_is
    (is_next m law a.model.now a.stop s n a.pending kept e next p.since p.turns further left put)

pub returns-clause-rises : goal.returns-clause-rises
returns-clause-rises g c =
    let a = c.self.inside in
    let sim = λ (model : g.row.M.Denot). simulation_of g.M.Event.Timed.parts g.M.Event.Ord.cmp (g.M.ProcessModel.behaviour model) in
    let m = sim a.model.now in
    let law = c.model_is_lawful.ensures.lawful in
    let e = c.args.event.now in
    let xs = a.members.items in
    let s = a.progress.since in
    let n = a.progress.turns in
    let next = subst (λ run. IsNext (sim run.model) run e) (sym c.self.view_is) c.requires in
    let kept = c.self.invariant.0 in
    let are = c.self.invariant.1 in
    let home = sym c.dst.ensures in
    let value = c.deref_mut.ensures.value in
    let there = there_at xs (m.dst e) (let l = law.receiver e (suits m law a.model.now a.stop s n a.pending kept e next) in let count = are.count in omega (arith, l, count)) in
    let x = there.0 in
    let at = there.1 in
    let is = (are.each (m.dst e) x at).0 in
    let here = ap (λ ys. slice_get ys c.dst.result) value ∙ (ap (slice_get xs) (sym home) ∙ at) in
    let p = c.in_ok-progress.progress in
    let further : IsFurther m law a.model.now a.stop s n a.pending kept e next p.since p.turns = record {
      later = λ l. (let k = c.in_ok-progress.ensures.later (omega (arith, l, c.time.ensures)) in (k.0 ∙ c.time.ensures, k.1));
      same = λ l. c.in_ok-progress.ensures.same (omega (arith, l, c.time.ensures));
    } in
    let left = c.handle_at.new.pending in
    let put : left ≡ insert_all m (sent m law a.model.now a.stop s n a.pending kept e next) (drop 1 a.pending) =
    subst (λ md. left ≡ insert_all m ((sim md).sends (state (sim md) x.process.number x.process.past) e) (drop 1 a.pending)) is.model (c.in_ok-handle_at.ensures.pending x here)
    ∙ (ap (λ k. insert_all m (m.sends (state m k x.process.past) e) (drop 1 a.pending)) is.number
    ∙ ap (λ l. insert_all m (m.sends (state m (m.dst e) l) e) (drop 1 a.pending)) is.past) in
    subst (λ run. bound_of (sim run.model) run ≤ bound_of (sim run.model) (run_at m a.model.now a.stop p.since p.turns left)) c.self.view_is
    (bound_rises m law a.model.now a.stop s n a.pending kept e next p.since p.turns further left put)

pub returns-in_err-handle_at-clause-err : goal.returns-in_err-handle_at-clause-err
returns-in_err-handle_at-clause-err g c =
    let a = c.self.inside in
    let m = simulation_of g.M.Event.Timed.parts g.M.Event.Ord.cmp (g.M.ProcessModel.behaviour a.model.now) in
    if_err c.from_residual-in_err-handle_at.result (ap (run_at m a.model.now a.stop a.progress.since a.progress.turns) c.in_err-handle_at.ensures.kept ∙ c.self.view_is)
