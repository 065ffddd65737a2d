use Rattle.std.proofs.Common.{◌≤◌, sym, ◌≡◌, ◌↔◌, Ok, Err, OnOk, subst}
use Rattle.std.specs.Result.{IsErrOf}
use Rattle.tw_core.specs.Steps.{first_pending, handle}
use Rattle.tw_core.specs.declared.refusal.Refusal.{Refusal}
use Rattle.tw_engine.specs.Process.{joined, process_core}
use Rattle.tw_engine.specs.declared.stopped.Stopped.TheVariants as stopped
use Rattle.tw_process.specs.Behaviour.{simulation_of}
use Rattle.tw_engine.proofs.logical.LogicalProcess.handle_next.Goals as goal

pub handle_first-requires-clause-stop : goal.handle_first-requires-clause-stop
handle_first-requires-clause-stop g c = subst (λ p. c.args.stop ≤ (g.M.ProcessModel.behaviour p.model).latest) (sym c.self.view_is) c.requires

pub returns-clause-ok : goal.returns-clause-ok
returns-clause-ok g c =
    let a = c.self.inside in
    subst (λ p. OnOk c.handle_first.result (handle (simulation_of g.M.Event.Timed.parts g.M.Event.Ord.cmp (g.M.ProcessModel.behaviour p.model)) (process_core c.args.stop p) p.number
    (first_pending (simulation_of g.M.Event.Timed.parts g.M.Event.Ord.cmp (g.M.ProcessModel.behaviour p.model)) (process_core c.args.stop p) p.number)
    ≡ Ok (process_core c.args.stop (joined c.handle_first.new.past c.handle_first.new.pending a.kept c.handle_first.new.flight.items a.bound)))) c.self.view_is (c.handle_first.ensures.ok a.kept a.bound)

pub returns-clause-refused : goal.returns-clause-refused
returns-clause-refused g c =
    let a = c.self.inside in
    subst (λ p. (f : Refusal) → IsErrOf c.handle_first.result (stopped.Refused f)
    ↔ (handle (simulation_of g.M.Event.Timed.parts g.M.Event.Ord.cmp (g.M.ProcessModel.behaviour p.model)) (process_core c.args.stop p) p.number
    (first_pending (simulation_of g.M.Event.Timed.parts g.M.Event.Ord.cmp (g.M.ProcessModel.behaviour p.model)) (process_core c.args.stop p) p.number) ≡ Err f)) c.self.view_is (c.handle_first.ensures.refused a.kept a.bound)
