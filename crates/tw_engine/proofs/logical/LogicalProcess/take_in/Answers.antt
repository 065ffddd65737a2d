use Rattle.std.proofs.Common.{◌≡◌, ℕ, cond, OnOk, sym, subst}
use Rattle.tw_core.specs.Steps.{after_antimessage, after_message}
use Rattle.tw_engine.specs.Process.{process_core}
use Rattle.tw_process.specs.Behaviour.{simulation_of}
use Rattle.tw_engine.proofs.logical.LogicalProcess.take_in.Goals as goal

pub returns-then-message-clause-ok : goal.returns-then-message-clause-ok
returns-then-message-clause-ok g c =
    let o = c.args.self.now in
    let e = c.args.message.event in
    let m = simulation_of g.M.Event.Timed.parts g.M.Event.Ord.cmp (g.M.ProcessModel.behaviour c.args.self.now.model) in
    subst (λ b. (stop : ℕ) → OnOk c.arrive.result (process_core stop c.arrive.new.self ≡ cond b (after_message m (process_core stop o) e) (after_antimessage m (process_core stop o) e)))
    (sym c.if-message.true) c.arrive.ensures.ok

pub returns-else-message-clause-ok : goal.returns-else-message-clause-ok
returns-else-message-clause-ok g c =
    let o = c.args.self.now in
    let e = c.args.message.event in
    let m = simulation_of g.M.Event.Timed.parts g.M.Event.Ord.cmp (g.M.ProcessModel.behaviour c.args.self.now.model) in
    subst (λ b. (stop : ℕ) → OnOk c.withdraw.result (process_core stop c.withdraw.new.self ≡ cond b (after_message m (process_core stop o) e) (after_antimessage m (process_core stop o) e)))
    (sym c.if-message.false) c.withdraw.ensures.ok
