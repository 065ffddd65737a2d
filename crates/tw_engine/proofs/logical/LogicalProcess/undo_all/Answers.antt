use Rattle.tw_engine.specs.Process.{rolls}
use Rattle.tw_engine.proofs.Undoing.{fewer, rolling_none, rolling_same, some_goes, then_done, then_more}
use Rattle.tw_process.specs.Behaviour.{simulation_of}
use Rattle.tw_engine.proofs.logical.LogicalProcess.undo_all.Goals as goal

pub loop-reach-init : goal.loop-reach-init
loop-reach-init g c = rolling_none (simulation_of g.M.Event.Timed.parts g.M.Event.Ord.cmp (g.M.ProcessModel.behaviour c.args.self.now.model)) c.args.reach c.args.self.now

pub step_back-requires : goal.step_back-requires
step_back-requires g c =
    let m = simulation_of g.M.Event.Timed.parts g.M.Event.Ord.cmp (g.M.ProcessModel.behaviour c.loop-reach.self.model) in
    some_goes (rolls m c.args.reach) c.loop-reach.self.ahead c.must_undo.result c.must_undo.ensures c.loop-reach-test.true

pub loop-reach-smaller : goal.loop-reach-smaller
loop-reach-smaller g c =
    let m = simulation_of g.M.Event.Timed.parts g.M.Event.Ord.cmp (g.M.ProcessModel.behaviour c.loop-reach.self.model) in
    fewer m c.loop-reach.self c.step_back.new.self c.in_ok-step_back.ensures.ok

pub loop-reach-preserved : goal.loop-reach-preserved
loop-reach-preserved g c =
    let sim = λ (model : g.row.M.Denot). simulation_of g.M.Event.Timed.parts g.M.Event.Ord.cmp (g.M.ProcessModel.behaviour model) in
    then_more sim c.args.reach c.args.self.now c.loop-reach.self c.loop-reach.invariant c.must_undo.result c.must_undo.ensures c.step_back.new.self c.loop-reach-test.true c.in_ok-step_back.ensures.ok

pub returns : goal.returns
returns g c =
    let sim = λ (model : g.row.M.Denot). simulation_of g.M.Event.Timed.parts g.M.Event.Ord.cmp (g.M.ProcessModel.behaviour model) in
    let far = c.loop-reach.invariant in
    record {
      ok = then_done sim c.args.reach c.args.self.now c.loop-reach.self far c.must_undo.result c.must_undo.ensures c.loop-reach-test.false c.keeps_laws.ensures.lawful c.keeps_laws.ensures.early c.requires.late;
      rest = far.rest;
      undone = far.undone;
      kept = far.kept;
      same = far.share;
    }

pub returns-in_err-step_back-clause-rest : goal.returns-in_err-step_back-clause-rest
returns-in_err-step_back-clause-rest g c =
    let m = simulation_of g.M.Event.Timed.parts g.M.Event.Ord.cmp (g.M.ProcessModel.behaviour c.args.self.now.model) in
    (rolling_same m c.args.reach c.args.self.now c.loop-reach.self c.step_back.new.self c.loop-reach.invariant c.in_err-step_back.ensures.err).rest

pub returns-in_err-step_back-clause-undone : goal.returns-in_err-step_back-clause-undone
returns-in_err-step_back-clause-undone g c =
    let m = simulation_of g.M.Event.Timed.parts g.M.Event.Ord.cmp (g.M.ProcessModel.behaviour c.args.self.now.model) in
    (rolling_same m c.args.reach c.args.self.now c.loop-reach.self c.step_back.new.self c.loop-reach.invariant c.in_err-step_back.ensures.err).undone

pub returns-in_err-step_back-clause-kept : goal.returns-in_err-step_back-clause-kept
returns-in_err-step_back-clause-kept g c =
    let m = simulation_of g.M.Event.Timed.parts g.M.Event.Ord.cmp (g.M.ProcessModel.behaviour c.args.self.now.model) in
    (rolling_same m c.args.reach c.args.self.now c.loop-reach.self c.step_back.new.self c.loop-reach.invariant c.in_err-step_back.ensures.err).kept

pub returns-in_err-step_back-clause-same : goal.returns-in_err-step_back-clause-same
returns-in_err-step_back-clause-same g c =
    let m = simulation_of g.M.Event.Timed.parts g.M.Event.Ord.cmp (g.M.ProcessModel.behaviour c.args.self.now.model) in
    (rolling_same m c.args.reach c.args.self.now c.loop-reach.self c.step_back.new.self c.loop-reach.invariant c.in_err-step_back.ensures.err).share
